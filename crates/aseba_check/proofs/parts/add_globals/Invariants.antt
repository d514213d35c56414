use Rattle.std.proofs.Common.{◌≡◌, drop}
use Rattle.aseba_check.specs.Looked.{looked}
use Rattle.aseba_check.specs.Parts.{with_globals}
use Rattle.aseba_check.proofs.parts.add_globals.Given as goal

abbrev pub invariant-loop-event : goal.invariant-loop-event
invariant-loop-event l = with_globals (looked l.events) (drop l.event-index l.globals) ≡ with_globals (looked l.fn.events) l.globals
