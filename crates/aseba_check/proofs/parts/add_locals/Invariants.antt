use Rattle.std.proofs.Common.{◌≡◌, drop}
use Rattle.aseba_check.specs.Looked.{looked}
use Rattle.aseba_check.specs.Parts.{with_locals}
use Rattle.aseba_check.proofs.parts.add_locals.Given as goal

abbrev pub invariant-loop-event : goal.invariant-loop-event
invariant-loop-event l = with_locals (looked l.events) (drop l.event-index l.locals) ≡ with_locals (looked l.fn.events) l.locals
