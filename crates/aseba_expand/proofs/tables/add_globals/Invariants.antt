use Rattle.std.proofs.Common.{◌≡◌, drop}
use Rattle.aseba_check.specs.Looked.{looked}
use Rattle.aseba_expand.specs.Tables.{with_globals}
use Rattle.aseba_expand.proofs.tables.add_globals.Given as goal

abbrev pub invariant-loop-number : goal.invariant-loop-number
invariant-loop-number l = with_globals (looked l.known) l.number (drop l.number l.globals) ≡ with_globals (looked l.fn.known) 0 l.globals
