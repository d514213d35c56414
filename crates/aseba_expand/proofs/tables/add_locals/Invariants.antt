use Rattle.std.proofs.Common.{◌≡◌, drop}
use Rattle.aseba_check.specs.Looked.{looked}
use Rattle.aseba_expand.specs.Tables.{with_locals}
use Rattle.aseba_expand.proofs.tables.add_locals.Given as goal

abbrev pub invariant-loop-before : goal.invariant-loop-before
invariant-loop-before l = with_locals (looked l.known) l.before (drop l.before l.locals) ≡ with_locals (looked l.fn.known) 0 l.locals
