use Rattle.std.proofs.Common.{◌≡◌, drop}
use Rattle.aseba_check.specs.Looked.{looked}
use Rattle.aseba_expand.specs.Tables.{with_consts}
use Rattle.aseba_expand.proofs.tables.add_consts.Given as goal

abbrev pub invariant-loop-constant : goal.invariant-loop-constant
invariant-loop-constant l = with_consts (looked l.known) (drop l.constant-index l.consts) ≡ with_consts (looked l.fn.known) l.consts
