use Rattle.std.proofs.Common.{◌≡◌, drop}
use Rattle.aseba_check.specs.Looked.{looked}
use Rattle.aseba_check.specs.Declarations.{with_consts, ConstsFit}
use Rattle.aseba_check.proofs.declarations.add_constants.Given as goal

abbrev pub invariant-loop-constant : goal.invariant-loop-constant
invariant-loop-constant l = record {
  names : with_consts (looked l.names) (drop l.constant-index l.consts) ≡ with_consts (looked l.fn.names) l.consts;
  fits : ConstsFit (drop l.constant-index l.consts) → ConstsFit l.consts;
}
