use Rattle.std.proofs.Common.{◌≡◌, ◌≤◌, not, true, List, [], ◌∷◌, length, refl, ap, arith}
use Rattle.aseba_tree.specs.CoreShape.{is_last}
use Rattle.aseba_tree.specs.View.{core_stmts_view}
use Rattle.aseba_tree.specs.declared.core_tree.CoreStmt.{CoreStmt}
use Rattle.aseba_codegen.proofs.statements.has_any.Goals as goal

some-stand : (xs : List CoreStmt) → 1 ≤ length xs → true ≡ not (is_last (core_stmts_view xs))
some-stand [] h = absurd (omega arith)
some-stand (x ∷ xs) h = refl

pub returns-in_default : goal.returns-in_default
returns-in_default c = some-stand c.args.body.now (omega (arith, ap length c.as_slice.ensures))
