use Rattle.std.proofs.Common.{◌≡◌, refl, ◌∙◌, ℕ, ◌≤◌, List, [], ◌∷◌, length, subst, arith}
use Rattle.aseba_tree.specs.declared.stmt.Stmt.{Stmt}
use Rattle.aseba_tree.specs.View.{stmts_view}
use Rattle.aseba_check.specs.declared.counting.taken.Taken.{Taken}
use Rattle.aseba_check.specs.CountedStatements.{longer, with_jump}
use Rattle.aseba_check.proofs.counting.statements.with_jump.Goals as goal

over-statements : (jump : ℕ) (ss : List Stmt) (t : Taken) → 1 ≤ length ss → longer t jump ≡ with_jump jump (stmts_view ss) t
over-statements jump [] t h = absurd (omega arith)
over-statements jump (s ∷ ss) t h = refl

pub returns-in_default : goal.returns-in_default
returns-in_default c = c.longer.ensures ∙ over-statements c.args.jump c.args.other.now c.args.taken (subst (λ (ss : List Stmt). 1 ≤ length ss) c.as_slice.ensures c.in_default.len_at_least)
