-- The numbers of expressions in lists, and of the arguments of a call.
use Rattle.std.proofs.Common.{◌≡◌, refl, sym, ◌∙◌, ap, true, List, [], ◌∷◌, ◌++◌}
use Rattle.std.specs.List.{list_all}
use Rattle.aseba_tree.specs.Code as tree
use Rattle.aseba_tree.specs.declared.expr.Expr.{Expr}
use Rattle.aseba_tree.specs.declared.stmt.StmtForm.TheVariants.{Call, rolls-Call}
use Rattle.aseba_tree.specs.declared.stmt.StmtForm.TheOpen.{StmtForm-F}
use Rattle.aseba_tree.specs.declared.stmt.StmtForm.TheFolds.{fold-roll-StmtForm}
use Rattle.aseba_tree.specs.Shape.{to_list}
use Rattle.aseba_tree.specs.View.{exprs_view, stmt_form_view, stmt_form_step, stmt_step}
use Rattle.aseba_tree.proofs.SizeLaws.{both_left, both_right}
use Rattle.aseba_expand.specs.Literals.{has_cell_numbers, have_cell_numbers}
use Rattle.aseba_expand.proofs.Readable.{both}

pub join : (xs ys : List tree.Expr) → list_all has_cell_numbers xs ≡ true → list_all has_cell_numbers ys ≡ true → list_all has_cell_numbers (xs ++ ys) ≡ true
join [] ys h k = k
join (x ∷ xs) ys h k = both (has_cell_numbers x) _ (both_left (has_cell_numbers x) _ h) (join xs ys (both_right (has_cell_numbers x) _ h) k)

pub listed : (es : tree.Exprs) → have_cell_numbers es ≡ true → list_all has_cell_numbers (to_list es) ≡ true
listed tree.no_exprs h = refl
listed (tree.exprs e es) h = both (has_cell_numbers e) _ (both_left (has_cell_numbers e) _ h) (listed es (both_right (has_cell_numbers e) _ h))

pub call-view : (name : tree.Name) (es : List Expr) → stmt_form_view (Call name es) ≡ tree.call name (exprs_view es)
call-view name es = ap stmt_form_view (sym (rolls-Call name es)) ∙ fold-roll-StmtForm tree.StmtForm tree.Stmt stmt_form_step stmt_step (StmtForm-F.Call name es)
