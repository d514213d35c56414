use Rattle.std.proofs.Common.{sym, ◌∙◌, ap, ◌∷◌}
use Rattle.std.specs.Prelude.{option_to_list}
use Rattle.std.specs.List.{list_all}
use Rattle.aseba_tree.specs.declared.stmt.ForHead.{ForHead}
use Rattle.aseba_tree.specs.Shape.{stmts_exprs}
use Rattle.aseba_tree.specs.View.{exprs_view, head_view, stmts_view}
use Rattle.aseba_check.proofs.ViewLaws.{for-view}
use Rattle.aseba_expand.specs.Literals.{has_cell_numbers}
use Rattle.aseba_expand.proofs.ReadNumbers.{join, listed, call-view}
use Rattle.aseba_expand.proofs.numbers.+read_stmts.Goals as goal

pub read_stmt_form-returns-in-For : goal.read_stmt_form-returns-in-For
read_stmt_form-returns-in-For t c =
    let head = head_view c.in-For.head in
    let own = sym (ap (λ (h : ForHead). list_all has_cell_numbers ((head_view h).first ∷ (head_view h).last ∷ option_to_list (head_view h).step)) c.get-in-For.ensures) ∙ c.read_head.ensures in
    rw (c.in-For.is, for-view c.in-For.head c.in-For.body) (join (head.first ∷ head.last ∷ option_to_list head.step) (stmts_exprs (stmts_view c.in-For.body)) own c.read_stmts-in-For.ensures)

pub read_stmt_form-returns-in-Call : goal.read_stmt_form-returns-in-Call
read_stmt_form-returns-in-Call t c = rw (c.in-Call.is, call-view c.in-Call.field-0 c.in-Call.arguments) (listed (exprs_view c.in-Call.arguments) c.read_exprs.ensures)
