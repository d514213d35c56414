use Rattle.std.proofs.Common.{◌≡◌, ◌+◌, None, sym, ◌∙◌, ap, [], drop}
use Rattle.aseba_tree.specs.declared.expr.Expr.{Expr}
use Rattle.aseba_tree.specs.Value.{as_place, one_element, elements, list_elements, number_of}
use Rattle.aseba_tree.specs.View.{expr_view, exprs_view}
use Rattle.aseba_expand.specs.Constants.{first_of, meant, first_or, prefixed_first, paired_first, ranged_first, number_of_first}
use Rattle.aseba_expand.specs.Scope.{program_of}
use Rattle.aseba_expand.proofs.Firsts.{index-first, range-first, one-first, two-first, list-first, number-first}
use Rattle.aseba_expand.proofs.FormViews.{index-view, range-view, one-view, two-view}
use Rattle.aseba_expand.proofs.Lists.{next_item}
use Rattle.aseba_expand.proofs.constants.+constants.Goals as goal

pub first_cell-returns-in-Index : goal.first_cell-returns-in-Index
first_cell-returns-in-Index t c =
    let consts = (program_of c.args.scope.now).project.consts in
    rw (c.in-Index.is, index-view c.in-Index.field-0 c.in-Index.field-1) (sym (index-first (one_element (elements consts [] (expr_view c.in-Index.field-1)))))

pub first_cell-returns-in-Range : goal.first_cell-returns-in-Range
first_cell-returns-in-Range t c =
    let consts = (program_of c.args.scope.now).project.consts in
    let place = λ (e : Expr). as_place (number_of_first (first_of (elements consts [] (expr_view e)))) in
    let from = c.place_of-from.ensures ∙ ap (λ o. as_place (number_of_first o)) c.first_cell.ensures ∙ ap place c.get.ensures
    ∙ ap as_place (number-first (elements consts [] (expr_view c.in-Range.from))) in
    let to = c.place_of-to.ensures ∙ ap (λ o. as_place (number_of_first o)) c.first_cell-in-Range.ensures ∙ ap place c.get-in-Range.ensures
    ∙ ap as_place (number-first (elements consts [] (expr_view c.in-Range.to))) in
    rw (c.in-Range.is, range-view c.in-Range.field-0 c.in-Range.from c.in-Range.to) (c.cell_or_absent.ensures ∙ (λ i. ranged_first (from i) (to i))
    ∙ sym (range-first (number_of (elements consts [] (expr_view c.in-Range.from))) (number_of (elements consts [] (expr_view c.in-Range.to)))))

pub first_cell-returns-in-One : goal.first_cell-returns-in-One
first_cell-returns-in-One t c =
    let consts = (program_of c.args.scope.now).project.consts in
    let operand = c.first_cell-in-One.ensures ∙ ap (λ (e : Expr). first_of (elements consts [] (expr_view e))) c.get-in-One.ensures in
    rw (c.in-One.is, one-view c.in-One.op c.in-One.operand) (c.prefixed.ensures ∙ ap (prefixed_first c.in-One.op) operand ∙ sym (one-first c.in-One.op (elements consts [] (expr_view c.in-One.operand))))

pub first_cell-returns-in-Two : goal.first_cell-returns-in-Two
first_cell-returns-in-Two t c =
    let consts = (program_of c.args.scope.now).project.consts in
    let left = c.first_cell-left.ensures ∙ ap (λ (e : Expr). first_of (elements consts [] (expr_view e))) c.get-in-Two.ensures in
    let right = c.first_cell-in-Two.ensures ∙ ap (λ (e : Expr). first_of (elements consts [] (expr_view e))) c.get-in-Two-2.ensures in
    rw (c.in-Two.is, two-view c.in-Two.op c.in-Two.left c.in-Two.right) (c.paired.ensures ∙ (λ i. paired_first c.in-Two.op (left i) (right i))
    ∙ sym (two-first c.in-Two.op (elements consts [] (expr_view c.in-Two.left)) (elements consts [] (expr_view c.in-Two.right))))

pub first_of_list-loop-item-preserved : goal.first_of_list-loop-item-preserved
first_of_list-loop-item-preserved t c =
    let consts = (program_of c.args.scope.now).project.consts in
    let items = c.as_slice-item-items.result.now in
    let rest = drop (c.loop-item.item-index + 1) items in
    let here = next_item items c.loop-item.item-index c.item-item.result c.loop-item-test.true c.item-item.is in
    let absent : first_of (elements consts [] (expr_view c.item-item.result)) ≡ None = sym c.first_cell.ensures ∙ ap meant c.in-Absent.is in
    sym (ap (λ o. first_or o (first_of (list_elements consts [] (exprs_view rest)))) absent)
    ∙ sym (list-first (elements consts [] (expr_view c.item-item.result)) (list_elements consts [] (exprs_view rest)))
    ∙ sym (ap (λ es. first_of (list_elements consts [] (exprs_view es))) here)
    ∙ c.loop-item.invariant
