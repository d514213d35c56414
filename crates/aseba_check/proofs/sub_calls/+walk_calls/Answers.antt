use Rattle.std.proofs.Common.{◌≡◌, ◌∙◌, ◌++◌, ap, List, append_assoc, map}
use Rattle.aseba_tree.specs.View.{stmts_view}
use Rattle.aseba_tree.specs.Faults as tree
use Rattle.aseba_check.specs.Cycles.{call_view}
use Rattle.aseba_check.proofs.Answering.{on-ok}
use Rattle.aseba_check.proofs.ViewLaws.{if-view, when-view, while-view, for-view}
use Rattle.aseba_check.proofs.sub_calls.+walk_calls.Goals as goal

two-lists : (a b c xs ys : List tree.Call) → b ≡ a ++ xs → c ≡ b ++ ys → c ≡ a ++ (xs ++ ys)
two-lists a b c xs ys e f = f ∙ (ap (λ (l : List tree.Call). l ++ ys) e ∙ append_assoc a xs ys)

pub add_form-returns-in_ok-add_calls-in-If : goal.add_form-returns-in_ok-add_calls-in-If
add_form-returns-in_ok-add_calls-in-If t c =
    let caller = c.args.caller.now in
    rw (c.in-If.is, if-view c.in-If.field-0 c.in-If.then c.in-If.other)
    (on-ok c.add_calls-in-If.result _ _ c.add_calls-in-If.ensures
    (λ h. two-lists (map call_view c.args.calls.now) (map call_view c.add_calls.new.calls) (map call_view c.add_calls-in-If.new.calls) (tree.stmts_calls caller (stmts_view c.in-If.then)) (tree.stmts_calls caller (stmts_view c.in-If.other))
    c.in_ok-add_calls-in-If.ensures h))

pub add_form-returns-in-When : goal.add_form-returns-in-When
add_form-returns-in-When t c = rw (c.in-When.is, when-view c.in-When.field-0 c.in-When.body) c.add_calls-in-When.ensures

pub add_form-returns-in-While : goal.add_form-returns-in-While
add_form-returns-in-While t c = rw (c.in-While.is, while-view c.in-While.field-0 c.in-While.body) c.add_calls-in-While.ensures

pub add_form-returns-in-For : goal.add_form-returns-in-For
add_form-returns-in-For t c = rw (c.in-For.is, for-view c.in-For.field-0 c.in-For.body) c.add_calls-in-For.ensures
