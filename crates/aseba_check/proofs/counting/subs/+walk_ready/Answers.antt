use Rattle.std.proofs.Common.{◌≡◌, ◌∙◌, sym, Bool, true, false}
use Rattle.std.specs.Prelude.{◌&&◌}
use Rattle.aseba_check.proofs.ViewLaws.{if-view, when-view, while-view, for-view}
use Rattle.aseba_check.proofs.counting.subs.+walk_ready.Goals as goal

first-true : (a b r : Bool) → a ≡ true → r ≡ b → r ≡ (a && b)
first-true true b r e f = f
first-true false b r e f = cc

first-false : (a b r : Bool) → r ≡ a → r ≡ false → r ≡ (a && b)
first-false true b r e f = cc
first-false false b r e f = e

pub is_form_ready-returns-then-are_ready : goal.is_form_ready-returns-then-are_ready
is_form_ready-returns-then-are_ready t c =
    rw (c.in-If.is, if-view c.in-If.field-0 c.in-If.then c.in-If.other) (first-true _ _ c.are_ready-then-are_ready.result (sym c.are_ready.ensures ∙ c.if-are_ready.true) c.are_ready-then-are_ready.ensures)

pub is_form_ready-returns-else-are_ready : goal.is_form_ready-returns-else-are_ready
is_form_ready-returns-else-are_ready t c =
    rw (c.in-If.is, if-view c.in-If.field-0 c.in-If.then c.in-If.other) (first-false _ _ c.are_ready.result c.are_ready.ensures c.if-are_ready.false)

pub is_form_ready-returns-in-When : goal.is_form_ready-returns-in-When
is_form_ready-returns-in-When t c = rw (c.in-When.is, when-view c.in-When.field-0 c.in-When.body) c.are_ready-in-When.ensures

pub is_form_ready-returns-in-While : goal.is_form_ready-returns-in-While
is_form_ready-returns-in-While t c = rw (c.in-While.is, while-view c.in-While.field-0 c.in-While.body) c.are_ready-in-While.ensures

pub is_form_ready-returns-in-For : goal.is_form_ready-returns-in-For
is_form_ready-returns-in-For t c = rw (c.in-For.is, for-view c.in-For.field-0 c.in-For.body) c.are_ready-in-For.ensures
