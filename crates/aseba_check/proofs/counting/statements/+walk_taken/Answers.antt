use Rattle.std.proofs.Common.{◌≡◌, ◌∙◌, ap}
use Rattle.aseba_tree.specs.declared.expr.Expr.{Expr}
use Rattle.aseba_tree.specs.declared.stmt.ForHead.{ForHead}
use Rattle.aseba_tree.specs.View.{expr_view, head_view, stmts_view}
use Rattle.aseba_check.specs.declared.counting.taken.Taken.{Taken}
use Rattle.aseba_check.specs.Looked.{looked}
use Rattle.aseba_check.specs.CountedStatements as told
use Rattle.aseba_check.proofs.ViewLaws.{if-view, when-view, while-view, for-view}
use Rattle.aseba_check.proofs.counting.statements.+walk_taken.Goals as goal

behind-eq : (a b c d : Taken) → a ≡ b → c ≡ d → told.behind a c ≡ told.behind b d
behind-eq a b c d p q = ap (λ (t : Taken). told.behind t c) p ∙ ap (told.behind b) q

pub form_taken-returns-in-If : goal.form_taken-returns-in-If
form_taken-returns-in-If t c =
    let test = c.test_taken-test.ensures ∙ ap (λ (e : Expr). told.test_taken (looked c.args.world.now.names) (expr_view e)) c.get-in-If.ensures in
    let other = c.with_jump-behind_jump.ensures ∙ ap (told.with_jump c.args.jump (stmts_view c.in-If.other)) c.body_taken.ensures in
    rw (c.in-If.is, if-view c.in-If.test c.in-If.then c.in-If.other)
    (c.behind-in-If.ensures ∙ behind-eq _ _ _ _ (c.behind.ensures ∙ behind-eq _ _ _ _ test c.body_taken-then.ensures) other)

pub form_taken-returns-in-When : goal.form_taken-returns-in-When
form_taken-returns-in-When t c =
    let test = c.test_taken-test-in-When.ensures ∙ ap (λ (e : Expr). told.test_taken (looked c.args.world.now.names) (expr_view e)) c.get-in-When.ensures in
    rw (c.in-When.is, when-view c.in-When.test c.in-When.body) (c.behind-in-When.ensures ∙ behind-eq _ _ _ _ test c.body_taken-in-When.ensures)

pub form_taken-returns-in-While : goal.form_taken-returns-in-While
form_taken-returns-in-While t c =
    let test = c.test_taken.ensures ∙ ap (λ (e : Expr). told.test_taken (looked c.args.world.now.names) (expr_view e)) c.get-in-While.ensures in
    let jumping = c.longer-test.ensures ∙ ap (λ (t : Taken). told.longer t c.args.jump) test in
    rw (c.in-While.is, while-view c.in-While.test c.in-While.body) (c.behind-in-While.ensures ∙ behind-eq _ _ _ _ jumping c.body_taken-in-While.ensures)

pub form_taken-returns-in-For : goal.form_taken-returns-in-For
form_taken-returns-in-For t c =
    let head = c.head_taken-head.ensures ∙ ap (λ (h : ForHead). told.head_taken (looked c.args.world.now.names) c.args.jump (head_view h)) c.get-in-For.ensures in
    rw (c.in-For.is, for-view c.in-For.head c.in-For.body) (c.behind-in-For.ensures ∙ behind-eq _ _ _ _ head c.body_taken-in-For.ensures)
