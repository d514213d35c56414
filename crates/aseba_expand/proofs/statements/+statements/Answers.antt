use Rattle.std.proofs.Common.{◌∙◌, ap, [], ◌∷◌, ◌++◌, map}
use Rattle.aseba_tree.specs.declared.expr.Expr.{Expr}
use Rattle.aseba_tree.specs.Core.{CoreForm, core_stmt}
use Rattle.aseba_tree.specs.Elements.{element_of}
use Rattle.aseba_tree.specs.View.{core_stmt_view, expr_view, head_view, stmts_view}
use Rattle.aseba_expand.specs.Listed.{listed_all, listed_loop}
use Rattle.aseba_expand.specs.Scope.{program_of}
use Rattle.aseba_check.proofs.ViewLaws.{if-view, when-view, while-view, for-view}
use Rattle.aseba_expand.proofs.CoreViews.{if-made, when-made, loop-made}
use Rattle.aseba_expand.proofs.Stored.{on-ok}
use Rattle.aseba_expand.proofs.statements.+statements.Goals as goal

pub add_form-returns-in_ok-other-in-If : goal.add_form-returns-in_ok-other-in-If
add_form-returns-in_ok-other-in-If t c =
    let program = program_of c.args.scope.now in
    let test = c.in_ok-test-in-If.ensures ∙ ap (λ (e : Expr). element_of program (expr_view e)) c.get-in-If.ensures in
    let made = if-made c.in_ok-test-in-If.test c.in_ok-then-in-If.then c.in_ok-other-in-If.other (element_of program (expr_view c.in-If.test)) (listed_all program (stmts_view c.in-If.then)) (listed_all program (stmts_view c.in-If.other))
    test c.in_ok-then-in-If.ensures c.in_ok-other-in-If.ensures in
    rw (c.in-If.is, if-view c.in-If.test c.in-If.then c.in-If.other)
    (on-ok c.add_core.result _ _ (λ all. all ∙ ap (λ (f : CoreForm). map core_stmt_view c.args.built.now ++ core_stmt c.args.line f ∷ []) made) c.add_core.ensures)

pub add_form-returns-in_ok-then-in-When : goal.add_form-returns-in_ok-then-in-When
add_form-returns-in_ok-then-in-When t c =
    let program = program_of c.args.scope.now in
    let test = c.in_ok-test-in-When.ensures ∙ ap (λ (e : Expr). element_of program (expr_view e)) c.get-in-When.ensures in
    let made = when-made c.in_ok-test-in-When.test c.in_ok-then-in-When.then (element_of program (expr_view c.in-When.test)) (listed_all program (stmts_view c.in-When.then)) test c.in_ok-then-in-When.ensures in
    rw (c.in-When.is, when-view c.in-When.test c.in-When.then)
    (on-ok c.add_core-in-When.result _ _ (λ all. all ∙ ap (λ (f : CoreForm). map core_stmt_view c.args.built.now ++ core_stmt c.args.line f ∷ []) made) c.add_core-in-When.ensures)

pub add_form-returns-in_ok-then-in-While : goal.add_form-returns-in_ok-then-in-While
add_form-returns-in_ok-then-in-While t c =
    let program = program_of c.args.scope.now in
    let test = c.in_ok-test-in-While.ensures ∙ ap (λ (e : Expr). element_of program (expr_view e)) c.get-in-While.ensures in
    let made = loop-made c.in_ok-test-in-While.test c.in_ok-then-in-While.then (element_of program (expr_view c.in-While.test)) (listed_all program (stmts_view c.in-While.then)) test c.in_ok-then-in-While.ensures in
    rw (c.in-While.is, while-view c.in-While.test c.in-While.then)
    (on-ok c.add_core-in-While.result _ _ (λ all. all ∙ ap (λ (f : CoreForm). map core_stmt_view c.args.built.now ++ core_stmt c.args.line f ∷ []) made) c.add_core-in-While.ensures)

pub add_form-returns-in_ok-then-in-For : goal.add_form-returns-in_ok-then-in-For
add_form-returns-in_ok-then-in-For t c =
    let program = program_of c.args.scope.now in
    rw (c.in-For.is, for-view c.in-For.head c.in-For.then)
    (on-ok c.add_loop.result _ _
    (λ all. all ∙ (λ i. map core_stmt_view c.args.built.now ++ listed_loop program c.args.line (head_view (c.get-in-For.ensures i)) (c.in_ok-then-in-For.ensures i)))
    c.add_loop.ensures)
