use Rattle.std.proofs.Common.{◌∙◌, ap, subst, Option}
use Rattle.aseba_tree.specs.declared.expr.Expr.{Expr}
use Rattle.aseba_tree.specs.declared.stmt.ForHead.{ForHead}
use Rattle.aseba_tree.specs.View.{expr_view, head_view, stmts_view}
use Rattle.aseba_check.specs.declared.fault.Fault.{Fault}
use Rattle.aseba_tree.specs.Each.{EachHead}
use Rattle.aseba_check.specs.Fits.{Fits}
use Rattle.aseba_check.specs.Looked.{looked}
use Rattle.aseba_check.specs.Statements as told
use Rattle.aseba_check.proofs.Answering.{ok-is, on-ok}
use Rattle.aseba_check.proofs.ViewLaws.{if-view, when-view, while-view, for-view}
use Rattle.aseba_check.proofs.statements.+walk_stmt.Goals as goal

pub form_fault-returns-in_ok-fault-in-If-clause-told : goal.form_fault-returns-in_ok-fault-in-If-clause-told
form_fault-returns-in_ok-fault-in-If-clause-told t c =
    let known = told.known_of c.args.world.now in
    let first = c.tested-fault.ensures.told ∙ ap (λ (e : Expr). told.tested (looked c.args.world.now.names) c.args.before (expr_view e)) c.get-in-If.ensures in
    rw (c.in-If.is, if-view c.in-If.test c.in-If.then c.in-If.other)
    (ok-is c.body_fault-in-If.result _ _ c.body_fault-in-If.ensures.told
    (ap (λ (o : Option Fault). told.stmts_told known o (stmts_view c.in-If.other)) (c.in_ok-fault-in-If.ensures.told ∙ ap (λ (o : Option Fault). told.stmts_told known o (stmts_view c.in-If.then)) first)))

pub form_fault-returns-in_ok-fault-in-If-clause-fits : goal.form_fault-returns-in_ok-fault-in-If-clause-fits
form_fault-returns-in_ok-fault-in-If-clause-fits t c =
    let test = subst (λ (e : Expr). Fits (expr_view e)) c.get-in-If.ensures c.tested-fault.ensures.fits in
    rw (c.in-If.is, if-view c.in-If.test c.in-If.then c.in-If.other) (on-ok c.body_fault-in-If.result _ _ c.body_fault-in-If.ensures.fits (λ h. (test, c.in_ok-fault-in-If.ensures.fits, h)))

pub form_fault-returns-in-When-clause-told : goal.form_fault-returns-in-When-clause-told
form_fault-returns-in-When-clause-told t c =
    let known = told.known_of c.args.world.now in
    let first = c.tested-fault-in-When.ensures.told ∙ ap (λ (e : Expr). told.tested (looked c.args.world.now.names) c.args.before (expr_view e)) c.get-in-When.ensures in
    rw (c.in-When.is, when-view c.in-When.test c.in-When.body)
    (ok-is c.body_fault-in-When.result _ _ c.body_fault-in-When.ensures.told (ap (λ (o : Option Fault). told.stmts_told known o (stmts_view c.in-When.body)) first))

pub form_fault-returns-in-When-clause-fits : goal.form_fault-returns-in-When-clause-fits
form_fault-returns-in-When-clause-fits t c =
    let test = subst (λ (e : Expr). Fits (expr_view e)) c.get-in-When.ensures c.tested-fault-in-When.ensures.fits in
    rw (c.in-When.is, when-view c.in-When.test c.in-When.body) (on-ok c.body_fault-in-When.result _ _ c.body_fault-in-When.ensures.fits (λ h. (test, h)))

pub form_fault-returns-in-While-clause-told : goal.form_fault-returns-in-While-clause-told
form_fault-returns-in-While-clause-told t c =
    let known = told.known_of c.args.world.now in
    let first = c.tested-fault-in-While.ensures.told ∙ ap (λ (e : Expr). told.tested (looked c.args.world.now.names) c.args.before (expr_view e)) c.get-in-While.ensures in
    rw (c.in-While.is, while-view c.in-While.test c.in-While.body)
    (ok-is c.body_fault-in-While.result _ _ c.body_fault-in-While.ensures.told (ap (λ (o : Option Fault). told.stmts_told known o (stmts_view c.in-While.body)) first))

pub form_fault-returns-in-While-clause-fits : goal.form_fault-returns-in-While-clause-fits
form_fault-returns-in-While-clause-fits t c =
    let test = subst (λ (e : Expr). Fits (expr_view e)) c.get-in-While.ensures c.tested-fault-in-While.ensures.fits in
    rw (c.in-While.is, while-view c.in-While.test c.in-While.body) (on-ok c.body_fault-in-While.result _ _ c.body_fault-in-While.ensures.fits (λ h. (test, h)))

pub form_fault-returns-in-For-clause-told : goal.form_fault-returns-in-For-clause-told
form_fault-returns-in-For-clause-told t c =
    let known = told.known_of c.args.world.now in
    let first = c.headed-fault.ensures.told ∙ ap (λ (h : ForHead). told.headed (looked c.args.world.now.names) c.args.before c.args.at (head_view h)) c.get-in-For.ensures in
    rw (c.in-For.is, for-view c.in-For.head c.in-For.body)
    (ok-is c.body_fault-in-For.result _ _ c.body_fault-in-For.ensures.told (ap (λ (o : Option Fault). told.stmts_told known o (stmts_view c.in-For.body)) first))

pub form_fault-returns-in-For-clause-fits : goal.form_fault-returns-in-For-clause-fits
form_fault-returns-in-For-clause-fits t c =
    let head = subst (λ (h : ForHead). EachHead Fits (head_view h)) c.get-in-For.ensures c.headed-fault.ensures.fits in
    rw (c.in-For.is, for-view c.in-For.head c.in-For.body) (on-ok c.body_fault-in-For.result _ _ c.body_fault-in-For.ensures.fits (λ h. (head, h)))
