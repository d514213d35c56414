-- What the view of a list in a tree is.
use Rattle.std.proofs.Common.{◌≡◌, ◌∙◌, sym, ap, List, map}
use mathlib.Core.Path.{fun_ext}
use Rattle.aseba_tree.specs.declared.expr.Expr.{Expr}
use Rattle.aseba_tree.specs.declared.expr.Form.TheVariants.{Items, rolls-Items}
use Rattle.aseba_tree.specs.declared.expr.Form.TheOpen.{Form-F}
use Rattle.aseba_tree.specs.declared.expr.Form.TheFolds.{fold-Expr, fold-roll-Form, fold_out-Expr}
use Rattle.aseba_tree.specs.declared.stmt.ForHead.{ForHead}
use Rattle.aseba_tree.specs.declared.stmt.Stmt.{Stmt}
use Rattle.aseba_tree.specs.declared.stmt.StmtForm.TheVariants.{If, When, While, For, rolls-If, rolls-When, rolls-While, rolls-For}
use Rattle.aseba_tree.specs.declared.stmt.StmtForm.TheOpen.{StmtForm-F}
use Rattle.aseba_tree.specs.declared.stmt.StmtForm.TheFolds.{fold-Stmt, fold-roll-StmtForm, fold_out-Stmt}
use Rattle.aseba_tree.specs.Code as tree
use Rattle.aseba_tree.specs.View.{form_view, expr_view, exprs_of, exprs_view, form_step, expr_step, head_view, stmt_view, stmt_form_view, stmts_of, stmts_view, stmt_form_step, stmt_step}

folded-expr : (e : Expr) → fold-Expr tree.Form tree.Expr form_step expr_step e ≡ expr_view e
folded-expr e = fold_out-Expr tree.Form tree.Expr form_step expr_step e

pub items-view : (es : List Expr) → form_view (Items es) ≡ tree.items (exprs_view es)
items-view es =
    ap form_view (sym (rolls-Items es)) ∙ (fold-roll-Form tree.Form tree.Expr form_step expr_step (Form-F.Items es) ∙ ap (λ (f : Expr → tree.Expr). tree.items (exprs_of (map f es))) (fun_ext folded-expr))

-- Statements

folded-stmt : (s : Stmt) → fold-Stmt tree.StmtForm tree.Stmt stmt_form_step stmt_step s ≡ stmt_view s
folded-stmt s = fold_out-Stmt tree.StmtForm tree.Stmt stmt_form_step stmt_step s

pub if-view : (c : Expr) (t o : List Stmt) → stmt_form_view (If c t o) ≡ tree.if_then (expr_view c) (stmts_view t) (stmts_view o)
if-view c t o =
    ap stmt_form_view (sym (rolls-If c t o))
    ∙ (fold-roll-StmtForm tree.StmtForm tree.Stmt stmt_form_step stmt_step (StmtForm-F.If c t o) ∙ ap (λ (f : Stmt → tree.Stmt). tree.if_then (expr_view c) (stmts_of (map f t)) (stmts_of (map f o))) (fun_ext folded-stmt))

pub when-view : (c : Expr) (body : List Stmt) → stmt_form_view (When c body) ≡ tree.when_do (expr_view c) (stmts_view body)
when-view c body =
    ap stmt_form_view (sym (rolls-When c body))
    ∙ (fold-roll-StmtForm tree.StmtForm tree.Stmt stmt_form_step stmt_step (StmtForm-F.When c body) ∙ ap (λ (f : Stmt → tree.Stmt). tree.when_do (expr_view c) (stmts_of (map f body))) (fun_ext folded-stmt))

pub while-view : (c : Expr) (body : List Stmt) → stmt_form_view (While c body) ≡ tree.while_do (expr_view c) (stmts_view body)
while-view c body =
    ap stmt_form_view (sym (rolls-While c body))
    ∙ (fold-roll-StmtForm tree.StmtForm tree.Stmt stmt_form_step stmt_step (StmtForm-F.While c body) ∙ ap (λ (f : Stmt → tree.Stmt). tree.while_do (expr_view c) (stmts_of (map f body))) (fun_ext folded-stmt))

pub for-view : (head : ForHead) (body : List Stmt) → stmt_form_view (For head body) ≡ tree.for_do (head_view head) (stmts_view body)
for-view head body =
    ap stmt_form_view (sym (rolls-For head body))
    ∙ (fold-roll-StmtForm tree.StmtForm tree.Stmt stmt_form_step stmt_step (StmtForm-F.For head body) ∙ ap (λ (f : Stmt → tree.Stmt). tree.for_do (head_view head) (stmts_of (map f body))) (fun_ext folded-stmt))
