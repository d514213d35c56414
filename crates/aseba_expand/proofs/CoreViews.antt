-- What the view of a core is, of a cell and of statements with others in them.
use Rattle.std.proofs.Common.{◌≡◌, ◌∙◌, sym, ap, ℕ, List, map}
use mathlib.Core.Path.{fun_ext}
use Rattle.aseba_tree.specs.CoreExpr as core_expr
use Rattle.aseba_tree.specs.Core as core_tree
use Rattle.aseba_tree.specs.View.{core_expr_step, core_expr_view, core_form_view, core_stmt_view, core_stmts_of, core_stmts_view, core_form_step, core_stmt_step}
use Rattle.aseba_tree.specs.declared.core_tree.CoreExpr.{CoreExpr}
use Rattle.aseba_tree.specs.declared.core_tree.CoreExpr.TheVariants.{Cell, rolls-Cell}
use Rattle.aseba_tree.specs.declared.core_tree.CoreExpr.TheOpen.{CoreExpr-F}
use Rattle.aseba_tree.specs.declared.core_tree.CoreExpr.TheFolds.{fold-roll-CoreExpr}
use Rattle.aseba_tree.specs.declared.core_tree.CoreStmt.{CoreStmt}
use Rattle.aseba_tree.specs.declared.core_tree.CoreForm.TheVariants.{If, When, While, rolls-If, rolls-When, rolls-While}
use Rattle.aseba_tree.specs.declared.core_tree.CoreForm.TheOpen.{CoreForm-F}
use Rattle.aseba_tree.specs.declared.core_tree.CoreForm.TheFolds.{fold-CoreStmt, fold-roll-CoreForm, fold_out-CoreStmt}

pub cell-view : (a : ℕ) → core_expr_view (Cell a) ≡ core_expr.cell a
cell-view a = ap core_expr_view (sym (rolls-Cell a)) ∙ fold-roll-CoreExpr core_expr.CoreExpr core_expr_step (CoreExpr-F.Cell a)

folded : (s : CoreStmt) → fold-CoreStmt core_tree.CoreForm core_tree.CoreStmt core_form_step core_stmt_step s ≡ core_stmt_view s
folded s = fold_out-CoreStmt core_tree.CoreForm core_tree.CoreStmt core_form_step core_stmt_step s

if-view : (c : CoreExpr) (t o : List CoreStmt) → core_form_view (If c t o) ≡ core_tree.branch (core_expr_view c) (core_stmts_view t) (core_stmts_view o)
if-view c t o =
    ap core_form_view (sym (rolls-If c t o))
    ∙ (fold-roll-CoreForm core_tree.CoreForm core_tree.CoreStmt core_form_step core_stmt_step (CoreForm-F.If c t o) ∙ ap (λ (f : CoreStmt → core_tree.CoreStmt). core_tree.branch (core_expr_view c) (core_stmts_of (map f t)) (core_stmts_of (map f o))) (fun_ext folded))

when-view : (c : CoreExpr) (body : List CoreStmt) → core_form_view (When c body) ≡ core_tree.on_edge (core_expr_view c) (core_stmts_view body)
when-view c body =
    ap core_form_view (sym (rolls-When c body))
    ∙ (fold-roll-CoreForm core_tree.CoreForm core_tree.CoreStmt core_form_step core_stmt_step (CoreForm-F.When c body) ∙ ap (λ (f : CoreStmt → core_tree.CoreStmt). core_tree.on_edge (core_expr_view c) (core_stmts_of (map f body))) (fun_ext folded))

loop-view : (c : CoreExpr) (body : List CoreStmt) → core_form_view (While c body) ≡ core_tree.loop (core_expr_view c) (core_stmts_view body)
loop-view c body =
    ap core_form_view (sym (rolls-While c body))
    ∙ (fold-roll-CoreForm core_tree.CoreForm core_tree.CoreStmt core_form_step core_stmt_step (CoreForm-F.While c body) ∙ ap (λ (f : CoreStmt → core_tree.CoreStmt). core_tree.loop (core_expr_view c) (core_stmts_of (map f body))) (fun_ext folded))

-- the views, where those of the parts are known

pub if-made : (c : CoreExpr) (t o : List CoreStmt) (test : core_expr.CoreExpr) (then other : List core_tree.CoreStmt)
    → core_expr_view c ≡ test → map core_stmt_view t ≡ then → map core_stmt_view o ≡ other → core_form_view (If c t o) ≡ core_tree.branch test (core_stmts_of then) (core_stmts_of other)
if-made c t o test then other first second third = if-view c t o ∙ (λ i. core_tree.branch (first i) (core_stmts_of (second i)) (core_stmts_of (third i)))

pub when-made : (c : CoreExpr) (t : List CoreStmt) (test : core_expr.CoreExpr) (then : List core_tree.CoreStmt)
    → core_expr_view c ≡ test → map core_stmt_view t ≡ then → core_form_view (When c t) ≡ core_tree.on_edge test (core_stmts_of then)
when-made c t test then first second = when-view c t ∙ (λ i. core_tree.on_edge (first i) (core_stmts_of (second i)))

pub loop-made : (c : CoreExpr) (t : List CoreStmt) (test : core_expr.CoreExpr) (then : List core_tree.CoreStmt)
    → core_expr_view c ≡ test → map core_stmt_view t ≡ then → core_form_view (While c t) ≡ core_tree.loop test (core_stmts_of then)
loop-made c t test then first second = loop-view c t ∙ (λ i. core_tree.loop (first i) (core_stmts_of (second i)))
