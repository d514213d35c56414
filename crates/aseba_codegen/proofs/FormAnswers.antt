-- The code of a statement where its parts are known under other names.
use Rattle.std.proofs.Common.{◌≡◌, ◌∙◌, ℕ, Bool, not, List, ◌++◌, refl, sym, ap, subst, Result, OnOk}
use Rattle.aseba_tree.specs.Core as core_tree
use Rattle.aseba_tree.specs.CoreShape.{is_last}
use Rattle.aseba_tree.specs.View.{core_expr_view, core_form_view, core_stmts_view}
use Rattle.aseba_tree.specs.declared.core_tree.CoreExpr.{CoreExpr}
use Rattle.aseba_tree.specs.declared.core_tree.CoreStmt.{CoreStmt}
use Rattle.aseba_tree.specs.declared.core_tree.CoreForm.{CoreForm}
use Rattle.aseba_tree.specs.declared.core_tree.CoreForm.TheVariants.{If, While}
use Rattle.aseba_codegen.specs.declared.coded.Coded.{Coded}
use Rattle.aseba_codegen.specs.Words.{Site, condition_code, if_code, loop_code, list_code, form_code}
use Rattle.aseba_codegen.proofs.FormViews.{if-view, loop-view}

pub if-form : {A E : Type 0} (r : Result A E) (new old : List Coded) (site : Site) (line : ℕ) (form : CoreForm) (test : CoreExpr) (body other : List CoreStmt) (t : CoreExpr) (b : List Coded) (x : Bool) (o : List Coded)
    → form ≡ If test body other → t ≡ test → b ≡ list_code site (core_stmts_view body) → x ≡ not (is_last (core_stmts_view other)) → o ≡ list_code site (core_stmts_view other)
    → OnOk r (new ≡ old ++ if_code site.project line (condition_code (core_expr_view t)) b x o) → OnOk r (new ≡ old ++ form_code site line (core_form_view form))
if-form r new old site line form test body other t b x o made first second third fourth h =
    let e : if_code site.project line (condition_code (core_expr_view t)) b x o ≡ form_code site line (core_tree.branch (core_expr_view test) (core_stmts_view body) (core_stmts_view other)) = rw (first, second, third, fourth) refl in
    let all : if_code site.project line (condition_code (core_expr_view t)) b x o ≡ form_code site line (core_form_view form) = e ∙ ap (form_code site line) (sym (if-view test body other) ∙ ap core_form_view (sym made)) in
    subst (λ code. OnOk r (new ≡ old ++ code)) all h

pub loop-form : {A E : Type 0} (r : Result A E) (new old : List Coded) (site : Site) (line : ℕ) (form : CoreForm) (test : CoreExpr) (body : List CoreStmt) (t : CoreExpr) (b : List Coded)
    → form ≡ While test body → t ≡ test → b ≡ list_code site (core_stmts_view body)
    → OnOk r (new ≡ old ++ loop_code site.project line (condition_code (core_expr_view t)) b) → OnOk r (new ≡ old ++ form_code site line (core_form_view form))
loop-form r new old site line form test body t b made first second h =
    let e : loop_code site.project line (condition_code (core_expr_view t)) b ≡ form_code site line (core_tree.loop (core_expr_view test) (core_stmts_view body)) = rw (first, second) refl in
    let all : loop_code site.project line (condition_code (core_expr_view t)) b ≡ form_code site line (core_form_view form) = e ∙ ap (form_code site line) (sym (loop-view test body) ∙ ap core_form_view (sym made)) in
    subst (λ code. OnOk r (new ≡ old ++ code)) all h
