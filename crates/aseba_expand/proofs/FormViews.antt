-- What the view of an expression with others in it is.
use Rattle.std.proofs.Common.{◌≡◌, ◌∙◌, sym, ap}
use Rattle.aseba_words.specs.declared.operators.Unary.{Unary}
use Rattle.aseba_words.specs.declared.operators.Binary.{Binary}
use Rattle.aseba_tree.specs.declared.expr.Expr.{Expr}
use Rattle.aseba_tree.specs.declared.expr.Form.TheVariants.{Whole, Index, Range, One, Two, rolls-Whole, rolls-Index, rolls-Range, rolls-One, rolls-Two}
use Rattle.aseba_tree.specs.declared.expr.Form.TheOpen.{Form-F}
use Rattle.aseba_tree.specs.declared.expr.Form.TheFolds.{fold-Expr, fold-roll-Form, fold_out-Expr}
use Rattle.aseba_tree.specs.Code as tree
use Rattle.aseba_tree.specs.View.{form_view, expr_view, form_step, expr_step}

folded : (e : Expr) → fold-Expr tree.Form tree.Expr form_step expr_step e ≡ expr_view e
folded e = fold_out-Expr tree.Form tree.Expr form_step expr_step e

pub whole-view : (name : tree.Name) → form_view (Whole name) ≡ tree.whole name
whole-view name = ap form_view (sym (rolls-Whole name)) ∙ fold-roll-Form tree.Form tree.Expr form_step expr_step (Form-F.Whole name)

pub index-view : (name : tree.Name) (e : Expr) → form_view (Index name e) ≡ tree.index name (expr_view e)
index-view name e = ap form_view (sym (rolls-Index name e)) ∙ (fold-roll-Form tree.Form tree.Expr form_step expr_step (Form-F.Index name e) ∙ ap (tree.index name) (folded e))

pub range-view : (name : tree.Name) (e f : Expr) → form_view (Range name e f) ≡ tree.range name (expr_view e) (expr_view f)
range-view name e f =
    ap form_view (sym (rolls-Range name e f)) ∙ (fold-roll-Form tree.Form tree.Expr form_step expr_step (Form-F.Range name e f) ∙ (λ i. tree.range name (folded e i) (folded f i)))

pub one-view : (op : Unary) (e : Expr) → form_view (One op e) ≡ tree.one op (expr_view e)
one-view op e = ap form_view (sym (rolls-One op e)) ∙ (fold-roll-Form tree.Form tree.Expr form_step expr_step (Form-F.One op e) ∙ ap (tree.one op) (folded e))

pub two-view : (op : Binary) (e f : Expr) → form_view (Two op e f) ≡ tree.two op (expr_view e) (expr_view f)
two-view op e f = ap form_view (sym (rolls-Two op e f)) ∙ (fold-roll-Form tree.Form tree.Expr form_step expr_step (Form-F.Two op e f) ∙ (λ i. tree.two op (folded e i) (folded f i)))
