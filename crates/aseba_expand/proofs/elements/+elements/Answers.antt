use Rattle.std.proofs.Common.{◌≡◌, ◌∙◌, ap, map}
use Rattle.aseba_tree.specs.declared.expr.Expr.{Expr}
use Rattle.aseba_tree.specs.CoreExpr.{prefix}
use Rattle.aseba_tree.specs.Elements.{elements_of}
use Rattle.aseba_tree.specs.View.{core_expr_view, expr_view}
use Rattle.aseba_expand.specs.Scope.{program_of}
use Rattle.aseba_expand.proofs.FormViews.{one-view}
use Rattle.aseba_expand.proofs.Lists.{onward}
use Rattle.aseba_expand.proofs.elements.+elements.Goals as goal

pub elements-returns-in_ok-elements-in-One : goal.elements-returns-in_ok-elements-in-One
elements-returns-in_ok-elements-in-One t c =
    let program = program_of c.args.scope.now in
    let op = c.in-One.op in
    let inner = c.in_ok-elements-in-One.ensures ∙ ap (λ (e : Expr). elements_of program (expr_view e)) c.get-in-One.ensures in
    rw (c.in-One.is, one-view op c.in-One.operand)
    (onward c.prefixed.result (λ es. map core_expr_view es ≡ map (prefix op) (map core_expr_view c.in_ok-elements-in-One.field-0)) (λ es. map core_expr_view es ≡ map (prefix op) (elements_of program (expr_view c.in-One.operand)))
    (λ es made. made ∙ ap (map (prefix op)) inner) c.prefixed.ensures)
