use Rattle.std.proofs.Common.{◌≡◌, ◌∙◌, map}
use Rattle.aseba_tree.specs.Elements.{range_elements, variable_place}
use Rattle.aseba_tree.specs.View.{core_expr_view, expr_view}
use Rattle.aseba_expand.specs.Made.{cells_from}
use Rattle.aseba_expand.specs.Plain.{bound}
use Rattle.aseba_expand.specs.Scope.{pair_of, program_of}
use Rattle.aseba_expand.proofs.Lists.{onward, range-made}
use Rattle.aseba_expand.proofs.elements.range.Goals as goal

pub returns-in-Some : goal.returns-in-Some
returns-in-Some c =
    let program = program_of c.args.scope.now in
    let first = bound program (expr_view c.args.first.now) in
    let last = bound program (expr_view c.args.last.now) in
    onward c.cells.result (λ es. map core_expr_view es ≡ cells_from c.span.result.start c.span.result.size) (λ es. map core_expr_view es ≡ range_elements (variable_place program c.args.name.now) first last)
    (λ es made. made ∙ (λ i. cells_from (c.span.ensures.start i) (c.span.ensures.size i)) ∙ range-made (variable_place program c.args.name.now) (pair_of c.in-Some.field-0) first last c.in-Some.ensures.place)
    c.cells.ensures
