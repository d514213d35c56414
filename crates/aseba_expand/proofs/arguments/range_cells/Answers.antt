use Rattle.std.proofs.Common.{◌∙◌}
use Rattle.aseba_tree.specs.Elements.{variable_place}
use Rattle.aseba_tree.specs.View.{expr_view}
use Rattle.aseba_expand.specs.Plain.{bound}
use Rattle.aseba_expand.specs.Scope.{pair_of, program_of}
use Rattle.aseba_expand.proofs.Owned.{range-long}
use Rattle.aseba_expand.proofs.arguments.range_cells.Goals as goal

pub returns-in-Some-clause-size : goal.returns-in-Some-clause-size
returns-in-Some-clause-size c =
    let program = program_of c.args.scope.now in
    c.span-cells.ensures.size
    ∙ range-long (variable_place program c.args.name.now) (pair_of c.in-Some.field-0) (bound program (expr_view c.args.first.now)) (bound program (expr_view c.args.last.now)) c.in-Some.ensures.place
