-- What the expansion of a source answers.
use Rattle.std.specs.Prelude.{◌≡◌, ◌+◌, ◌<◌}
use Rattle.aseba_tree.specs.State.{Program}
use Rattle.aseba_tree.specs.Layout.{cells_of_variables}
use Rattle.aseba_tree.specs.Numbers.{source_room}
use Rattle.aseba_expand.specs.declared.error.ExpandError.{ExpandError}
use Rattle.aseba_expand.specs.declared.error.ExpandError.TheVariants.{VariablesFull, Mem}

-- The cells of the variables and the temporaries of the plain form are more than the node has; want of memory tells nothing of the source.
abbrev pub TellsNeed : Program → ExpandError → Type 0
TellsNeed program (VariablesFull need have) =
    (need ≡ cells_of_variables program + source_room program) × (have ≡ program.project.node.cells) × (have < need)
TellsNeed program Mem = Unit {0}
