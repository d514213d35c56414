-- What is so of a source that a check accepts.
use Rattle.std.specs.Prelude.{◌≡◌, map}
use Rattle.aseba_tree.specs.declared.project.Project.{Project}
use Rattle.aseba_tree.specs.Inside.{InsideProject}
use Rattle.aseba_tree.specs.Layout.{layout, cells_of_variables}
use Rattle.aseba_tree.specs.Shape.{IsTree}
use Rattle.aseba_tree.specs.Soundness.{Sound}
use Rattle.aseba_tree.specs.View.{source_view, placed_view}
use Rattle.aseba_check.specs.declared.checked.Checked.{Checked}
use Rattle.aseba_check.specs.Places.{AreInOrder}
use Rattle.aseba_check.specs.Refused.{program_in}

-- A check of a source in this project gave it: it keeps to the limits, nothing is wrong with the source, and its variables lie in the layout, one behind the
-- other, up to the last of their cells.
pub record IsChecked (project : Project) (checked : Checked) : Type 0 where
  pub inside : InsideProject project
  pub is_tree : IsTree (source_view checked.source)
  pub sound : Sound (program_in project checked.source)
  pub places : map placed_view checked.places ≡ layout (program_in project checked.source)
  pub in_order : AreInOrder 0 (map placed_view checked.places) checked.cells
  pub cells : checked.cells ≡ cells_of_variables (program_in project checked.source)
