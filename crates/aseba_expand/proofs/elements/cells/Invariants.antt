use Rattle.std.proofs.Common.{◌≡◌, ◌+◌, ◌-◌, ◌++◌, map}
use Rattle.aseba_tree.specs.View.{core_expr_view}
use Rattle.aseba_expand.specs.Made.{cells_from}
use Rattle.aseba_expand.proofs.elements.cells.Given as goal

abbrev pub invariant-loop-cell : goal.invariant-loop-cell
invariant-loop-cell l = map core_expr_view l.built ++ cells_from (l.place.start + l.cell) (l.place.size - l.cell) ≡ cells_from l.place.start l.place.size
