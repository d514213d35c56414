use Rattle.std.proofs.Common.{◌≡◌, ◌≤◌, ◌*◌, take}
use Rattle.aseba_tree.specs.Inside.{named_cells}
use Rattle.aseba_tree.proofs.inside.cells_of.Given as goal

abbrev pub invariant-loop-variable : goal.invariant-loop-variable
invariant-loop-variable l =
    (l.cells ≡ named_cells (take l.variable-index l.variables)) × (l.cells ≤ 65535 * l.variable-index)
