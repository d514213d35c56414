use Rattle.std.proofs.Common.{◌≡◌, drop}
use Rattle.aseba_check.specs.Places.{node_cells}
use Rattle.aseba_check.proofs.layout.node_cells.Given as goal

abbrev pub invariant-loop-variable : goal.invariant-loop-variable
invariant-loop-variable l = node_cells l.cells (drop l.variable-index l.variables) ≡ node_cells 0 l.variables
