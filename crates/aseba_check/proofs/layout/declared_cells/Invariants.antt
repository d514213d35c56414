use Rattle.std.proofs.Common.{◌≡◌, drop}
use Rattle.aseba_check.specs.Places.{declared_cells}
use Rattle.aseba_check.proofs.layout.declared_cells.Given as goal

abbrev pub invariant-loop-size : goal.invariant-loop-size
invariant-loop-size l = declared_cells l.cells (drop l.size-index l.sizes) ≡ declared_cells l.fn.before l.sizes
