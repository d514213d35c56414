use Rattle.std.proofs.Common.{◌≡◌, ◌++◌, drop}
use Rattle.aseba_check.specs.Places.{placed_variables}
use Rattle.aseba_check.proofs.layout.place_variables.Given as goal

abbrev pub invariant-loop-variable : goal.invariant-loop-variable
invariant-loop-variable l = l.places ++ placed_variables l.start (drop l.variable-index l.variables) ≡ l.fn.places ++ placed_variables 0 l.variables
