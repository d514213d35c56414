use Rattle.std.proofs.Common.{◌≡◌, drop}
use Rattle.aseba_check.specs.Looked.{looked}
use Rattle.aseba_check.specs.Declarations.{with_variables}
use Rattle.aseba_check.proofs.declarations.add_variables.Given as goal

abbrev pub invariant-loop-variable : goal.invariant-loop-variable
invariant-loop-variable l = with_variables (looked l.names) (drop l.variable-index l.variables) ≡ with_variables (looked l.fn.names) l.variables
