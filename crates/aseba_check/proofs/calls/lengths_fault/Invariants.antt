use Rattle.std.proofs.Common.{◌≡◌, None, drop}
use Rattle.aseba_check.specs.Statements.{lengths_told}
use Rattle.aseba_check.proofs.calls.lengths_fault.Given as goal

abbrev pub invariant-loop-param : goal.invariant-loop-param
invariant-loop-param l = lengths_told l.params l.given l.fault (drop l.param-index l.params) l.rest ≡ lengths_told l.params l.given None l.params l.given
