use Rattle.std.proofs.Common.{◌≡◌, None, drop}
use Rattle.aseba_check.specs.Statements.{inside_told}
use Rattle.aseba_check.proofs.calls.inside_fault.Given as goal

abbrev pub invariant-loop-argument : goal.invariant-loop-argument
invariant-loop-argument l = inside_told l.fault (drop l.argument-index l.given) ≡ inside_told None l.given
