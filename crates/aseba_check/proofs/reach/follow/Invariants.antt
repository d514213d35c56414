use Rattle.std.proofs.Common.{map}
use Rattle.aseba_check.specs.Looked.{looked}
use Rattle.aseba_check.specs.Cycles.{call_view, Spreads}
use Rattle.aseba_check.proofs.reach.follow.Given as goal

abbrev pub invariant-loop-place : goal.invariant-loop-place
invariant-loop-place l = Spreads (map call_view l.calls) (looked l.fn.marks) (looked l.marks)
