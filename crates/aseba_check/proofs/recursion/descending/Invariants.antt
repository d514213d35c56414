use Rattle.std.proofs.Common.{take, map}
use Rattle.aseba_check.specs.Looked.{looked}
use Rattle.aseba_check.specs.Cycles.{call_view, rank_by, Ranked}
use Rattle.aseba_check.proofs.recursion.descending.Given as goal

abbrev pub invariant-loop-place : goal.invariant-loop-place
invariant-loop-place l = Ranked (rank_by (looked l.ranks)) (map call_view (take l.place l.calls))
