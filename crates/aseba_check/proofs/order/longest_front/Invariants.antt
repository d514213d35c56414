use Rattle.std.proofs.Common.{◌-◌, ◌≤◌, length}
use Rattle.aseba_check.proofs.order.longest_front.Given as goal

abbrev pub invariant-loop-end : goal.invariant-loop-end
invariant-loop-end l = (l.front ≤ l.end) × (l.end ≤ length l.edges)

abbrev pub decreases-loop-end : goal.decreases-loop-end
decreases-loop-end l = l.end - l.front
