use Rattle.std.proofs.Common.{◌≡◌, ◌≤◌, ◌+◌, ◌-◌, ◌^◌, min}
use Rattle.aseba_edge.proofs.gate.Gate.wait.Given as goal

-- one looked as often as turns went by
abbrev pub invariant-loop-self : goal.invariant-loop-self
invariant-loop-self l =
    (l.self.until ≡ l.fn.self.until) × (l.self.turns ≤ l.fn.self.turns) × (l.self.watched.looks ≡ min (l.fn.self.watched.looks + (l.fn.self.turns - l.self.turns)) (2 ^ 64 - 1))

abbrev pub decreases-loop-self : goal.decreases-loop-self
decreases-loop-self l = l.self.turns
