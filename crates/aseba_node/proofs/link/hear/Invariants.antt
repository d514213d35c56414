use Rattle.std.proofs.Common.{ℕ, ◌-◌, ◌≤◌, List, length}
use Rattle.aseba_node.specs.Turns.{Behind}
use Rattle.aseba_node.proofs.Hearing.{Hearing}
use Rattle.aseba_node.proofs.link.hear.Given as goal

-- whatever came before, the frames that ended in what was taken of the piece were delivered
abbrev pub invariant-loop-at : goal.invariant-loop-at
invariant-loop-at l = record {
  inside : l.at ≤ length l.piece;
  heard : (before : List ℕ) → Behind before l.place l.fn.reader → Hearing l.fn.node before l.piece l.at l.reader l.node;
}

abbrev pub decreases-loop-at : goal.decreases-loop-at
decreases-loop-at l = length l.piece - l.at
