use Rattle.std.proofs.Common.{◌≡◌, ◌+◌, ◌≤◌, length}
use Rattle.aseba_tree.specs.Tokens as places
use Rattle.aseba_lexer.proofs.places.behind.Given as goal

abbrev pub invariant-loop-rest : goal.invariant-loop-rest
invariant-loop-rest l =
    (places.behind l.place l.rest ≡ places.behind l.fn.at l.fn.bytes) × (1 ≤ l.place.line) × (1 ≤ l.place.col)
    × (l.place.line + l.place.col + length l.rest ≤ l.fn.at.line + l.fn.at.col + length l.fn.bytes)

abbrev pub decreases-loop-rest : goal.decreases-loop-rest
decreases-loop-rest l = length l.rest
