use Rattle.std.proofs.Common.{◌≡◌, ℕ, ◌<◌, false, get_or, pos}
use Rattle.std.specs.Ordering.{int_eq}
use Rattle.aseba_natives.proofs.array.place_or_len.Given as goal

abbrev pub invariant-loop-place : goal.invariant-loop-place
invariant-loop-place l = (k : ℕ) → k < l.place → int_eq (get_or l.cells k (pos 0)) l.wanted ≡ false
