use Rattle.std.proofs.Common.{◌≡◌, ◌*◌, take, pos, ◌+ℤ◌, neg_ℤ, ◌≤ℤ◌, fold}
use Rattle.aseba_natives.proofs.array.sum.Given as goal

abbrev pub invariant-loop-cell : goal.invariant-loop-cell
invariant-loop-cell l =
    (l.sum ≡ fold ◌+ℤ◌ (pos 0) (take l.cell-index l.cells)) × (neg_ℤ (pos (32768 * l.cell-index)) ≤ℤ l.sum) × (l.sum ≤ℤ pos (32767 * l.cell-index))
