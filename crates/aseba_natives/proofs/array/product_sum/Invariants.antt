-- What was summed, and the sum of what remains, is the sum of all.
use Rattle.std.proofs.Common.{◌≡◌, ◌*◌, ◌^◌, ◌≤◌, drop, ◌+ℤ◌, unsigned_abs}
use Rattle.aseba_words.specs.Natives.{product_sum}
use Rattle.aseba_natives.proofs.array.product_sum.Given as goal

abbrev pub invariant-loop-k : goal.invariant-loop-k
invariant-loop-k l =
    (l.sum +ℤ product_sum (drop l.k l.a) (drop l.k l.b) ≡ product_sum l.a l.b) × (unsigned_abs l.sum ≤ 2 ^ 30 * l.k)
