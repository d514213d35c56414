-- Wrapping moves a number by whole turns of 65536.
use Rattle.std.proofs.Common.{ℕ, suc, ap, ◌∙◌, ◌*◌, ◌+◌, ◌/◌, ◌%◌, ◌≡◌, ◌<◌, ◌≤◌, ◌-◌, ◌⊎◌, inl, inr, ℤ, pos, negsuc, ◌+ℤ◌, arith, to_z, refl}
use Rattle.std.specs.Int.{w16, int_wrap}
use Rattle.std.proofs.lemmas.Int.{ints, to_z_pos}
use Rattle.std.proofs.Math.Facts.{to_z-neg}
use Rattle.std.proofs.lemmas.Bool.{cases_lt}
use Rattle.aseba_words.specs.Cell.{wrapped, IsWrapOf}

-- a number whose remainder by 65536 is r, where r is in the lower half
low_half : (v cell : ℤ) (r up down : ℕ) → r < 32768 → cell ≡ pos r → v +ℤ pos (65536 * down) ≡ pos (r + 65536 * up) → IsWrapOf v cell
low_half v cell r up down h c e =
    record { low = omega (arith, ints); high = omega (arith, ints); turns = (up, down, omega (arith, ints)) }

-- the same in the upper half, where the cell is r less one turn
high_half : (v cell : ℤ) (k up down : ℕ) → k < 32768 → cell ≡ negsuc k → v +ℤ pos (65536 * down) ≡ pos (65536 - suc k + 65536 * up) → IsWrapOf v cell
high_half v cell k up down h c e =
    record { low = omega (arith, ints); high = omega (arith, ints); turns = (up + 1, down, omega (arith, ints)) }

either_half : (v cell : ℤ) (r up down : ℕ) → (r < 32768) ⊎ (32768 ≤ r) → r < 65536 → cell ≡ to_z w16 r → v +ℤ pos (65536 * down) ≡ pos (r + 65536 * up) → IsWrapOf v cell
either_half v cell r up down (inl l) h c e = low_half v cell r up down l (c ∙ to_z_pos w16 r l) e
either_half v cell r up down (inr l) h c e =
    let same : r ≡ 65536 - suc (65535 - r) = omega arith in
    high_half v cell (65535 - r) up down (omega arith) (c ∙ (ap (to_z w16) same ∙ to_z-neg w16 (65535 - r) (omega arith))) (e ∙ ap (λ n. pos (n + 65536 * up)) same)

pub wrapped-is : (v : ℤ) → IsWrapOf v (wrapped v)
unfolding int_wrap
wrapped-is (pos n) =
    either_half (pos n) (wrapped (pos n)) (n % 65536) (n / 65536) 0 (cases_lt (n % 65536) 32768) (omega arith) refl (omega (arith, ints))
wrapped-is (negsuc n) =
    either_half (negsuc n) (wrapped (negsuc n)) (65535 - n % 65536) 0 (n / 65536 + 1) (cases_lt (65535 - n % 65536) 32768) (omega arith) refl (omega (arith, ints))
