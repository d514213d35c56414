-- Worked calls of natives whose parameters overlap, or that stop.
use Rattle.std.proofs.Common.{◌≡◌, ℕ, Bool, true, false, List, [], ◌∷◌, ℤ, pos, negsuc, refl}
use Rattle.std.specs.Int.{int_wrap}
use Rattle.aseba_words.specs.Natives.{native_run}
use Rattle.aseba_natives.specs.Call.{cell, with_cell}

abbrev run : ℕ → List ℕ → ℕ → List ℤ → Bool × List ℤ
run = native_run cell with_cell

-- the destination lies one cell behind the source: the first cell is copied on and on
copy-up : run 0 (1 ∷ 0 ∷ []) 3 (pos 7 ∷ pos 8 ∷ pos 9 ∷ pos 10 ∷ []) ≡ (false, pos 7 ∷ pos 7 ∷ pos 7 ∷ pos 7 ∷ [])
copy-up = refl

copy-down : run 0 (0 ∷ 1 ∷ []) 3 (pos 7 ∷ pos 8 ∷ pos 9 ∷ pos 10 ∷ []) ≡ (false, pos 8 ∷ pos 9 ∷ pos 10 ∷ pos 10 ∷ [])
copy-down = refl

-- the second divisor is 0: the first quotient is stored
div-stops : run 6 (0 ∷ 0 ∷ 2 ∷ []) 2 (pos 6 ∷ pos 6 ∷ pos 2 ∷ pos 0 ∷ []) ≡ (true, pos 3 ∷ pos 6 ∷ pos 2 ∷ pos 0 ∷ [])
unfolding int_wrap
div-stops = refl

-- the first quotient, 0, is the second divisor
div-by_own : run 6 (2 ∷ 0 ∷ 1 ∷ []) 2 (pos 1 ∷ pos 2 ∷ pos 9 ∷ []) ≡ (true, pos 1 ∷ pos 2 ∷ pos 0 ∷ [])
unfolding int_wrap
div-by_own = refl

-- 300 * 200 + -300 * 30 is 51000, and shifted by 2 it is 12750
dot-exact : run 10 (0 ∷ 1 ∷ 3 ∷ 5 ∷ []) 2 (pos 0 ∷ pos 300 ∷ negsuc 299 ∷ pos 200 ∷ pos 30 ∷ pos 34 ∷ []) ≡ (false, pos 12750 ∷ pos 300 ∷ negsuc 299 ∷ pos 200 ∷ pos 30 ∷ pos 34 ∷ [])
unfolding int_wrap
dot-exact = refl

-- 4, -9 and 1 have the mean -1.33, which is truncated to -1; the results are stored over the source
stat-reads_first : run 12 (0 ∷ 1 ∷ 0 ∷ 3 ∷ []) 3 (pos 4 ∷ negsuc 8 ∷ pos 1 ∷ pos 50 ∷ []) ≡ (false, pos 4 ∷ negsuc 8 ∷ pos 1 ∷ negsuc 0 ∷ [])
stat-reads_first = refl

argbounds-first : run 13 (0 ∷ 1 ∷ 0 ∷ []) 3 (pos 4 ∷ pos 3 ∷ pos 3 ∷ []) ≡ (false, pos 0 ∷ pos 1 ∷ pos 3 ∷ [])
argbounds-first = refl

unknown : run 14 (0 ∷ []) 3 (pos 4 ∷ []) ≡ (false, pos 4 ∷ [])
unknown = refl

too-few : run 0 (0 ∷ []) 3 (pos 4 ∷ []) ≡ (false, pos 4 ∷ [])
too-few = refl
