-- Bounds of a quotient that is truncated towards zero.
use Rattle.std.proofs.Common.{◌≡◌, ℕ, zero, suc, ◌*◌, ◌≤◌, ◌/◌, refl, ℤ, pos, negsuc, neg_ℤ, ◌≤ℤ◌, unsigned_abs, int_div, FitsSigned, arith}
use Rattle.std.specs.Int.{w16}
use Rattle.std.proofs.lemmas.Int.{ints}
use Rattle.std.proofs.Math.Nat.{div-le_self, div-le_of_le-mul}

abs-neg : (n : ℕ) → unsigned_abs (neg_ℤ (pos n)) ≡ n
abs-neg zero = refl
abs-neg (suc n) = refl

pub abs-quotient : (a d : ℤ) → unsigned_abs (int_div a d) ≤ unsigned_abs a
abs-quotient (pos a) (pos b) = div-le_self a b
abs-quotient (pos a) (negsuc b) = omega (arith, abs-neg (a / suc b), div-le_self a (suc b))
abs-quotient (negsuc a) (pos b) = omega (arith, abs-neg (suc a / b), div-le_self (suc a) b)
abs-quotient (negsuc a) (negsuc b) = div-le_self (suc a) (suc b)

negative-fits : (n : ℕ) → n ≤ 32768 → FitsSigned w16 (neg_ℤ (pos n))
negative-fits zero h = omega (arith, ints)
negative-fits (suc n) h = omega (arith, ints)

-- a mean of cells is a cell
pub mean-fits : (s : ℤ) (n : ℕ) → neg_ℤ (pos (32768 * n)) ≤ℤ s → s ≤ℤ pos (32767 * n) → FitsSigned w16 (int_div s (pos n))
mean-fits (pos a) n low high = let q : a / n ≤ 32767 = div-le_of_le-mul n (omega (arith, ints)) in omega (arith, ints)
mean-fits (negsuc a) n low high = negative-fits (suc a / n) (div-le_of_le-mul n (omega (arith, ints)))
