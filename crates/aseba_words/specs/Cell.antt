-- The arithmetic of cells, on whole numbers. A cell holds a whole number from -32768 to 32767.
use Rattle.std.specs.Prelude.{◌≡◌, ℕ, ◌*◌, ◌^◌, Bool, true, false, ◌&&◌, ◌||◌, not, Option, Some, None, ℤ, pos, neg_ℤ, ◌+ℤ◌, ◌-ℤ◌, ◌*ℤ◌, unsigned_abs, ◌≤ℤ◌, int_lt, int_div, int_rem, if◌then◌else◌}
use Rattle.std.specs.Int.{w16, int_wrap, int_rem_euclid, int_div_euclid, int_bit_or, int_bit_xor, int_bit_and}
use Rattle.std.specs.Ordering.{int_eq}
use Rattle.aseba_words.specs.declared.operators.Unary.{Unary}
use Rattle.aseba_words.specs.declared.operators.Unary.TheVariants.{Minus, Abs, BitNot, Not}
use Rattle.aseba_words.specs.declared.operators.Binary.{Binary}
use Rattle.aseba_words.specs.declared.operators.Binary.TheVariants.{Shl, Shr, Add, Sub, Mul, Div, Rem, BitOr, BitXor, BitAnd, Equal, Differ, Above, AtLeast, Below, AtMost, Or, And}

-- the cell that differs from the number by a multiple of 65536
abbrev pub wrapped : ℤ → ℤ
wrapped v = int_wrap w16 v

-- A number's cell lies from -32768 to 32767, and differs from the number by whole turns of 65536. There is one such cell.
pub record IsWrapOf (v cell : ℤ) : Type 0 where
  pub low : neg_ℤ (pos 32768) ≤ℤ cell
  pub high : cell ≤ℤ pos 32767
  pub turns : (up : ℕ) × (down : ℕ) × (cell +ℤ pos (65536 * up) ≡ v +ℤ pos (65536 * down))

-- 1 for true and 0 for false
abbrev pub truth : Bool → ℤ
truth b = if b then pos 1 else pos 0

-- every cell but 0 counts as true
abbrev pub is_true : ℤ → Bool
is_true a = not (int_eq a (pos 0))

-- how far a shift moves: the low four bits of its right side
abbrev pub shift : ℤ → ℕ
shift b = unsigned_abs (int_rem_euclid b (pos 16))

-- the value of an operator on one cell
abbrev pub unary_value : Unary → ℤ → ℤ
unary_value Minus a = wrapped (neg_ℤ a)
unary_value Abs a = wrapped (pos (unsigned_abs a))
unary_value BitNot a = wrapped (neg_ℤ a -ℤ pos 1)
unary_value Not a = truth (not (is_true a))

-- a quotient or a remainder, none for the divisor 0
abbrev pub divided : ℤ → ℤ → Option ℤ
divided b v = if int_eq b (pos 0) then None else Some (wrapped v)

-- The value of an operator on two cells. `/` truncates towards zero and `%` has the sign of its left side; `>>` keeps the sign.
abbrev pub binary_value : Binary → ℤ → ℤ → Option ℤ
binary_value Shl a b = Some (wrapped (a *ℤ pos (2 ^ shift b)))
binary_value Shr a b = Some (wrapped (int_div_euclid a (pos (2 ^ shift b))))
binary_value Add a b = Some (wrapped (a +ℤ b))
binary_value Sub a b = Some (wrapped (a -ℤ b))
binary_value Mul a b = Some (wrapped (a *ℤ b))
binary_value Div a b = divided b (int_div a b)
binary_value Rem a b = divided b (int_rem a b)
binary_value BitOr a b = Some (int_bit_or w16 a b)
binary_value BitXor a b = Some (int_bit_xor w16 a b)
binary_value BitAnd a b = Some (int_bit_and w16 a b)
binary_value Equal a b = Some (truth (int_eq a b))
binary_value Differ a b = Some (truth (not (int_eq a b)))
binary_value Above a b = Some (truth (int_lt b a))
binary_value AtLeast a b = Some (truth (not (int_lt a b)))
binary_value Below a b = Some (truth (int_lt a b))
binary_value AtMost a b = Some (truth (not (int_lt b a)))
binary_value Or a b = Some (truth (is_true a || is_true b))
binary_value And a b = Some (truth (is_true a && is_true b))

-- whether both operands of an operator have one cell, and so its value: comparisons, `and` and `or`
abbrev pub is_of_one_cell : Binary → Bool
is_of_one_cell Equal = true
is_of_one_cell Differ = true
is_of_one_cell Above = true
is_of_one_cell AtLeast = true
is_of_one_cell Below = true
is_of_one_cell AtMost = true
is_of_one_cell Or = true
is_of_one_cell And = true
is_of_one_cell _ = false
