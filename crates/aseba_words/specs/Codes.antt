-- The numbers of the operators in instruction words.
use Rattle.std.specs.Prelude.{ℕ, Option, slice_get, List, [], ◌∷◌}
use Rattle.aseba_words.specs.declared.operators.Unary.{Unary}
use Rattle.aseba_words.specs.declared.operators.Unary.TheVariants.{Minus, Abs, BitNot, Not}
use Rattle.aseba_words.specs.declared.operators.Binary.{Binary}
use Rattle.aseba_words.specs.declared.operators.Binary.TheVariants.{Shl, Shr, Add, Sub, Mul, Div, Rem, BitOr, BitXor, BitAnd, Equal, Differ, Above, AtLeast, Below, AtMost, Or, And}

abbrev pub unary_code : Unary → ℕ
unary_code Minus = 0
unary_code Abs = 1
unary_code BitNot = 2
unary_code Not = 3

abbrev pub binary_code : Binary → ℕ
binary_code Shl = 0
binary_code Shr = 1
binary_code Add = 2
binary_code Sub = 3
binary_code Mul = 4
binary_code Div = 5
binary_code Rem = 6
binary_code BitOr = 7
binary_code BitXor = 8
binary_code BitAnd = 9
binary_code Equal = 10
binary_code Differ = 11
binary_code Above = 12
binary_code AtLeast = 13
binary_code Below = 14
binary_code AtMost = 15
binary_code Or = 16
binary_code And = 17

-- the operators in the order of their numbers
abbrev pub unary_operators : List Unary
unary_operators = Minus ∷ Abs ∷ BitNot ∷ Not ∷ []

abbrev pub binary_operators : List Binary
binary_operators =
    Shl ∷ Shr ∷ Add ∷ Sub ∷ Mul ∷ Div ∷ Rem ∷ BitOr ∷ BitXor ∷ BitAnd ∷ Equal ∷ Differ ∷ Above ∷ AtLeast ∷ Below ∷ AtMost ∷ Or ∷ And ∷ []

-- the operator of a number, where there is one
abbrev pub unary_coded : ℕ → Option Unary
unary_coded code = slice_get unary_operators code

abbrev pub binary_coded : ℕ → Option Binary
binary_coded code = slice_get binary_operators code
