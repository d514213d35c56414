-- A number only grows by more digits.
use Rattle.std.proofs.Common.{◌≡◌, ℕ, ◌+◌, ◌*◌, ◌<◌, ◌≤◌, Bool, true, false, ◌&&◌, List, [], ◌∷◌, length, get_or, Some, None, cond, refl, arith, nat_le}
use Rattle.std.proofs.Math.Nat.{mul-le-mul_left, le_trans}
use Rattle.aseba_lexer.specs.Numbers.{digit, digits_value, are_digits, number_within}

one-grows : (base v d : ℕ) → 1 ≤ base → v ≤ v * base + d
one-grows base v d h = omega (arith, mul-le-mul_left v h)

pub value-grows : (base v : ℕ) (digits : List ℕ) → 1 ≤ base → v ≤ digits_value base v digits
value-grows base v [] h = omega arith
value-grows base v (b ∷ digits) h = le_trans (one-grows base v (digit b) h) (value-grows base (v * base + digit b) digits h)

none-above : (a : Bool) (v most : ℕ) → most < v → cond (a && nat_le v most) (Some v) None ≡ None
none-above a v most h = elim a as (λ a. cond (a && nat_le v most) (Some v) None ≡ None) [ true ↦ grind arith | false ↦ refl ]

pub none-past : (base most value : ℕ) (rest digits : List ℕ) → 1 ≤ base → 1 ≤ length rest → most < value * base + digit (get_or rest 0 0)
    → digits_value base value rest ≡ digits_value base 0 digits → number_within base most digits ≡ None
none-past base most value [] digits h k p e = absurd (omega arith)
none-past base most value (b ∷ rest) digits h k p e =
    let grown : value * base + digit b ≤ digits_value base (value * base + digit b) rest = value-grows base (value * base + digit b) rest h in
    none-above (are_digits base digits) (digits_value base 0 digits) most (omega (arith, e, grown))
