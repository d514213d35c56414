-- A number as the lexer reads it, digit by digit; it comes to the value of the spelling.
use Rattle.std.specs.Prelude.{ℕ, ◌+◌, ◌-◌, ◌*◌, Bool, ◌&&◌, ◌==◌, nat_le, nat_lt, List, [], ◌∷◌, Option, Some, None, if◌then◌else◌}
use Rattle.std.specs.List.{list_all}
use Rattle.aseba_tree.specs.Tokens.{is_digit, is_within}

-- the value of a digit, of either case; 16 for what is none
abbrev pub digit : ℕ → ℕ
digit b =
    if is_digit b then b - 48
    else if is_within 97 102 b then b - 87
    else if is_within 65 70 b then b - 55
    else 16

-- the number that digits spell
abbrev pub digits_value : ℕ → ℕ → List ℕ → ℕ
digits_value base before [] = before
digits_value base before (b ∷ digits) = digits_value base (before * base + digit b) digits

-- digits of that base alone
abbrev pub are_digits : ℕ → List ℕ → Bool
are_digits base digits = list_all (λ d. nat_lt (digit d) base) digits

abbrev pub number_within : ℕ → ℕ → List ℕ → Option ℕ
number_within base most digits =
    if are_digits base digits && nat_le (digits_value base 0 digits) most then Some (digits_value base 0 digits) else None

-- one or more digits of that base, whose number is at most `most`
abbrev pub number : ℕ → ℕ → List ℕ → Option ℕ
number base most [] = None
number base most (b ∷ digits) = number_within base most (b ∷ digits)

-- A word that begins with a digit: decimal up to 32767, or hexadecimal behind `0x` or binary behind
-- `0b`, up to 0xFFFF.
abbrev pub number_of : List ℕ → Option ℕ
number_of [] = None
number_of (a ∷ []) = number 10 32767 (a ∷ [])
number_of (a ∷ b ∷ digits) =
    if (48 == a) && (120 == b) then number 16 65535 digits
    else if (48 == a) && (98 == b) then number 2 65535 digits
    else number 10 32767 (a ∷ b ∷ digits)
