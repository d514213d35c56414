-- The kinds of bytes that sources and texts are made of.
use Rattle.std.specs.Prelude.{ℕ, ◌==◌, nat_le, Bool, false, ◌&&◌, ◌||◌, List, [], ◌∷◌}
use Rattle.std.specs.List.{list_all}

-- from the one number to the other, both included
abbrev pub is_within : ℕ → ℕ → ℕ → Bool
is_within low high b = nat_le low b && nat_le b high

-- space, tab, carriage return and line feed
abbrev pub is_blank : ℕ → Bool
is_blank b = b == 32 || b == 9 || b == 13 || b == 10

abbrev pub is_digit : ℕ → Bool
is_digit b = is_within 48 57 b

-- a letter or `_`
abbrev pub is_name_start : ℕ → Bool
is_name_start b = is_within 97 122 b || is_within 65 90 b || b == 95

-- a letter, a digit, `_` or `.`
abbrev pub is_word_byte : ℕ → Bool
is_word_byte b = is_name_start b || is_digit b || b == 46

-- a letter or `_`, and then letters, digits, `_` and `.`
abbrev pub is_name_like : List ℕ → Bool
is_name_like [] = false
is_name_like (b ∷ bs) = is_name_start b && list_all is_word_byte bs
