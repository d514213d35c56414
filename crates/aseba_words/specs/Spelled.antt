-- How numbers, cells and words stand in texts.
use Rattle.std.specs.Prelude.{ℕ, ◌++◌, ◌/◌, ◌%◌, ℤ, false, codes, decimal, List, [], ◌∷◌}
use Rattle.std.specs.Fmt.{signed_decimal, digit_glyph}

-- a number behind a blank
abbrev pub blank_number : ℕ → List ℕ
blank_number n = codes " " ++ decimal n

-- cells, each behind a blank
abbrev pub blank_cells : List ℤ → List ℕ
blank_cells [] = []
blank_cells (v ∷ vs) = codes " " ++ signed_decimal v ++ blank_cells vs

-- a word as four hexadecimal digits in lower case
abbrev pub word_text : ℕ → List ℕ
word_text word = digit_glyph false (word / 4096 % 16) ∷ digit_glyph false (word / 256 % 16) ∷ digit_glyph false (word / 16 % 16) ∷ digit_glyph false (word % 16) ∷ []
