-- Numbers in texts: decimal digits without leading zeros, and `-` in front of a cell below 0.
use Rattle.std.specs.Prelude.{ℕ, ℤ, pos, negsuc, ◌-◌, ◌^◌, ◌&&◌, ◌==◌, ◌≤ℤ◌, nat_lt, List, [], ◌∷◌, decimal, Option, Some, None, if◌then◌else◌}
use Rattle.std.specs.Str.Parse.{digits_value}
use Rattle.aseba_words.specs.Bytes.{is_within}
use Rattle.aseba_text.specs.Options.{◌>>=◌, when}
use Rattle.aseba_text.specs.Names.{is_same}

-- a number of at most 64 bits in its one spelling
unfoldable pub number_of : List ℕ → Option ℕ
number_of text = when (nat_lt (digits_value 10 text) (2 ^ 64) && is_same text (decimal (digits_value 10 text))) (digits_value 10 text)

-- the same from the one bound to the other, both included
abbrev pub number_from : ℕ → ℕ → List ℕ → Option ℕ
number_from least most text = do
  n ← number_of text
  when (is_within least most n) n

abbrev pub below_zero : List ℕ → Option ℤ
below_zero digits = do
  n ← number_from 1 32768 digits
  Some (negsuc (n - 1))

abbrev pub from_zero : List ℕ → Option ℤ
from_zero digits = do
  n ← number_from 0 32767 digits
  Some (pos n)

-- a signed number of 16 bits in its one spelling
unfoldable pub cell_of : List ℕ → Option ℤ
cell_of [] = None
cell_of (b ∷ bs) = if b == 45 then below_zero bs else from_zero (b ∷ bs)

-- a signed number of 16 bits
abbrev pub IsCell : ℤ → Type 0
IsCell value = (negsuc 32767 ≤ℤ value) × (value ≤ℤ pos 32767)
