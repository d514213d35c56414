-- Where the plain code of subroutines begins in a large project. Sums stop at a number that no source reaches.
use Rattle.std.specs.Prelude.{ℕ, Bool, ◌&&◌, if◌then◌else◌, nat_lt, List, [], ◌∷◌, Option, Some, None}
use Rattle.aseba_tree.specs.Code.{Handler}
use Rattle.aseba_tree.specs.Limits.{farthest}
use Rattle.aseba_check.specs.declared.far.Far.{Far}
use Rattle.aseba_check.specs.CountedParts.{part_words}
use Rattle.aseba_check.specs.Places.{sum_up}
use Rattle.aseba_check.specs.Statements.{Known}
use Rattle.aseba_check.specs.Told.{pos_of}

-- the words of the event table, where so many stand before the pairs of these parts
abbrev pub table_told : ℕ → List Handler → ℕ
table_told words [] = words
table_told words (h ∷ hs) = table_told (if h.is_sub then words else sum_up words 2) hs

-- whether a part is a subroutine that no call reaches, where it begins there
abbrev pub is_far : ℕ → Handler → Bool
is_far start h = h.is_sub && nat_lt farthest start

-- where a subroutine behind a part begins
abbrev pub next_start : Known → ℕ → ℕ → Handler → ℕ
next_start known jump start h = if h.is_sub then sum_up start (part_words known jump h) else start

-- the first of these parts, from there on
abbrev pub first_far : Known → ℕ → ℕ → List Handler → Option Far
first_far known jump start [] = None
first_far known jump start (h ∷ hs) = if is_far start h then Some (record { at = pos_of h.place; start = start }) else first_far known jump (next_start known jump start h) hs
