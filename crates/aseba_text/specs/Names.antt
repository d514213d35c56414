-- Texts for a reader, and lists of names.
use Rattle.std.specs.Prelude.{ℕ, Bool, true, not, ◌&&◌, nat_le, nat_eq, IsTrue, List, [], ◌∷◌, length}
use Rattle.std.specs.List.{list_any, list_all}
use Rattle.std.specs.Cmp.Lexicographic.{pointwise}
use Rattle.aseba_words.specs.Bytes.{is_within}
use Rattle.aseba_words.specs.declared.limits.TheConstants.{MOST_NAME_BYTES}

-- two names, or two words, are the same bytes
abbrev pub is_same : List ℕ → List ℕ → Bool
is_same a b = pointwise nat_eq a b

-- bytes from the blank to `~`
abbrev pub is_printable : List ℕ → Bool
is_printable bytes = list_all (is_within 32 126) bytes

-- a text for a reader: at most 255 bytes, from the blank to `~`
abbrev pub is_text : List ℕ → Bool
is_text text = nat_le (length text) MOST_NAME_BYTES && is_printable text

abbrev pub IsText : List ℕ → Type 0
IsText text = IsTrue (is_text text)

-- a name among names, and names of which none stands twice
abbrev pub stands_in : List ℕ → List (List ℕ) → Bool
stands_in name names = list_any (is_same name) names

abbrev pub are_distinct : List (List ℕ) → Bool
are_distinct [] = true
are_distinct (name ∷ names) = not (stands_in name names) && are_distinct names

-- no name of the first stands in the second
abbrev pub are_apart : List (List ℕ) → List (List ℕ) → Bool
are_apart front back = list_all (λ name. not (stands_in name back)) front
