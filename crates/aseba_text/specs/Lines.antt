-- The lines of a text that say something. A text's lines end with a line feed, or a carriage return and a line feed; the last may have no end.
use Rattle.std.specs.Prelude.{ℕ, Bool, true, not, ◌==◌, List, [], ◌∷◌, filter}

-- empty lines and those that begin with `#` say nothing
abbrev pub is_skipped : List ℕ → Bool
is_skipped [] = true
is_skipped (b ∷ bs) = b == 35

-- the lines that say something
abbrev pub spoken : List (List ℕ) → List (List ℕ)
spoken rows = filter (λ row. not (is_skipped row)) rows
