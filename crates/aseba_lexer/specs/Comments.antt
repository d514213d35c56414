-- How far a comment reaches behind its opening bytes.
use Rattle.std.specs.Prelude.{ℕ, ◌+◌, Bool, false, not, ◌==◌, codes, List, [], ◌∷◌, Option, Some, None, option_map, if◌then◌else◌}
use Rattle.std.specs.List.{prefix_len, starts_with}
use lib.Dec.{eqb}

-- whether a comment goes on to its `*#`, and not to the line's end
abbrev pub begins_with_star : List ℕ → Bool
begins_with_star [] = false
begins_with_star (b ∷ rest) = b == 42

-- the bytes up to the line's end, which isn't part of the comment
abbrev pub line_len : List ℕ → ℕ
line_len text = prefix_len (λ b. not (b == 10)) text

-- the bytes up to the first `*#`, these two included
abbrev pub block_len : List ℕ → Option ℕ
block_len [] = None
block_len (a ∷ rest) = if starts_with eqb (a ∷ rest) (codes "*#") then Some 2 else option_map (λ n. n + 1) (block_len rest)
