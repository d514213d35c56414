-- Which line of a text tells of which native.
use Rattle.std.specs.Prelude.{◌≡◌, ℕ, ◌+◌, ◌-◌, Bool, nat_eq, List, length, take, filter, codes}
use Rattle.std.specs.List.{starts_with}

-- a line that tells of a native
abbrev pub tells_native : List ℕ → Bool
tells_native row = starts_with nat_eq row (codes "native ")

-- how many lines do
abbrev pub natives_told : List (List ℕ) → ℕ
natives_told rows = length (filter tells_native rows)

-- The line, counted from 1, of the native that so many others come before.
pub record IsNativeLine (rows : List (List ℕ)) (others n : ℕ) : Type 0 where
  pub before : natives_told (take (n - 1) rows) ≡ others
  pub with_it : natives_told (take n rows) ≡ others + 1
