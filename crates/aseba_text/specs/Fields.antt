-- The fields of a line, which are separated by one blank each.
use Rattle.std.specs.Prelude.{ℕ, Bool, not, ◌==◌, List, [], ◌∷◌, Option, Some, None, if◌then◌else◌}
use Rattle.std.specs.Option.{option_map}
use Rattle.std.specs.List.{list_all, slice_split}

-- no blank stands in the bytes
abbrev pub has_no_blank : List ℕ → Bool
has_no_blank bytes = list_all (λ b. not (b == 32)) bytes

-- what stands before the first blank, and behind it
abbrev pub cut : List ℕ → Option (List ℕ × List ℕ)
cut [] = None
cut (b ∷ bs) = if b == 32 then Some ([], bs) else option_map (λ c. (b ∷ c.0, c.1)) (cut bs)

-- All fields, of which there is at least one. Two blanks side by side, or one at an end, have an empty field beside them.
abbrev pub fields : List ℕ → List (List ℕ)
fields text = slice_split (λ b. b == 32) text

-- the fields of what stands behind a field, if a blank does
abbrev pub fields_behind : Option (List ℕ) → List (List ℕ)
fields_behind None = []
fields_behind (Some rest) = fields rest
