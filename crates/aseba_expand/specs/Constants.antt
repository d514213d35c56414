-- The first cell of what numbers and constants compute.
use Rattle.std.specs.Prelude.{ℕ, nat_lt, if◌then◌else◌, ℤ, pos, List, [], ◌∷◌, Option, Some, None, Ok, Err}
use Rattle.aseba_words.specs.declared.operators.Unary.{Unary}
use Rattle.aseba_words.specs.declared.operators.Binary.{Binary}
use Rattle.aseba_words.specs.Cell.{unary_value, binary_value}
use Rattle.aseba_tree.specs.Value.{Element}
use Rattle.aseba_expand.specs.declared.constants.First.{First}
use Rattle.aseba_expand.specs.declared.constants.First.TheVariants.{Absent, Unknown, Number}

abbrev pub number_in : Element → Option ℤ
number_in (Ok v) = Some v
number_in (Err stop) = None

-- the first element, where there is one, and its number, where it has one
abbrev pub first_of : List Element → Option (Option ℤ)
first_of [] = None
first_of (e ∷ es) = Some (number_in e)

abbrev pub meant : First → Option (Option ℤ)
meant Absent = None
meant Unknown = Some None
meant (Number v) = Some (Some v)

abbrev pub prefixed_first : Unary → Option (Option ℤ) → Option (Option ℤ)
prefixed_first op (Some (Some v)) = Some (Some (unary_value op v))
prefixed_first op first = first

abbrev pub paired_first : Binary → Option (Option ℤ) → Option (Option ℤ) → Option (Option ℤ)
paired_first op None right = None
paired_first op (Some left) None = None
paired_first op (Some (Some a)) (Some (Some b)) = Some (binary_value op a b)
paired_first op (Some left) (Some right) = Some None

-- the number of what is computed without a stop, else 0
abbrev pub number_of_first : Option (Option ℤ) → ℤ
number_of_first (Some (Some v)) = v
number_of_first _ = pos 0

-- the first of these, unless it is absent, and then the other
abbrev pub first_or : Option (Option ℤ) → Option (Option ℤ) → Option (Option ℤ)
first_or None other = other
first_or (Some e) other = Some e

-- of a range, no cell has a number, and there is one unless the last stands before the first
abbrev pub ranged_first : ℕ → ℕ → Option (Option ℤ)
ranged_first from to = if nat_lt to from then None else Some None
