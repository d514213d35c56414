-- The templates of a native: parameters whose size is a number below 0, where equal numbers are one template.
use Rattle.std.specs.Prelude.{ℕ, Bool, not, ◌&&◌, if◌then◌else◌, ℤ, pos, negsuc, int_lt, List, [], ◌∷◌, slice_index}
use Rattle.std.specs.List.{list_any, position_or_len}
use Rattle.std.specs.Ordering.{int_eq}

-- a parameter of this size is the first of a template, where these stand before it
abbrev pub opens_template : List ℤ → ℤ → Bool
opens_template before size = int_lt size (pos 0) && not (list_any (int_eq size) before)

-- the templates in the order in which they first stand among parameters, but those that stood before
abbrev pub templates : List ℤ → List ℤ → List ℤ
templates before [] = []
templates before (p ∷ ps) = if opens_template before p then p ∷ templates (p ∷ before) ps else templates before ps

-- the lengths of these templates in the same order, where the arguments have so many cells
abbrev pub template_lengths : List ℤ → List ℤ → List ℕ → List ℕ
template_lengths before (p ∷ ps) (n ∷ ns) = if opens_template before p then n ∷ template_lengths (p ∷ before) ps ns else template_lengths before ps ns
template_lengths before _ _ = []

-- the cells of a parameter where the templates have these lengths
abbrev pub cells_of_param : List ℤ → List ℕ → ℤ → ℕ
cells_of_param all lengths (pos n) = n
cells_of_param all lengths (negsuc n) = slice_index lengths (position_or_len (int_eq (negsuc n)) all)
