-- What is made of elements, as far as the definitions of the plain form have no name for it.
use Rattle.std.specs.Prelude.{ℕ, ℤ, pos, List, [], ◌∷◌, map, Option, Some, None}
use Rattle.std.specs.List.{range_with_len}
use Rattle.aseba_words.specs.declared.operators.Binary.{Binary}
use Rattle.aseba_tree.specs.CoreExpr.{CoreExpr, fixed, cell, infix_of}

-- so many cells from an address on
abbrev pub cells_from : ℕ → ℕ → List CoreExpr
cells_from start count = map cell (range_with_len start count)

-- a constant's number, where there is one
abbrev pub constant_elements : Option ℤ → List CoreExpr
constant_elements None = []
constant_elements (Some v) = fixed v ∷ []

-- elements with an operator and 1 behind each
abbrev pub bumped : Binary → List CoreExpr → List CoreExpr
bumped op es = map (λ l. infix_of op l (fixed (pos 1))) es

-- the first element, or the number 0 where there is none
abbrev pub first_element : List CoreExpr → CoreExpr
first_element [] = fixed (pos 0)
first_element (e ∷ es) = e
