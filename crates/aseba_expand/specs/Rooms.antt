-- The temporaries that the values of declarations take.
use Rattle.std.specs.Prelude.{ℕ, max, List, [], ◌∷◌, Option, Some, None}
use Rattle.aseba_tree.specs.Code.{Expr, Decl}
use Rattle.aseba_tree.specs.State.{Program}
use Rattle.aseba_tree.specs.Elements.{elements_of}
use Rattle.aseba_tree.specs.Numbers.{assigned_room}

-- the temporaries of a value, none where there is no value
abbrev pub value_room : Program → Option Expr → ℕ
value_room program None = 0
value_room program (Some e) = assigned_room None (elements_of program e)

-- the most that a value of these declarations takes
abbrev pub values_room : Program → List Decl → ℕ
values_room program [] = 0
values_room program (d ∷ ds) = max (value_room program d.value) (values_room program ds)
