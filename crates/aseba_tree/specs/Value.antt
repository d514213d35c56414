-- The value of an expression where the variables have these cells.
use Rattle.std.specs.Prelude.{ℕ, ◌+◌, ◌-◌, ℤ, pos, negsuc, Bool, if◌then◌else◌, List, [], ◌∷◌, ◌++◌, map, length, slice_index_or, slice_set, nat_lt, bytes_eq, find, Option, Some, None, option_map, option_to_list, ok_or, Result, Ok, Err}
use Rattle.std.specs.List.{range_with_len}
use Rattle.std.specs.Option.{unwrap_or}
use Rattle.aseba_words.specs.declared.operators.Unary.{Unary}
use Rattle.aseba_words.specs.declared.operators.Binary.{Binary}
use Rattle.aseba_words.specs.Cell.{unary_value, binary_value}
use Rattle.aseba_tree.specs.Code.{Name, Expr, expr, Form, number, whole, index, range, items, one, two, Exprs, no_exprs, exprs, Const}

-- variables by name, in order, each with something for each of its cells
abbrev pub Named : Type 0 → Type 0
Named A = List (Name × List A)

abbrev pub Cells : Type 0
Cells = Named ℤ

-- what the first variable of a name has, where there is one
abbrev pub cells_of : {A : Type 0} → Named A → Name → Option (List A)
cells_of [] name = None
cells_of (v ∷ vs) name = if bytes_eq v.0 name then Some v.1 else cells_of vs name

-- the cells of a variable, none where there is no such variable
abbrev pub variable_cells : {A : Type 0} → Named A → Name → List A
variable_cells vs name = unwrap_or (cells_of vs name) []

-- the variables, with a cell of the first one of a name replaced; without such a cell they stay
abbrev pub put_cell : {A : Type 0} → Named A → Name → ℕ → A → Named A
put_cell [] name i x = []
put_cell (v ∷ vs) name i x = if bytes_eq v.0 name then (v.0, slice_set v.1 i x) ∷ vs else v ∷ put_cell vs name i x

-- a number from -32768 to 32767, as a cell holds it
abbrev pub is_cell : ℤ → Bool
is_cell (pos n) = nat_lt n 32768
is_cell (negsuc n) = nat_lt n 32768

-- Why a handler stops: a division by zero, or an index that isn't from 0 to the variable's size minus 1.
pub data Stop : Type 0 where
  by_zero : Stop
  outside : (size : ℕ) → (index : ℤ) → Stop

-- an element of a value: a cell, or the stop at which its computing ends
abbrev pub Element : Type 0
Element = Result ℤ Stop

-- goes on with what was computed, or keeps the stop
abbrev pub and_then : {A B : Type 0} → Result A Stop → (A → Result B Stop) → Result B Stop
and_then (Err s) go_on = Err s
and_then (Ok a) go_on = go_on a

-- the cells, or the first stop among them
abbrev pub first_stop : List Element → Result (List ℤ) Stop
first_stop [] = Ok []
first_stop (Err s ∷ es) = Err s
first_stop (Ok v ∷ es) = and_then (first_stop es) (λ vs. Ok (v ∷ vs))

-- the first constant of a name, and its number
abbrev pub constant_named : List Const → Name → Option Const
constant_named consts name = find (λ c. bytes_eq c.name name) consts

abbrev pub constant_number : List Const → Name → Option ℤ
constant_number consts name = option_map (λ c. c.value) (constant_named consts name)

-- the cells of the variable of a name; else the constant of that name, in one cell
abbrev pub named_cells : List Const → Name → Option (List ℤ) → List ℤ
named_cells consts name (Some cells) = cells
named_cells consts name None = option_to_list (constant_number consts name)

-- an index as a place among so many cells, or the stop that it makes
abbrev pub place_among : ℕ → ℤ → Result ℕ Stop
place_among size (pos i) = if nat_lt i size then Ok i else Err (outside size (pos i))
place_among size (negsuc n) = Err (outside size (negsuc n))

-- the cell at an index
abbrev pub cell_at : List ℤ → ℤ → Element
cell_at cells i = and_then (place_among (length cells) i) (λ place. Ok (slice_index_or cells place (pos 0)))

abbrev pub unary_element : Unary → Element → Element
unary_element op (Ok a) = Ok (unary_value op a)
unary_element op (Err s) = Err s

-- the left operand comes first, then the right one, then the operator
abbrev pub binary_element : Binary → Element → Element → Element
binary_element op (Err s) r = Err s
binary_element op (Ok a) (Err s) = Err s
binary_element op (Ok a) (Ok b) = ok_or (binary_value op a b) by_zero

-- an operator of two operands, cell by cell
abbrev pub paired : Binary → List Element → List Element → List Element
paired op (l ∷ ls) (r ∷ rs) = binary_element op l r ∷ paired op ls rs
paired op _ _ = []

-- the one element of what has one cell
abbrev pub one_element : List Element → Element
one_element [] = Ok (pos 0)
one_element (e ∷ es) = e

-- the number of what is computed without a stop
abbrev pub as_number : Element → ℤ
as_number (Ok v) = v
as_number (Err s) = pos 0

-- a number as a place among cells
abbrev pub as_place : ℤ → ℕ
as_place (pos i) = i
as_place (negsuc n) = 0

-- the place that a constant's elements name
abbrev pub number_of : List Element → ℕ
number_of es = as_place (as_number (one_element es))

-- the numbers from the first to the last, both included
abbrev pub from_to : ℕ → ℕ → List ℕ
from_to first last = range_with_len first (last + 1 - first)

-- The elements of an expression in order. The ends of a range are computed from numbers and constants alone.
abbrev mutual
  pub elements : List Const → Cells → Expr → List Element
  elements consts cells (expr first at form) = form_elements consts cells form

  pub form_elements : List Const → Cells → Form → List Element
  form_elements consts cells (number v) = Ok v ∷ []
  form_elements consts cells (whole name) = map Ok (named_cells consts name (cells_of cells name))
  form_elements consts cells (index name e) = and_then (one_element (elements consts cells e)) (cell_at (variable_cells cells name)) ∷ []
  form_elements consts cells (range name c d) =
      map (λ i. cell_at (variable_cells cells name) (pos i)) (from_to (number_of (elements consts [] c)) (number_of (elements consts [] d)))
  form_elements consts cells (items es) = list_elements consts cells es
  form_elements consts cells (one op e) = map (unary_element op) (elements consts cells e)
  form_elements consts cells (two op l r) = paired op (elements consts cells l) (elements consts cells r)

  pub list_elements : List Const → Cells → Exprs → List Element
  list_elements consts cells no_exprs = []
  list_elements consts cells (exprs e es) = elements consts cells e ++ list_elements consts cells es

-- the cells of an expression, or the first stop
abbrev pub value : List Const → Cells → Expr → Result (List ℤ) Stop
value consts cells e = first_stop (elements consts cells e)

-- the number that an expression of numbers and constants stands for
abbrev pub constant : List Const → Expr → ℤ
constant consts e = as_number (one_element (elements consts [] e))
