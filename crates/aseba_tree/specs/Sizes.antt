-- What is known of names at a place of a source, which expressions are constant, and how many cells an expression has.
use Rattle.std.specs.Prelude.{ℕ, ◌+◌, Bool, true, false, ◌&&◌, if◌then◌else◌, ℤ, ◌-ℤ◌, int_lt, unsigned_abs, nat_eq, List, bytes_eq, find, Option, Some, None, is_some, option_map, option_and_then}
use Rattle.aseba_words.specs.declared.operators.Unary.{Unary}
use Rattle.aseba_words.specs.declared.operators.Unary.TheVariants.{Minus, Abs, BitNot, Not}
use Rattle.aseba_words.specs.declared.operators.Binary.{Binary}
pub use Rattle.aseba_words.specs.Cell.{is_of_one_cell}
use Rattle.aseba_words.specs.Cell.{unary_value, binary_value}
use Rattle.aseba_tree.specs.Value.{constant_number}
use Rattle.aseba_tree.specs.Code.{Name, Expr, expr, Form, number, whole, index, range, items, one, two, Exprs, no_exprs, exprs, Part, all, at, span, Target, Const}

-- a variable with its size, where its declaration gives one
pub record Known : Type 0 where
  pub name : Name
  pub size : Option ℕ

-- the constants, and the variables that are known at a place
pub record Scope : Type 0 where
  pub consts : List Const
  pub variables : List Known

abbrev pub variable_of : Scope → Name → Option Known
variable_of scope name = find (λ v. bytes_eq v.name name) scope.variables

abbrev pub constant_of : Scope → Name → Option ℤ
constant_of scope name = constant_number scope.consts name

-- the number of the constant that a name alone means, where no variable has that name
abbrev pub named_constant : Scope → Name → Option ℤ
named_constant scope name = if is_some (variable_of scope name) then None else constant_of scope name

-- whether an expression is built of numbers and constants alone
abbrev mutual
  pub is_constant : Scope → Expr → Bool
  is_constant scope (expr first place form) = is_constant_form scope form

  pub is_constant_form : Scope → Form → Bool
  is_constant_form scope (number v) = true
  is_constant_form scope (whole name) = is_some (named_constant scope name)
  is_constant_form scope (index name e) = false
  is_constant_form scope (range name c d) = false
  is_constant_form scope (items es) = are_constant scope es
  is_constant_form scope (one op e) = is_constant scope e
  is_constant_form scope (two op l r) = is_constant scope l && is_constant scope r

  pub are_constant : Scope → Exprs → Bool
  are_constant scope no_exprs = true
  are_constant scope (exprs e es) = is_constant scope e && are_constant scope es

abbrev pub unary_constant : Unary → Option ℤ → Option ℤ
unary_constant op a = option_map (unary_value op) a

abbrev pub binary_constant : Binary → Option ℤ → Option ℤ → Option ℤ
binary_constant op l r = option_and_then (λ a. option_and_then (λ b. binary_value op a b) r) l

-- the first of one value alone
abbrev pub alone : Option ℤ → Exprs → Option ℤ
alone value no_exprs = value
alone value (exprs e es) = None

-- The one number that an expression of numbers and constants stands for: none where it divides by zero. A list of one cell stands for that cell.
abbrev mutual
  pub constant_value : Scope → Expr → Option ℤ
  constant_value scope (expr first place form) = constant_form scope form

  pub constant_form : Scope → Form → Option ℤ
  constant_form scope (number v) = Some v
  constant_form scope (whole name) = named_constant scope name
  constant_form scope (index name e) = None
  constant_form scope (range name c d) = None
  constant_form scope (items es) = constant_list scope es
  constant_form scope (one op e) = unary_constant op (constant_value scope e)
  constant_form scope (two op l r) = binary_constant op (constant_value scope l) (constant_value scope r)

  pub constant_list : Scope → Exprs → Option ℤ
  constant_list scope no_exprs = None
  constant_list scope (exprs e es) = alone (constant_value scope e) es

-- the size that both sides have
abbrev pub common_size : Option ℕ → Option ℕ → Option ℕ
common_size (Some l) (Some r) = if nat_eq l r then Some l else None
common_size _ _ = None

abbrev pub added_size : Option ℕ → Option ℕ → Option ℕ
added_size (Some l) (Some r) = Some (l + r)
added_size _ _ = None

-- the number of cells from one to another, both included: none where an end has no value or they run backwards
abbrev pub range_size : Option ℤ → Option ℤ → Option ℕ
range_size (Some c) (Some d) = if int_lt d c then None else Some (unsigned_abs (d -ℤ c) + 1)
range_size _ _ = None

-- the declared size of a variable, and one cell for a constant
abbrev pub name_size : Option Known → Option ℤ → Option ℕ
name_size (Some v) _ = v.size
name_size None (Some v) = Some 1
name_size None None = None

abbrev pub unary_size : Unary → Option ℕ → Option ℕ
unary_size Minus size = size
unary_size Abs size = size
unary_size BitNot size = size
unary_size Not size = Some 1

abbrev pub binary_size : Binary → Option ℕ → Option ℕ → Option ℕ
binary_size op l r = if is_of_one_cell op then Some 1 else common_size l r

-- The number of cells of an expression: one for an indexed cell, for `not` and for an operator whose result has one cell, over any parts. Else it has
-- none where a name alone is unknown, the ends of a range are not constant or run backwards, the sizes of two operands differ, or a part has none.
abbrev mutual
  pub size_of : Scope → Expr → Option ℕ
  size_of scope (expr first place form) = form_size scope form

  pub form_size : Scope → Form → Option ℕ
  form_size scope (number v) = Some 1
  form_size scope (whole name) = name_size (variable_of scope name) (constant_of scope name)
  form_size scope (index name e) = Some 1
  form_size scope (range name c d) = range_size (constant_value scope c) (constant_value scope d)
  form_size scope (items es) = list_size scope es
  form_size scope (one op e) = unary_size op (size_of scope e)
  form_size scope (two op l r) = binary_size op (size_of scope l) (size_of scope r)

  pub list_size : Scope → Exprs → Option ℕ
  list_size scope no_exprs = Some 0
  list_size scope (exprs e es) = added_size (size_of scope e) (list_size scope es)

-- the size of a variable, where it is known and has one
abbrev pub variable_size : Scope → Name → Option ℕ
variable_size scope name = option_and_then (λ v. v.size) (variable_of scope name)

-- the number of cells that a target means
abbrev pub part_size : Scope → Name → Part → Option ℕ
part_size scope name all = variable_size scope name
part_size scope name (at e) = Some 1
part_size scope name (span c d) = range_size (constant_value scope c) (constant_value scope d)

abbrev pub target_size : Scope → Target → Option ℕ
target_size scope target = part_size scope target.name target.part
