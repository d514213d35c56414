-- What is so of each sound source.
use Rattle.std.specs.Prelude.{◌≡◌, ◌↔◌, ℕ, ◌≤◌, nat_lt, IsTrue, ℤ, List, [], ◌∷◌, map, length, Option, Some, None, IsSomeAnd, Ok}
use Rattle.std.specs.List.{list_all}
use Rattle.aseba_tree.specs.Code.{Expr, expr, Form, number, whole, index, range, items, one, two, Exprs, no_exprs, exprs, Decl}
use Rattle.aseba_tree.specs.Each.{EachOption, EachStmts, EachPartOf}
use Rattle.aseba_tree.specs.State.{Program}
use Rattle.aseba_tree.specs.Sizes.{Scope, size_of, form_size, constant_value}
use Rattle.aseba_tree.specs.Value.{value}
use Rattle.aseba_tree.specs.Faults.{expr_faults, faults, declaring, first_scope, world_of}
use Rattle.aseba_tree.specs.Layout.{variables, cells_of_variables}
use Rattle.aseba_tree.specs.Numbers.{is_large}
use Rattle.aseba_tree.specs.Shape.{is_filled, IsTree}
use Rattle.aseba_tree.specs.Elements.{elements_of}
use Rattle.aseba_tree.specs.Soundness.{far_subroutine, Sound}

-- A source is sound exactly where no rule is broken, the variables have room in the node, and no subroutine of a large project begins too far behind.
abbrev pub SoundIsFaultless : Program → Type 0
SoundIsFaultless program =
    Sound program ↔ ((faults program ≡ []) × (cells_of_variables program ≤ program.project.node.cells) × (IsTrue (is_large program.project) → far_subroutine program ≡ None))

-- there is a size, and it is at least 1
abbrev pub HasCells : Option ℕ → Type 0
HasCells size = IsSomeAnd size (λ n. 1 ≤ n)

-- an expression and each one in it has a size of at least 1
abbrev mutual
  pub EachHasCells : Scope → Expr → Type 0
  EachHasCells scope (expr first place form) = HasCells (form_size scope form) × EachInForm scope form

  pub EachInForm : Scope → Form → Type 0
  EachInForm scope (number v) = Unit {0}
  EachInForm scope (whole name) = Unit {0}
  EachInForm scope (index name e) = EachHasCells scope e
  EachInForm scope (range name c d) = EachHasCells scope c × EachHasCells scope d
  EachInForm scope (items es) = EachInList scope es
  EachInForm scope (one op e) = EachHasCells scope e
  EachInForm scope (two op l r) = EachHasCells scope l × EachHasCells scope r

  pub EachInList : Scope → Exprs → Type 0
  EachInList scope no_exprs = Unit {0}
  EachInList scope (exprs e es) = EachHasCells scope e × EachInList scope es

-- in declarations, each in the scope of those before it
abbrev pub EachInDecls : Scope → List Decl → Type 0
EachInDecls scope [] = Unit {0}
EachInDecls scope (d ∷ ds) = EachOption (EachHasCells scope) d.size × EachOption (EachHasCells scope) d.value × EachInDecls (declaring scope d) ds

-- each expression of a source has a size of at least 1
abbrev pub EachInSource : Program → Type 0
EachInSource program =
    let each = EachHasCells (world_of program).scope in
    EachInDecls (first_scope program.project) program.source.vars × EachStmts each program.source.init × EachPartOf each program.source.parts

-- Where each variable of the node has a cell, each expression of a sound source has a size of at least 1.
abbrev pub SoundHasCells : Program → Type 0
SoundHasCells program = IsTree program.source → IsTrue (list_all (λ v. nat_lt 0 v.size) program.project.node.variables) → Sound program → EachInSource program

-- What a sound source knows of its variables is how they are laid out: the same names in the same order, each with its size.
abbrev pub SoundIsLaidOut : Program → Type 0
SoundIsLaidOut program = IsTree program.source → IsTrue (list_all (λ v. nat_lt 0 v.size) program.project.node.variables) → Sound program
    → (world_of program).scope.variables ≡ map (λ v. record { name = v.name; size = Some v.size }) (variables program)

-- An expression of numbers and constants that has a value has it in a run, too.
abbrev pub ConstantHasValue : Program → Type 0
ConstantHasValue program = (e : Expr) (v : ℤ) → constant_value (world_of program).scope e ≡ Some v → value program.project.consts [] e ≡ Ok (v ∷ [])

-- Where all variables of a sound source are known, an expression without a fault has as many elements as cells.
abbrev pub SoundHasElements : Program → Type 0
SoundHasElements program = IsTree program.source → IsTrue (list_all (λ v. nat_lt 0 v.size) program.project.node.variables) → Sound program
    → (e : Expr) → IsTrue (is_filled e) → expr_faults (world_of program).scope e ≡ [] → size_of (world_of program).scope e ≡ Some (length (elements_of program e))
