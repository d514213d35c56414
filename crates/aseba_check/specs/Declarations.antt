-- What is told of declarations, each where the names before it are known.
use Rattle.std.specs.Prelude.{ℕ, Bool, true, false, cond, ℤ, pos, int_lt, List, [], ◌∷◌, Option, Some, None, is_some, option_map, FitsSigned}
use Rattle.std.specs.Int.{w16}
use Rattle.aseba_tree.specs.declared.pos.Pos.{Pos}
use Rattle.aseba_tree.specs.declared.description.Sized.{Sized}
use Rattle.aseba_tree.specs.declared.project.Const.{Const}
use Rattle.aseba_tree.specs.Code.{Name, Expr, Decl}
use Rattle.aseba_tree.specs.Faults.{size_in_range}
use Rattle.aseba_check.specs.declared.fault.Rule.TheVariants as code
use Rattle.aseba_check.specs.declared.fault.Fault.{Fault}
use Rattle.aseba_check.specs.declared.facts.Facts.{Facts}
use Rattle.aseba_check.specs.declared.facts.Meaning.{Meaning}
use Rattle.aseba_check.specs.declared.facts.Meaning.TheVariants.{Variable, Constant}
use Rattle.aseba_check.specs.Looked.{with_value, first_value}
use Rattle.aseba_check.specs.Told as told
use Rattle.aseba_check.specs.Statements.{bound_told}

-- Names

abbrev pub Names : Type 0
Names = Name → Option Meaning

abbrev pub is_variable : Option Meaning → Bool
is_variable None = false
is_variable (Some (Variable size)) = true
is_variable (Some (Constant v)) = false

-- the names with a variable, unless a variable has its name
abbrev pub declared : Names → Name → Option ℕ → Names
declared names name size = cond (is_variable (names name)) names (with_value names name (Variable size))

-- with a node's variables
abbrev pub with_variables : Names → List Sized → Names
with_variables names [] = names
with_variables names (v ∷ vs) = with_variables (declared names v.name (Some v.size)) vs

-- with constants
abbrev pub with_const : Names → Const → Names
with_const names c = first_value names c.name (Constant c.value)

abbrev pub with_consts : Names → List Const → Names
with_consts names [] = names
with_consts names (c ∷ cs) = with_consts (with_const names c) cs

-- each constant's number is one that a cell holds
abbrev pub ConstsFit : List Const → Type 0
ConstsFit [] = Unit {0}
ConstsFit (c ∷ cs) = FitsSigned w16 c.value × ConstsFit cs

-- One declaration

abbrev pub size_facts : Names → Option Expr → Option Facts
size_facts names size = option_map (told.facts_of names) size

-- the size that a declaration gives
abbrev pub given_size : Option Facts → Option ℕ
given_size None = Some 1
given_size (Some e) = size_in_range e.value

abbrev pub size_out_of_range : Pos → Option ℤ → Option Fault
size_out_of_range at None = None
size_out_of_range at (Some v) =
    told.least (told.fault_if (int_lt v (pos 1)) at (code.BadSize (pos 1) v)) (told.fault_if (int_lt (pos 4096) v) at (code.BadSize (pos 4096) v))

abbrev pub size_told : Pos → Option Facts → Option Fault
size_told at None = None
size_told at (Some e) = told.least (bound_told e) (size_out_of_range at e.value)

abbrev pub value_fault : Pos → Option ℕ → Facts → Option Fault
value_fault equals size e = told.least e.fault (told.bad_size equals size e.size)

abbrev pub value_told : Names → Pos → Option ℕ → Option Expr → Option Fault
value_told names equals size None = None
value_told names equals size (Some e) = value_fault equals size (told.facts_of names e)

abbrev pub decl_told : Names → Decl → Option Fault
decl_told names d =
    told.least (told.least (told.fault_if (is_some (names d.name)) (told.pos_of d.place) code.Duplicate) (size_told (told.pos_of d.place) (size_facts names d.size)))
    (value_told names (told.pos_of d.equals) (given_size (size_facts names d.size)) d.value)

-- what names mean behind a declaration
abbrev pub declaring : Names → Decl → Names
declaring names d = declared names d.name (given_size (size_facts names d.size))

-- All of them

abbrev pub all_declaring : Names → List Decl → Names
all_declaring names [] = names
all_declaring names (d ∷ ds) = all_declaring (declaring names d) ds

abbrev pub with_decl : Names → Option Fault → Decl → Option Fault
with_decl names before d = told.least before (decl_told names d)

abbrev pub decls_told : Names → Option Fault → List Decl → Option Fault
decls_told names before [] = before
decls_told names before (d ∷ ds) = decls_told (declaring names d) (with_decl names before d) ds

-- the sizes that declarations give, one after the other
abbrev pub decl_sizes : Names → List Decl → List (Option ℕ)
decl_sizes names [] = []
decl_sizes names (d ∷ ds) = given_size (size_facts names d.size) ∷ decl_sizes (declaring names d) ds
