-- The faults of a source: every place at which it breaks a rule of the language, and which of them is told.
use Rattle.std.specs.Prelude.{ℕ, ◌+◌, Bool, true, false, not, ◌&&◌, ◌||◌, if◌then◌else◌, ℤ, pos, negsuc, int_lt, nat_eq, nat_lt, List, [], ◌∷◌, ◌++◌, length, map, bytes_eq, find, filter, Option, Some, None, is_some, option_map}
use Rattle.std.specs.List.{list_any}
use Rattle.std.specs.Ordering.{int_eq}
use Rattle.std.specs.Bool.{beq}
use Rattle.aseba_words.specs.declared.limits.TheConstants.{MOST_CELLS}
use Rattle.aseba_words.specs.declared.operators.Unary.{Unary}
use Rattle.aseba_words.specs.declared.operators.Unary.TheVariants.{Minus, Abs, BitNot, Not}
use Rattle.aseba_words.specs.declared.operators.Binary.{Binary}
use Rattle.aseba_words.specs.declared.operators.Binary.TheVariants.{Div, Rem}
use Rattle.aseba_tree.specs.Code.{Name, Place, Expr, expr, Form, number, whole, index, range, items, one, two, Exprs, no_exprs, exprs, Part, all, at, span, Target, ForHead, Stmt, stmt, StmtForm, assign, change, bump, if_then, when_do, while_do, for_do, emit, callsub, call, return, Stmts, no_stmts, stmts, Decl, Handler, Sized, Param, Native, Project}
use Rattle.aseba_tree.specs.Spells.{first_of}
use Rattle.aseba_tree.specs.State.{Program, subroutines}
use Rattle.aseba_tree.specs.Sizes.{Scope, variable_of, constant_of, is_constant, constant_value, is_of_one_cell, size_of, variable_size, target_size}

-- the rules, in the order in which faults at one place are told
pub data Rule : Type 0 where
  unknown : Rule
  duplicate : Rule
  not_constant : Rule
  constant_division : Rule
  zero_step : Rule
  bad_size : (want got : ℤ) → Rule
  index_out : (size index : ℤ) → Rule
  not_scalar : Rule
  event_size : (want got : ℤ) → Rule
  arg_count : (want got : ℤ) → Rule
  recursion : Rule

-- a place with the rule that is broken there
pub record Fault : Type 0 where
  pub place : Place
  pub rule : Rule

-- a fault where something is so, and none where it isn't
abbrev pub fault_if : Bool → Place → Rule → List Fault
fault_if b place rule = if b then record { place = place; rule = rule } ∷ [] else []

-- two sizes that are both there and differ
abbrev pub sizes_differ : (ℤ → ℤ → Rule) → Place → Option ℕ → Option ℕ → List Fault
sizes_differ rule place (Some want) (Some got) = fault_if (not (nat_eq want got)) place (rule (pos want) (pos got))
sizes_differ rule place _ _ = []

-- Expressions

abbrev pub is_more_than_one : Option ℕ → Bool
is_more_than_one (Some n) = nat_lt 1 n
is_more_than_one None = false

-- one cell is needed
abbrev pub not_one_cell : Scope → Expr → List Fault
not_one_cell scope e = fault_if (is_more_than_one (size_of scope e)) (first_of e) not_scalar

-- a variable is meant
abbrev pub unknown_variable : Scope → Place → Name → List Fault
unknown_variable scope place name = fault_if (not (is_some (variable_of scope name))) place unknown

abbrev pub is_known : Scope → Name → Bool
is_known scope name = is_some (variable_of scope name) || is_some (constant_of scope name)

-- an index or the end of a range that has a value is a cell of the variable
abbrev pub index_outside : Place → Option ℕ → Option ℤ → List Fault
index_outside place (Some size) (Some v) = fault_if (int_lt v (pos 0) || not (int_lt v (pos size))) place (index_out (pos size) v)
index_outside place _ _ = []

abbrev pub backwards : Place → Option ℕ → Option ℤ → Option ℤ → List Fault
backwards place (Some size) (Some c) (Some d) = fault_if (int_lt d c) place (index_out (pos size) d)
backwards place _ _ _ = []

abbrev pub divides : Binary → Bool
divides Div = true
divides Rem = true
divides _ = false

abbrev pub is_number : Option ℤ → ℤ → Bool
is_number (Some v) n = int_eq v n
is_number None n = false

-- the operators of an expression of numbers and constants that divide by zero
abbrev mutual
  pub zero_divisions : Scope → Expr → List Fault
  zero_divisions scope (expr first place form) = form_divisions scope place form

  pub form_divisions : Scope → Place → Form → List Fault
  form_divisions scope place (items es) = list_divisions scope es
  form_divisions scope place (one op e) = zero_divisions scope e
  form_divisions scope place (two op l r) =
      zero_divisions scope l ++ zero_divisions scope r ++ fault_if (divides op && is_number (constant_value scope r) (pos 0)) place constant_division
  form_divisions scope place _ = []

  pub list_divisions : Scope → Exprs → List Fault
  list_divisions scope no_exprs = []
  list_divisions scope (exprs e es) = zero_divisions scope e ++ list_divisions scope es

-- a place where one number is needed that numbers and constants give
abbrev pub constant_place : Scope → Expr → List Fault
constant_place scope e =
    (if is_constant scope e then zero_divisions scope e else record { place = first_of e; rule = not_constant } ∷ []) ++ not_one_cell scope e

-- the index of a variable, which may be computed when it runs
abbrev pub bad_index : Scope → Place → Name → Expr → List Fault
bad_index scope place name e =
    (if is_constant scope e then zero_divisions scope e else []) ++ not_one_cell scope e ++ index_outside place (variable_size scope name) (constant_value scope e)

-- the ends of a range: the first, then the second, then their order
abbrev pub bad_range : Scope → Place → Name → Expr → Expr → List Fault
bad_range scope place name c d =
    constant_place scope c ++ constant_place scope d ++ index_outside place (variable_size scope name) (constant_value scope c)
    ++ index_outside place (variable_size scope name) (constant_value scope d) ++ backwards place (variable_size scope name) (constant_value scope c) (constant_value scope d)

abbrev pub bad_operand : Scope → Unary → Expr → List Fault
bad_operand scope Minus e = []
bad_operand scope Abs e = []
bad_operand scope BitNot e = []
bad_operand scope Not e = not_one_cell scope e

abbrev pub bad_operands : Scope → Place → Binary → Expr → Expr → List Fault
bad_operands scope place op l r =
    if is_of_one_cell op then not_one_cell scope l ++ not_one_cell scope r else sizes_differ bad_size place (size_of scope l) (size_of scope r)

-- the faults of an expression and of all in it
abbrev mutual
  pub expr_faults : Scope → Expr → List Fault
  expr_faults scope (expr first place form) = form_faults scope place form

  pub form_faults : Scope → Place → Form → List Fault
  form_faults scope place (number v) = []
  form_faults scope place (whole name) = fault_if (not (is_known scope name)) place unknown
  form_faults scope place (index name e) = unknown_variable scope place name ++ expr_faults scope e ++ bad_index scope place name e
  form_faults scope place (range name c d) = unknown_variable scope place name ++ expr_faults scope c ++ expr_faults scope d ++ bad_range scope place name c d
  form_faults scope place (items es) = list_faults scope es
  form_faults scope place (one op e) = expr_faults scope e ++ bad_operand scope op e
  form_faults scope place (two op l r) = expr_faults scope l ++ expr_faults scope r ++ bad_operands scope place op l r

  pub list_faults : Scope → Exprs → List Fault
  list_faults scope no_exprs = []
  list_faults scope (exprs e es) = expr_faults scope e ++ list_faults scope es

-- an expression at a place where one number is needed that numbers and constants give
abbrev pub bound_faults : Scope → Expr → List Fault
bound_faults scope e = expr_faults scope e ++ constant_place scope e

-- an expression of one cell, as a condition is
abbrev pub cell_faults : Scope → Expr → List Fault
cell_faults scope e = expr_faults scope e ++ not_one_cell scope e

-- Statements

-- What the statements of a source may name: constants and variables, the project's events and natives, and the subroutines.
pub record World : Type 0 where
  pub scope : Scope
  pub project : Project
  pub subs : List Name

abbrev pub part_faults : Scope → Place → Name → Part → List Fault
part_faults scope place name all = []
part_faults scope place name (at e) = expr_faults scope e ++ bad_index scope place name e
part_faults scope place name (span c d) = expr_faults scope c ++ expr_faults scope d ++ bad_range scope place name c d

abbrev pub target_faults : Scope → Target → List Fault
target_faults scope target = unknown_variable scope target.place target.name ++ part_faults scope target.place target.name target.part

-- an assignment of an expression, or of an operator with it, whose sign stands at a place
abbrev pub assignment_faults : Scope → Place → Target → Expr → List Fault
assignment_faults scope place target e = target_faults scope target ++ expr_faults scope e ++ sizes_differ bad_size place (target_size scope target) (size_of scope e)

abbrev pub step_faults : Scope → Option Expr → List Fault
step_faults scope None = []
step_faults scope (Some e) = bound_faults scope e ++ fault_if (is_number (constant_value scope e) (pos 0)) (first_of e) zero_step

-- the variable, the bounds and the step of a `for` whose variable stands at a place
abbrev pub head_faults : Scope → Place → ForHead → List Fault
head_faults scope place head =
    unknown_variable scope place head.name ++ fault_if (is_more_than_one (variable_size scope head.name)) place not_scalar ++ bound_faults scope head.first
    ++ bound_faults scope head.last ++ step_faults scope head.step

abbrev pub global_event : Project → Name → Option Sized
global_event project name = find (λ event. bytes_eq event.name name) project.events

abbrev pub argument_faults : Scope → Option Sized → Option Expr → List Fault
argument_faults scope event None = []
argument_faults scope event (Some e) = expr_faults scope e ++ sizes_differ event_size (first_of e) (option_map (λ v. v.size) event) (size_of scope e)

abbrev pub emit_faults : World → Place → Name → Option Expr → List Fault
emit_faults world place name argument =
    fault_if (not (is_some (global_event world.project name))) place unknown ++ argument_faults world.scope (global_event world.project name) argument

-- the arguments of a native with their parameters' sizes, as far as both go
abbrev pub with_params : List Param → Exprs → List (ℤ × Expr)
with_params (p ∷ ps) (exprs e es) = (p.size, e) ∷ with_params ps es
with_params _ _ = []

-- the length of a template is that of its first argument
abbrev pub template_size : Scope → List (ℤ × Expr) → ℤ → Option ℕ
template_size scope [] template = None
template_size scope (a ∷ rest) template = if int_eq a.0 template then size_of scope a.1 else template_size scope rest template

-- the length that a parameter asks for
abbrev pub wanted_length : Scope → List (ℤ × Expr) → ℤ → Option ℕ
wanted_length scope arguments (pos n) = Some n
wanted_length scope arguments (negsuc n) = template_size scope arguments (negsuc n)

abbrev pub length_faults : Scope → List (ℤ × Expr) → List (ℤ × Expr) → List Fault
length_faults scope arguments [] = []
length_faults scope arguments (a ∷ rest) = sizes_differ bad_size (first_of a.1) (wanted_length scope arguments a.0) (size_of scope a.1) ++ length_faults scope arguments rest

abbrev pub argument_count : Exprs → ℕ
argument_count no_exprs = 0
argument_count (exprs e es) = 1 + argument_count es

abbrev pub native_faults : Scope → Place → Option Native → Exprs → List Fault
native_faults scope place None es = record { place = place; rule = unknown } ∷ []
native_faults scope place (Some native) es =
    fault_if (not (nat_eq (length native.params) (argument_count es))) place (arg_count (pos (length native.params)) (pos (argument_count es)))
    ++ length_faults scope (with_params native.params es) (with_params native.params es)

abbrev pub native_of : Project → Name → Option Native
native_of project name = find (λ native. bytes_eq native.name name) project.node.natives

abbrev pub has_name : List Name → Name → Bool
has_name names name = list_any (λ n. bytes_eq n name) names

-- the faults of a statement and of all in it
abbrev mutual
  pub stmt_faults : World → Stmt → List Fault
  stmt_faults world (stmt line place form) = stmt_form_faults world place form

  pub stmt_form_faults : World → Place → StmtForm → List Fault
  stmt_form_faults world place (assign target e) = assignment_faults world.scope place target e
  stmt_form_faults world place (change target op e) = assignment_faults world.scope place target e
  stmt_form_faults world place (bump target op) = target_faults world.scope target
  stmt_form_faults world place (if_then c body other) = cell_faults world.scope c ++ stmts_faults world body ++ stmts_faults world other
  stmt_form_faults world place (when_do c body) = cell_faults world.scope c ++ stmts_faults world body
  stmt_form_faults world place (while_do c body) = cell_faults world.scope c ++ stmts_faults world body
  stmt_form_faults world place (for_do head body) = head_faults world.scope place head ++ stmts_faults world body
  stmt_form_faults world place (emit name argument) = emit_faults world place name argument
  stmt_form_faults world place (callsub name) = fault_if (not (has_name world.subs name)) place unknown
  stmt_form_faults world place (call name es) = list_faults world.scope es ++ native_faults world.scope place (native_of world.project name) es
  stmt_form_faults world place return = []

  pub stmts_faults : World → Stmts → List Fault
  stmts_faults world no_stmts = []
  stmts_faults world (stmts s ss) = stmt_faults world s ++ stmts_faults world ss

-- Declarations

-- the size that a declaration gives: its number, if that is from 1 to 4096, and 1 where no size is written
abbrev pub size_in_range : Option ℤ → Option ℕ
size_in_range (Some (pos n)) = if nat_lt 0 n && nat_lt n (MOST_CELLS + 1) then Some n else None
size_in_range _ = None

abbrev pub given_size : Scope → Option Expr → Option ℕ
given_size scope None = Some 1
given_size scope (Some e) = size_in_range (constant_value scope e)

abbrev pub size_out_of_range : Place → Option ℤ → List Fault
size_out_of_range place None = []
size_out_of_range place (Some v) = fault_if (int_lt v (pos 1)) place (bad_size (pos 1) v) ++ fault_if (int_lt (pos MOST_CELLS) v) place (bad_size (pos MOST_CELLS) v)

abbrev pub size_faults : Scope → Place → Option Expr → List Fault
size_faults scope place None = []
size_faults scope place (Some e) = bound_faults scope e ++ size_out_of_range place (constant_value scope e)

abbrev pub value_faults : Scope → Place → Option ℕ → Option Expr → List Fault
value_faults scope equals size None = []
value_faults scope equals size (Some e) = expr_faults scope e ++ sizes_differ bad_size equals size (size_of scope e)

-- A declaration where these names are known before it: its own name isn't known in its size and its value.
abbrev pub decl_faults : Scope → Decl → List Fault
decl_faults scope d =
    fault_if (is_known scope d.name) d.place duplicate ++ size_faults scope d.place d.size ++ value_faults scope d.equals (given_size scope d.size) d.value

-- what is known behind a declaration
abbrev pub declaring : Scope → Decl → Scope
declaring scope d = record scope { variables = scope.variables ++ record { name = d.name; size = given_size scope d.size } ∷ [] }

abbrev pub all_declaring : Scope → List Decl → Scope
all_declaring scope [] = scope
all_declaring scope (d ∷ ds) = all_declaring (declaring scope d) ds

abbrev pub decls_faults : Scope → List Decl → List Fault
decls_faults scope [] = []
decls_faults scope (d ∷ ds) = decl_faults scope d ++ decls_faults (declaring scope d) ds

-- Parts

abbrev pub is_event : Project → Name → Bool
is_event project name = is_some (global_event project name) || list_any (λ local. bytes_eq local.name name) project.node.locals

-- a part where these stand before it
abbrev pub part_name_faults : Project → List Handler → Handler → List Fault
part_name_faults project before h =
    fault_if (not h.is_sub && not (is_event project h.name)) h.place unknown
    ++ fault_if (list_any (λ g. beq g.is_sub h.is_sub && bytes_eq g.name h.name) before) h.place duplicate

abbrev pub parts_faults : World → List Handler → List Handler → List Fault
parts_faults world before [] = []
parts_faults world before (h ∷ hs) = part_name_faults world.project before h ++ stmts_faults world h.body ++ parts_faults world (before ++ h ∷ []) hs

-- Recursion

-- a `callsub` in a subroutine, with its name's place
pub record Call : Type 0 where
  pub caller : Name
  pub called : Name
  pub place : Place

-- the subroutine calls of statements in the order of the text
abbrev mutual
  pub stmt_calls : Name → Stmt → List Call
  stmt_calls caller (stmt line place form) = form_calls caller place form

  pub form_calls : Name → Place → StmtForm → List Call
  form_calls caller place (if_then c body other) = stmts_calls caller body ++ stmts_calls caller other
  form_calls caller place (when_do c body) = stmts_calls caller body
  form_calls caller place (while_do c body) = stmts_calls caller body
  form_calls caller place (for_do head body) = stmts_calls caller body
  form_calls caller place (callsub name) = record { caller = caller; called = name; place = place } ∷ []
  form_calls caller place _ = []

  pub stmts_calls : Name → Stmts → List Call
  stmts_calls caller no_stmts = []
  stmts_calls caller (stmts s ss) = stmt_calls caller s ++ stmts_calls caller ss

-- the calls from subroutines
abbrev pub sub_calls : List Handler → List Call
sub_calls [] = []
sub_calls (h ∷ hs) = (if h.is_sub then stmts_calls h.name h.body else []) ++ sub_calls hs

-- whether at most so many of these calls lead from one subroutine to another
abbrev pub leads : ℕ → List Call → Name → Name → Bool
leads ℕ.zero calls from to = bytes_eq from to
leads (ℕ.suc n) calls from to = bytes_eq from to || list_any (λ c. bytes_eq c.caller from && leads n calls c.called to) calls

-- the calls that close a cycle with those before them
abbrev pub recursion_faults : List Call → List Call → List Fault
recursion_faults before [] = []
recursion_faults before (c ∷ cs) = fault_if (leads (length before) before c.called c.caller) c.place recursion ++ recursion_faults (before ++ c ∷ []) cs

-- All of them

-- what is known before the first declaration: the project's constants and the node's variables
abbrev pub first_scope : Project → Scope
first_scope project = record { consts = project.consts; variables = map (λ v. record { name = v.name; size = Some v.size }) project.node.variables }

-- what the statements of a program may name
abbrev pub world_of : Program → World
world_of program = record {
  scope = all_declaring (first_scope program.project) program.source.vars;
  project = program.project;
  subs = map (λ h. h.name) (subroutines program);
}

-- every place at which a rule is broken, with the rule
abbrev pub faults : Program → List Fault
faults program =
    decls_faults (first_scope program.project) program.source.vars ++ stmts_faults (world_of program) program.source.init
    ++ parts_faults (world_of program) [] program.source.parts ++ recursion_faults [] (sub_calls program.source.parts)

-- Which is told

-- the number of a rule in their order
abbrev pub rule_number : Rule → ℕ
rule_number unknown = 0
rule_number duplicate = 1
rule_number not_constant = 2
rule_number constant_division = 3
rule_number zero_step = 4
rule_number (bad_size want got) = 5
rule_number (index_out size i) = 6
rule_number not_scalar = 7
rule_number (event_size want got) = 8
rule_number (arg_count want got) = 9
rule_number recursion = 10

-- by place, then by the order of the rules
abbrev pub comes_before : Fault → Fault → Bool
comes_before f g =
    nat_lt f.place.line g.place.line
    || nat_eq f.place.line g.place.line
    && (nat_lt f.place.column g.place.column || nat_eq f.place.column g.place.column && nat_lt (rule_number f.rule) (rule_number g.rule))

-- a fault, unless another one comes before it
abbrev pub earlier : Fault → Option Fault → Fault
earlier f None = f
earlier f (Some g) = if comes_before g f then g else f

-- the first by place, then by the order of the rules, then in the list
abbrev pub first_fault : List Fault → Option Fault
first_fault [] = None
first_fault (f ∷ fs) = Some (earlier f (first_fault fs))
