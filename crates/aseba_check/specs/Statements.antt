-- What is told of statements, one behind the other: each hands on the least of its faults and those before it.
use Rattle.std.specs.Prelude.{ℕ, Bool, not, ℤ, pos, negsuc, nat_eq, if◌then◌else◌, List, [], ◌∷◌, length, Option, Some, None, is_some, is_none, option_map, option_and_then, slice_get}
use Rattle.std.specs.Ordering.{int_eq}
use Rattle.aseba_tree.specs.declared.pos.Pos.{Pos}
use Rattle.aseba_tree.specs.declared.description.Native.{Native}
use Rattle.aseba_tree.specs.declared.description.Param.{Param}
use Rattle.aseba_tree.specs.Code.{Name, Expr, Exprs, no_exprs, exprs, Part, all, at, span, Target, ForHead, Stmt, stmt, StmtForm, assign, change, bump, if_then, when_do, while_do, for_do, emit, callsub, call, return, Stmts, no_stmts, stmts}
use Rattle.aseba_tree.specs.Faults as faults
use Rattle.aseba_check.specs.declared.fault.Rule.TheVariants as code
use Rattle.aseba_check.specs.declared.fault.Fault.{Fault}
use Rattle.aseba_check.specs.declared.facts.Facts.{Facts}
use Rattle.aseba_check.specs.declared.facts.Meaning.{Meaning}
use Rattle.aseba_check.specs.declared.world.World.{World}
use Rattle.aseba_check.specs.Looked.{looked}
use Rattle.aseba_check.specs.Told as told

-- what names mean to a statement
pub record Known : Type 0 where
  pub meaning : Name → Option Meaning
  pub event : Name → Option (Option ℕ)
  pub native : Name → Option Native
  pub is_sub : Name → Bool

abbrev pub known_of : World → Known
known_of world = record {
  meaning = looked world.names;
  event = looked world.events;
  native = λ name. option_and_then (λ place. slice_get world.natives.now place) (looked world.native_places name);
  is_sub = λ name. is_some (looked world.subs name);
}

-- Expressions in statements

abbrev pub cell_told : (Name → Option Meaning) → Expr → Option Fault
cell_told names e = told.least (told.facts_of names e).fault (told.not_one_cell (told.facts_of names e))

-- a test behind faults
abbrev pub tested : (Name → Option Meaning) → Option Fault → Expr → Option Fault
tested names before e = told.least before (cell_told names e)

abbrev pub bound_told : Facts → Option Fault
bound_told e = told.least e.fault (told.constant_place e)

abbrev pub part_facts : (Name → Option Meaning) → Pos → Option Meaning → Part → Facts
part_facts names place meaning all = told.target_facts place meaning
part_facts names place meaning (at e) = told.index_facts place place meaning (told.facts_of names e)
part_facts names place meaning (span c d) = told.range_facts place place meaning (told.facts_of names c) (told.facts_of names d)

abbrev pub target_facts : (Name → Option Meaning) → Target → Facts
target_facts names target = part_facts names (told.pos_of target.place) (names target.name) target.part

abbrev pub assigned : Pos → Facts → Facts → Option Fault
assigned place target e = told.least (told.least target.fault e.fault) (told.bad_size place target.size e.size)

abbrev pub assignment_told : (Name → Option Meaning) → Pos → Target → Expr → Option Fault
assignment_told names place target e = assigned place (target_facts names target) (told.facts_of names e)

abbrev pub step_bound : Facts → Option Fault
step_bound e = told.least (bound_told e) (told.fault_if (told.is_zero e.value) e.first code.ZeroStep)

abbrev pub step_told : (Name → Option Meaning) → Option Expr → Option Fault
step_told names None = None
step_told names (Some e) = step_bound (told.facts_of names e)

abbrev pub loop_variable : Pos → Option Meaning → Option Fault
loop_variable place meaning = told.least (told.unknown_variable place meaning) (told.fault_if (faults.is_more_than_one (told.variable_size meaning)) place code.NotScalar)

abbrev pub head_told : (Name → Option Meaning) → Pos → ForHead → Option Fault
head_told names place head =
    told.least (told.least (told.least (loop_variable place (names head.name)) (bound_told (told.facts_of names head.first))) (bound_told (told.facts_of names head.last)))
    (step_told names head.step)

abbrev pub headed : (Name → Option Meaning) → Option Fault → Pos → ForHead → Option Fault
headed names before place head = told.least before (head_told names place head)

-- Events

-- the size of a global event
abbrev pub global_size : Option (Option ℕ) → Option ℕ
global_size None = None
global_size (Some size) = size

abbrev pub emitted : Pos → Option ℕ → Facts → Option Fault
emitted place size e = told.least (told.least (told.fault_if (is_none size) place code.Unknown) e.fault) (told.event_size e.first size e.size)

abbrev pub event_told : Known → Pos → Option ℕ → Option Expr → Option Fault
event_told known place size None = told.fault_if (is_none size) place code.Unknown
event_told known place size (Some e) = emitted place size (told.facts_of known.meaning e)

abbrev pub emit_told : Known → Pos → Name → Option Expr → Option Fault
emit_told known place name value = event_told known place (global_size (known.event name)) value

-- Natives

-- what is known of each argument
abbrev pub given : (Name → Option Meaning) → Exprs → List Facts
given names no_exprs = []
given names (exprs e es) = told.facts_of names e ∷ given names es

-- the least fault in them
abbrev pub inside_told : Option Fault → List Facts → Option Fault
inside_told before [] = before
inside_told before (a ∷ as_given) = inside_told (told.least before a.fault) as_given

-- the length of the first argument of a template
abbrev pub template_size : List Param → List Facts → ℤ → Option ℕ
template_size (p ∷ ps) (a ∷ as_given) template = if int_eq p.size template then a.size else template_size ps as_given template
template_size _ _ template = None

abbrev pub wanted_length : List Param → List Facts → ℤ → Option ℤ
wanted_length params arguments (pos n) = Some (pos n)
wanted_length params arguments (negsuc n) = option_map told.signed (template_size params arguments (negsuc n))

abbrev pub length_told : Pos → Option ℤ → Option ℕ → Option Fault
length_told place (Some want) (Some got) = told.fault_if (not (int_eq want (told.signed got))) place (code.BadSize want (told.signed got))
length_told place _ _ = None

abbrev pub with_argument : List Param → List Facts → Option Fault → Param → Facts → Option Fault
with_argument params arguments before p a = told.least before (length_told a.first (wanted_length params arguments p.size) a.size)

-- the lengths of arguments and parameters, among all of these
abbrev pub lengths_told : List Param → List Facts → Option Fault → List Param → List Facts → Option Fault
lengths_told params arguments before (p ∷ ps) (a ∷ as_given) = lengths_told params arguments (with_argument params arguments before p a) ps as_given
lengths_told params arguments before _ _ = before

abbrev pub native_told : Pos → Option Native → List Facts → Option Fault
native_told place None arguments = Some (record { at = place; rule = code.Unknown })
native_told place (Some native) arguments =
    told.least (told.fault_if (not (nat_eq (length native.params) (length arguments))) place (code.ArgCount (told.signed (length native.params)) (told.signed (length arguments))))
    (lengths_told native.params arguments None native.params arguments)

abbrev pub call_told : Known → Pos → Name → Exprs → Option Fault
call_told known place name es = told.least (inside_told None (given known.meaning es)) (native_told place (known.native name) (given known.meaning es))

-- Statements

abbrev mutual
  pub stmt_told : Known → Option Fault → Stmt → Option Fault
  stmt_told known before (stmt line place form) = form_told known before (told.pos_of place) form

  pub form_told : Known → Option Fault → Pos → StmtForm → Option Fault
  form_told known before place (assign target e) = told.least before (assignment_told known.meaning place target e)
  form_told known before place (change target op e) = told.least before (assignment_told known.meaning place target e)
  form_told known before place (bump target op) = told.least before (target_facts known.meaning target).fault
  form_told known before place (if_then c body other) = stmts_told known (stmts_told known (tested known.meaning before c) body) other
  form_told known before place (when_do c body) = stmts_told known (tested known.meaning before c) body
  form_told known before place (while_do c body) = stmts_told known (tested known.meaning before c) body
  form_told known before place (for_do head body) = stmts_told known (headed known.meaning before place head) body
  form_told known before place (emit name value) = told.least before (emit_told known place name value)
  form_told known before place (callsub name) = told.least before (told.fault_if (not (known.is_sub name)) place code.Unknown)
  form_told known before place (call name es) = told.least before (call_told known place name es)
  form_told known before place return = before

  pub stmts_told : Known → Option Fault → Stmts → Option Fault
  stmts_told known before no_stmts = before
  stmts_told known before (stmts s ss) = stmts_told known (stmt_told known before s) ss
