-- What statements take together, from those inside them to the whole. Sums stop at a number that no source reaches.
use Rattle.std.specs.Prelude.{ℕ, suc, max, Bool, true, false, not, ◌&&◌, if◌then◌else◌, ℤ, pos, int_lt, nat_eq, List, [], take, Option, Some, None, unwrap_or, slice_get}
use Rattle.std.specs.List.{list_any}
use Rattle.std.specs.Ordering.{int_eq}
use Rattle.aseba_words.specs.declared.operators.Binary.{Binary}
use Rattle.aseba_tree.specs.declared.description.Native.{Native}
use Rattle.aseba_tree.specs.declared.description.Param.{Param}
use Rattle.aseba_tree.specs.Code.{Name, Expr, expr, Form, whole, range, Exprs, no_exprs, exprs, Part, all, at, span, Target, ForHead, Stmt, stmt, StmtForm, assign, change, bump, if_then, when_do, while_do, for_do, emit, callsub, call, return, Stmts, no_stmts, stmts}
use Rattle.aseba_tree.specs.Sizes.{is_of_one_cell}
use Rattle.aseba_tree.specs.Numbers.{number_words}
use Rattle.aseba_check.specs.declared.facts.Meaning.{Meaning}
use Rattle.aseba_check.specs.declared.counting.count.Count.{Count}
use Rattle.aseba_check.specs.declared.counting.statements.Aimed.{Aimed}
use Rattle.aseba_check.specs.declared.counting.taken.Taken.{Taken}
use Rattle.aseba_check.specs.declared.counting.calls.Given.{Given}
use Rattle.aseba_check.specs.Told.{facts_of}
use Rattle.aseba_check.specs.Statements.{Known}
use Rattle.aseba_check.specs.Declarations.{is_variable}
use Rattle.aseba_check.specs.Places.{sum_up}
use Rattle.aseba_check.specs.Counted.{empty, name_counted, index_counted, range_counted, joined, infix_counted, counted_of}

abbrev pub Names : Type 0
Names = Name → Option Meaning

abbrev pub none_taken : Taken
none_taken = record { words = 0; depth = 0; room = 0 }

-- statements, and others behind them
abbrev pub behind : Taken → Taken → Taken
behind a b = record { words = sum_up a.words b.words; depth = max a.depth b.depth; room = max a.room b.room }

-- the same with so many words more
abbrev pub longer : Taken → ℕ → Taken
longer t n = record { words = sum_up t.words n; depth = t.depth; room = t.room }

-- Assignments

-- one element into a fixed cell, and more of them through temporaries
abbrev pub stored : Count → Taken
stored e =
    if nat_eq e.cells 1 then record { words = sum_up e.words 1; depth = e.depth; room = 0 }
    else record { words = sum_up (sum_up (sum_up e.words e.cells) e.cells) e.cells; depth = e.depth; room = e.cells }

abbrev pub stored_at : Count → Count → Taken
stored_at i e = record { words = sum_up (sum_up e.words i.words) 2; depth = max e.depth (sum_up i.depth 1); room = 0 }

abbrev pub assigned : Option Count → Count → Taken
assigned None e = stored e
assigned (Some i) e = stored_at i e

-- an operator with 1 behind each element
abbrev pub bumped_counted : Binary → Count → Count
bumped_counted op l = record { cells = l.cells; words = sum_up (sum_up l.words l.cells) l.cells; depth = max l.depth 2; compares = is_of_one_cell op }

abbrev pub aimed_at : Count → Aimed
aimed_at i = record { elements = index_counted i; index = Some i }

-- the elements that a part of a variable means, and its index
abbrev pub part_aimed : Names → Option Meaning → Part → Aimed
part_aimed names meaning all = record { elements = name_counted meaning; index = None }
part_aimed names meaning (at e) = aimed_at (counted_of names e)
part_aimed names meaning (span c d) = record { elements = range_counted names c d; index = None }

abbrev pub target_aimed : Names → Target → Aimed
target_aimed names target = part_aimed names (names target.name) target.part

abbrev pub set_taken : Names → Target → Expr → Taken
set_taken names target e = assigned (target_aimed names target).index (counted_of names e)

abbrev pub change_taken : Names → Target → Binary → Expr → Taken
change_taken names target op e = assigned (target_aimed names target).index (infix_counted op (target_aimed names target).elements (counted_of names e))

abbrev pub bump_taken : Names → Target → Binary → Taken
bump_taken names target op = assigned (target_aimed names target).index (bumped_counted op (target_aimed names target).elements)

-- Tests and loops

-- A condition with its branch. The branch has the operator of a comparison, and compares any other element with 0.
abbrev pub branched : Count → Taken
branched c =
    if c.compares then record { words = sum_up c.words 1; depth = c.depth; room = 0 } else record { words = sum_up c.words 3; depth = max c.depth 2; room = 0 }

abbrev pub test_taken : Names → Expr → Taken
test_taken names e = branched (counted_of names e)

-- with a jump over statements, where there are any
abbrev pub with_jump : ℕ → Stmts → Taken → Taken
with_jump jump no_stmts t = t
with_jump jump (stmts s ss) t = longer t jump

abbrev pub bound_words : Option ℤ → ℕ
bound_words v = number_words (unwrap_or v (pos 0))

abbrev pub step_words : Names → Option Expr → ℕ
step_words names None = 1
step_words names (Some e) = bound_words (facts_of names e).value

abbrev pub head_taken : Names → ℕ → ForHead → Taken
head_taken names jump head = record {
  words = sum_up (sum_up (sum_up (sum_up (bound_words (facts_of names head.first).value) (bound_words (facts_of names head.last).value)) (step_words names head.step)) 7) jump;
  depth = 2;
  room = 0;
}

-- Arguments

abbrev pub is_own_form : Names → Form → Bool
is_own_form names (whole name) = is_variable (names name)
is_own_form names (range name c d) = true
is_own_form names _ = false

-- whether an argument stands for its own cells
abbrev pub is_own : Names → Expr → Bool
is_own names (expr first place form) = is_own_form names form

-- the elements that go into temporaries
abbrev pub fresh : Bool → Count → Count
fresh own e = if own then empty else e

-- elements put into temporaries, and so many words for what they are put there for
abbrev pub kept_for : Count → ℕ → Taken
kept_for e n = record { words = sum_up (sum_up e.words e.cells) n; depth = e.depth; room = e.cells }

abbrev pub emit_taken : Names → Option Expr → Taken
emit_taken names None = kept_for empty 3
emit_taken names (Some e) = kept_for (fresh (is_own names e) (counted_of names e)) 3

abbrev pub callsub_taken : Option ℕ → Taken
callsub_taken depth = record { words = 1; depth = sum_up (unwrap_or depth 0) 1; room = 0 }

-- Calls of natives

-- whether one of these parameters has that length or template
abbrev pub has_size : List Param → ℤ → Bool
has_size params size = list_any (λ p. int_eq size p.size) params

-- whether the parameter of a place is the first of a template
abbrev pub opens_template : List Param → ℕ → Bool
opens_template params place = opens (slice_get params place)
  where
    opens : Option Param → Bool
    opens None = false
    opens (Some p) = int_lt p.size (pos 0) && not (has_size (take place params) p.size)

abbrev pub none_given : Given
none_given = record { fresh = empty; arguments = 0; templates = 0; template_words = 0 }

-- one argument more, for the parameter of a place
abbrev pub with_argument : Bool → Bool → Count → Given → Given
with_argument opens own e g = record {
  fresh = joined g.fresh (fresh own e);
  arguments = sum_up g.arguments 1;
  templates = sum_up g.templates (if opens then 1 else 0);
  template_words = sum_up g.template_words (if opens then number_words (pos e.cells) else 0);
}

abbrev pub given : Names → List Param → ℕ → Given → Exprs → Given
given names params place g no_exprs = g
given names params place g (exprs e es) = given names params (suc place) (with_argument (opens_template params place) (is_own names e) (counted_of names e) g) es

abbrev pub native_taken : Given → Taken
native_taken g = record {
  words = sum_up (sum_up (sum_up (sum_up (sum_up g.fresh.words g.fresh.cells) g.arguments) g.arguments) g.template_words) 1;
  depth = max (sum_up g.arguments g.templates) g.fresh.depth;
  room = g.fresh.cells;
}

abbrev pub params_of : Option Native → List Param
params_of None = []
params_of (Some native) = native.params

abbrev pub call_taken : Known → Name → Exprs → Taken
call_taken known name es = native_taken (given known.meaning (params_of (known.native name)) 0 none_given es)

-- Statements, where each subroutine takes a number of stack cells and a jump so many words

abbrev mutual
  pub stmt_taken : Known → (Name → Option ℕ) → ℕ → Stmt → Taken
  stmt_taken known subs jump (stmt line place form) = form_taken known subs jump form

  pub form_taken : Known → (Name → Option ℕ) → ℕ → StmtForm → Taken
  form_taken known subs jump (assign target e) = set_taken known.meaning target e
  form_taken known subs jump (change target op e) = change_taken known.meaning target op e
  form_taken known subs jump (bump target op) = bump_taken known.meaning target op
  form_taken known subs jump (if_then c body other) =
      behind (behind (test_taken known.meaning c) (stmts_taken known subs jump none_taken body)) (with_jump jump other (stmts_taken known subs jump none_taken other))
  form_taken known subs jump (when_do c body) = behind (test_taken known.meaning c) (stmts_taken known subs jump none_taken body)
  form_taken known subs jump (while_do c body) = behind (longer (test_taken known.meaning c) jump) (stmts_taken known subs jump none_taken body)
  form_taken known subs jump (for_do head body) = behind (head_taken known.meaning jump head) (stmts_taken known subs jump none_taken body)
  form_taken known subs jump (emit name argument) = emit_taken known.meaning argument
  form_taken known subs jump (callsub name) = callsub_taken (subs name)
  form_taken known subs jump (call name es) = call_taken known name es
  form_taken known subs jump return = record { words = 1; depth = 0; room = 0 }

  pub stmts_taken : Known → (Name → Option ℕ) → ℕ → Taken → Stmts → Taken
  stmts_taken known subs jump before no_stmts = before
  stmts_taken known subs jump before (stmts s ss) = stmts_taken known subs jump (behind before (stmt_taken known subs jump s)) ss
