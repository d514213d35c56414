-- What the parts of a source and the whole of it take, where a jump takes so many words. Sums stop at a number that no source reaches.
use Rattle.std.specs.Prelude.{◌≡◌, ℕ, zero, suc, ◌≤◌, cond, Bool, true, false, not, ◌&&◌, ◌||◌, if◌then◌else◌, nat_eq, List, [], ◌∷◌, length, Option, Some, None, is_some}
use Rattle.aseba_tree.specs.declared.project.Project.{Project}
use Rattle.aseba_tree.specs.Numbers.{jump_words}
use Rattle.aseba_tree.specs.View.{project_view}
use Rattle.aseba_tree.specs.Code.{Name, Expr, Decl, Handler, Source, Stmt, stmt, StmtForm, if_then, when_do, while_do, for_do, callsub, Stmts, no_stmts, stmts}
use Rattle.aseba_tree.specs.declared.placed.Placed.{Placed}
use Rattle.aseba_check.specs.declared.counting.taken.Taken.{Taken}
use Rattle.aseba_check.specs.Looked.{nothing, first_value}
use Rattle.aseba_check.specs.Statements.{Known}
use Rattle.aseba_check.specs.Places.{sum_up}
use Rattle.aseba_check.specs.Counted.{counted_of}
use Rattle.aseba_check.specs.CountedPlaces.{known_at}
use Rattle.aseba_check.specs.CountedStatements.{Names, none_taken, behind, longer, stored, stmts_taken}

-- the words of a part with its last one
abbrev pub part_words : Known → ℕ → Handler → ℕ
part_words known jump h = sum_up (stmts_taken known nothing jump none_taken h.body).words 1

-- Subroutines

abbrev pub Depths : Type 0
Depths = Name → Option ℕ

-- the stack cells of a subroutine, from those of the subroutines that it calls
abbrev pub with_depth : Known → ℕ → Depths → Depths → Handler → Depths
with_depth known jump old new h = cond h.is_sub (first_value new h.name (stmts_taken known old jump none_taken h.body).depth) new

abbrev pub next_depths : Known → ℕ → Depths → Depths → List Handler → Depths
next_depths known jump old new [] = new
next_depths known jump old new (h ∷ hs) = next_depths known jump old (with_depth known jump old new h) hs

-- the same where calls are at most so many deep
abbrev pub depths_after : Known → ℕ → List Handler → ℕ → Depths
depths_after known jump parts zero = nothing
depths_after known jump parts (suc n) = next_depths known jump (depths_after known jump parts n) nothing parts

-- One subroutine behind the others

-- whether the stack cells of each subroutine that statements call are there
abbrev mutual
  pub is_ready : Depths → Stmt → Bool
  is_ready subs (stmt line place form) = is_form_ready subs form

  pub is_form_ready : Depths → StmtForm → Bool
  is_form_ready subs (if_then c body other) = are_ready subs true body && are_ready subs true other
  is_form_ready subs (when_do c body) = are_ready subs true body
  is_form_ready subs (while_do c body) = are_ready subs true body
  is_form_ready subs (for_do head body) = are_ready subs true body
  is_form_ready subs (callsub name) = is_some (subs name)
  is_form_ready subs _ = true

  pub are_ready : Depths → Bool → Stmts → Bool
  are_ready subs before no_stmts = before
  are_ready subs before (stmts s ss) = are_ready subs (before && is_ready subs s) ss

-- whether a part is the first subroutine of its name
abbrev pub is_first : (Name → Option ℕ) → ℕ → Handler → Bool
is_first places place h = first (places h.name)
  where
    first : Option ℕ → Bool
    first None = false
    first (Some n) = h.is_sub && nat_eq n place

abbrev pub is_settled : Depths → Handler → Bool
is_settled subs h = not h.is_sub || is_some (subs h.name)

abbrev pub all_settled : Depths → Bool → List Handler → Bool
all_settled subs before [] = before
all_settled subs before (h ∷ hs) = all_settled subs (before && is_settled subs h) hs

-- Each of these stack cells is right, where calls are at least so many deep.
abbrev pub AreSettled : Known → ℕ → List Handler → Depths → ℕ → Type 0
AreSettled known jump parts subs deep = (name : Name) (depth : ℕ) → subs name ≡ Some depth → (n : ℕ) → deep ≤ n → depths_after known jump parts n name ≡ Some depth

-- more of them are right, where calls are one deeper
abbrev pub Settles : Known → ℕ → List Handler → Depths → Depths → Type 0
Settles known jump parts old new = (deep : ℕ) → AreSettled known jump parts old deep → AreSettled known jump parts new (suc deep)

-- All parts

-- A part with its last word. A handler has two words in the event table, and a subroutine's stack cells count where it is called.
abbrev pub with_end : Taken → Handler → Taken
with_end t h = if h.is_sub then record { words = sum_up t.words 1; depth = 0; room = t.room } else longer t 3

abbrev pub part_taken : Known → Depths → ℕ → Handler → Taken
part_taken known subs jump h = with_end (stmts_taken known subs jump none_taken h.body) h

abbrev pub parts_taken : Known → Depths → ℕ → Taken → List Handler → Taken
parts_taken known subs jump before [] = before
parts_taken known subs jump before (h ∷ hs) = parts_taken known subs jump (behind before (part_taken known subs jump h)) hs

-- The whole source

-- the assignment of a declaration's value
abbrev pub value_taken : Names → Option Expr → Taken
value_taken names None = none_taken
value_taken names (Some e) = stored (counted_of names e)

abbrev pub vars_taken : Names → Taken → List Decl → Taken
vars_taken names before [] = before
vars_taken names before (d ∷ ds) = vars_taken names (behind before (value_taken names d.value)) ds

-- the declarations' assignments and the statements behind them, with their last word and the first three of the event table
abbrev pub init_taken : Known → Depths → ℕ → Source → Taken
init_taken known subs jump source = longer (behind (vars_taken known.meaning none_taken source.vars) (stmts_taken known subs jump none_taken source.init)) 4

abbrev pub source_taken : Known → Depths → ℕ → Source → Taken
source_taken known subs jump source = behind (init_taken known subs jump source) (parts_taken known subs jump none_taken source.parts)

-- what a source takes in a project, where its variables have these places
abbrev pub placed_taken : Project → Source → List Placed → Taken
placed_taken project source places =
    source_taken (known_at project source.parts places) (depths_after (known_at project source.parts places) (jump_words (project_view project)) source.parts (length source.parts)) (jump_words (project_view project)) source
