-- The state of a source that runs.
use Rattle.std.specs.Prelude.{ℕ, suc, ◌+◌, ℤ, pos, Bool, true, false, not, ◌&&◌, if◌then◌else◌, List, [], ◌∷◌, ◌++◌, map, replicate, filter, filter_map, sum_by, bytes_eq, Option, Some, None, option_map, codes}
use Rattle.std.specs.Bool.{beq}
use Rattle.aseba_words.specs.Cell.{wrapped}
use Rattle.aseba_tree.specs.Code.{Name, Expr, Stmt, stmt, StmtForm, assign, if_then, when_do, while_do, for_do, Stmts, no_stmts, stmts, ForHead, all, Decl, Handler, Source, Sized, Const, Project}
use Rattle.aseba_tree.specs.Value.{Named, Cells, put_cell, as_place, constant}

-- a project with a source
pub record Program : Type 0 where
  pub project : Project
  pub source : Source

-- how many `when`s a text holds
abbrev mutual
  pub whens : Stmt → ℕ
  whens (stmt line at form) = form_whens form

  pub form_whens : StmtForm → ℕ
  form_whens (if_then c body other) = list_whens body + list_whens other
  form_whens (when_do c body) = suc (list_whens body)
  form_whens (while_do c body) = list_whens body
  form_whens (for_do head body) = list_whens body
  form_whens _ = 0

  pub list_whens : Stmts → ℕ
  list_whens no_stmts = 0
  list_whens (stmts s ss) = whens s + list_whens ss

-- What is left to do, task by task. A number in front of statements says how many `when`s stand before them in the text: by it a `when` is known.
-- `perform` is a statement; `put` stores a computed cell of an assignment of that line in a variable; `leave` leaves a branch that has another
-- behind it; `turn` goes back to a loop's test; `try` is the test of a `for` of that line, and `next` what follows its body; `back` returns from
-- a subroutine and `finish` ends the handler, each with the line of its part.
pub data Task : Type 0 where
  perform : ℕ → Stmt → Task
  put : (line : ℕ) → Name → (place : ℕ) → ℤ → Task
  leave : (line : ℕ) → Task
  turn : Task → Task
  try : (line : ℕ) → ℕ → ForHead → Stmts → Task
  next : (line : ℕ) → ℕ → ForHead → Stmts → Task
  back : (line : ℕ) → Task
  finish : (line : ℕ) → Task

-- the tasks of statements before which so many `when`s stand
abbrev pub tasks : ℕ → Stmts → List Task
tasks before no_stmts = []
tasks before (stmts s ss) = perform before s ∷ tasks (before + whens s) ss

-- The cells of each variable by name, a bit for each `when`, at most one held value for each cell, the flags, and the work.
pub record State : Type 0 where
  pub cells : Cells
  pub bits : List Bool
  pub held : Named (Option ℤ)
  pub active : Bool
  pub paused : Bool
  pub work : List Task

-- the size of a declared variable
abbrev pub declared_size : List Const → Option Expr → ℕ
declared_size consts None = 1
declared_size consts (Some e) = as_place (constant consts e)

-- a declaration with a value as the assignment that it is
abbrev pub assignment : Decl → Option Stmt
assignment d = option_map (λ e. stmt d.line d.equals (assign (record { place = d.place; name = d.name; part = all }) e)) d.value

abbrev pub in_front : List Stmt → Stmts → Stmts
in_front [] ss = ss
in_front (d ∷ ds) ss = stmts d (in_front ds ss)

-- the statements before the first part: the declarations' assignments, then the others
abbrev pub init_code : Source → Stmts
init_code source = in_front (filter_map assignment source.vars) source.init

-- the handlers of a source, and its subroutines
abbrev pub handlers : Program → List Handler
handlers program = filter (λ h. not h.is_sub) program.source.parts

abbrev pub subroutines : Program → List Handler
subroutines program = filter (λ h. h.is_sub) program.source.parts

-- the number of `when`s of a source
abbrev pub all_whens : Source → ℕ
all_whens source = list_whens (init_code source) + sum_by (λ h. list_whens h.body) source.parts

-- the first part of a name among these, a subroutine or not, with the number of `when`s before it where so many stand before them all
abbrev pub part_among : Bool → Name → ℕ → List Handler → Option (ℕ × Handler)
part_among is_sub name before [] = None
part_among is_sub name before (h ∷ hs) =
    if beq h.is_sub is_sub && bytes_eq h.name name then Some (before, h) else part_among is_sub name (before + list_whens h.body) hs

-- the first part of a name in the text
abbrev pub part_named : Source → Bool → Name → Option (ℕ × Handler)
part_named source is_sub name = part_among is_sub name (list_whens (init_code source)) source.parts

-- no held value for any cell
abbrev pub none_held : Cells → Named (Option ℤ)
none_held cells = map (λ v. (v.0, map (λ x. None) v.1)) cells

-- the variables of the node and then those of the source, with their sizes
abbrev pub node_variables : Project → List Sized
node_variables project = project.node.variables

abbrev pub declared : Program → List Sized
declared program = map (λ d. record { name = d.name; size = declared_size program.project.consts d.size }) program.source.vars

-- cells that are all 0
abbrev pub zeros : List Sized → Cells
zeros variables = map (λ v. (v.name, replicate v.size (pos 0))) variables

-- the state after loading: all cells are 0 but the first of the node variable `_id`, which is the id, and the init code is to be done
unfoldable pub loaded : Program → State
loaded program =
    let node = put_cell (zeros (node_variables program.project)) (codes "_id") 0 (wrapped (pos program.project.id)) in
    let cells = node ++ zeros (declared program) in
    record {
      cells = cells;
      bits = replicate (all_whens program.source) false;
      held = none_held cells;
      active = true;
      paused = false;
      work = tasks 0 (init_code program.source) ++ finish 1 ∷ [];
    }
