-- The states and the steps of a core. They are those of a source, with addresses in place of names.
use Rattle.std.specs.Prelude.{ℕ, suc, ◌+◌, ◌-◌, ℤ, pos, Bool, true, false, not, ◌&&◌, if◌then◌else◌, nat_eq, nat_le, List, [], ◌∷◌, ◌++◌, map, take, length, replicate, sum_by, slice_get, slice_set, slice_index_or, slice_range, position, bytes_eq, Option, Some, None, option_map, unwrap_or, Result, Ok, Err, codes}
use Rattle.std.specs.Option.{option_or, option_eq}
use Rattle.aseba_words.specs.Cell.{wrapped, is_true}
use Rattle.aseba_words.specs.Natives.{native_run, native_params}
use Rattle.aseba_tree.specs.Code.{Name, Sized, Project}
use Rattle.aseba_tree.specs.Line.{Event, named, numbered, Report, sent}
use Rattle.aseba_tree.specs.Run.{Met, unheard, refused, kills, begins}
use Rattle.aseba_tree.specs.Value.{Stop, by_zero, Element, and_then, place_among, unary_element, binary_element}
use Rattle.aseba_tree.specs.Step.{applied_cells, stop_report}
use Rattle.aseba_tree.specs.Events.{event_number, event_of}
use Rattle.aseba_tree.specs.Layout.{address_of}
use Rattle.aseba_tree.specs.CoreExpr.{core_value, target_address, CoreExpr, fixed, cell, indirect, prefix, infix_of, CoreTarget, into, into_index}
use Rattle.aseba_tree.specs.Core.{CoreStmt, core_stmt, CoreForm, store, branch, on_edge, loop, send, enter, use_native, go_back, CoreStmts, no_core, core_stmts, CorePart, Core}

-- how many `when`s a text holds
abbrev mutual
  pub core_whens : CoreStmt → ℕ
  core_whens (core_stmt line form) = core_form_whens form

  pub core_form_whens : CoreForm → ℕ
  core_form_whens (branch c body other) = core_list_whens body + core_list_whens other
  core_form_whens (on_edge c body) = suc (core_list_whens body)
  core_form_whens (loop c body) = core_list_whens body
  core_form_whens _ = 0

  pub core_list_whens : CoreStmts → ℕ
  core_list_whens no_core = 0
  core_list_whens (core_stmts s ss) = core_whens s + core_list_whens ss

-- what is left to do, as in a source; a number in front of a statement says how many `when`s stand before it in the text
pub data CoreTask : Type 0 where
  perform_core : ℕ → CoreStmt → CoreTask
  leave_core : (line : ℕ) → CoreTask
  turn_core : CoreTask → CoreTask
  back_core : (line : ℕ) → CoreTask
  finish_core : (line : ℕ) → CoreTask

abbrev pub core_tasks : ℕ → CoreStmts → List CoreTask
core_tasks before no_core = []
core_tasks before (core_stmts s ss) = perform_core before s ∷ core_tasks (before + core_whens s) ss

-- The cells by their addresses, a bit for each `when`, at most one held value for each cell, the flags, and the work.
pub record CoreState : Type 0 where
  pub cells : List ℤ
  pub bits : List Bool
  pub held : List (Option ℤ)
  pub active : Bool
  pub paused : Bool
  pub work : List CoreTask

-- a core with its project and its variables in the order of their addresses
pub record CoreProgram : Type 0 where
  pub project : Project
  pub variables : List Sized
  pub core : Core

-- the state after a step, and what the step tells
pub record CoreStepped : Type 0 where
  pub state : CoreState
  pub report : Option Report

abbrev pub core_none_held : List ℤ → List (Option ℤ)
core_none_held cells = map (λ v. None) cells

-- A handler ends: no work is left, none is active, and the held values are applied.
abbrev pub core_ended : CoreState → CoreState
core_ended s = record s { cells = applied_cells s.cells s.held; held = core_none_held s.cells; active = false; work = [] }

abbrev pub core_going_on : CoreState → List CoreTask → CoreStepped
core_going_on s first = record { state = record s { work = first ++ s.work }; report = None }

-- A stop ends the handler and sets paused.
abbrev pub core_stopped : ℕ → CoreState → Stop → CoreStepped
core_stopped line s stop = record { state = record (core_ended s) { paused = true }; report = Some (stop_report line stop) }

abbrev pub core_stored : CoreState → ℕ → ℤ → CoreState
core_stored s address v = record s { cells = slice_set s.cells address v }

-- a store of what its expression computes at the address that its target means
abbrev pub core_storing : ℕ → CoreState → Element → Result ℕ Stop → CoreStepped
core_storing line s (Err stop) address = core_stopped line s stop
core_storing line s (Ok v) (Err stop) = core_stopped line s stop
core_storing line s (Ok v) (Ok address) = core_going_on (core_stored s address v) []

-- a test with what its condition computes: the tasks for true or those for false follow
abbrev pub core_tested : ℕ → CoreState → Element → List CoreTask → List CoreTask → CoreStepped
core_tested line s (Err stop) then_tasks else_tasks = core_stopped line s stop
core_tested line s (Ok v) then_tasks else_tasks = core_going_on s (if is_true v then then_tasks else else_tasks)

abbrev pub core_leaving : ℕ → CoreStmts → List CoreTask
core_leaving line no_core = []
core_leaving line (core_stmts _ _) = leave_core line ∷ []

-- the test of the `when` of a number
abbrev pub core_edge : ℕ → CoreState → ℕ → Element → List CoreTask → CoreStepped
core_edge line s which (Err stop) body = core_stopped line s stop
core_edge line s which (Ok v) body =
    core_going_on (record s { bits = slice_set s.bits which (is_true v) }) (if is_true v && not (slice_index_or s.bits which false) then body else [])

-- how many `when`s stand before the part of a place
abbrev pub whens_before : Core → ℕ → ℕ
whens_before core which = core_list_whens core.init + sum_by (λ part. core_list_whens part.body) (take which core.parts)

abbrev pub entered : Core → ℕ → Option CorePart → List CoreTask
entered core which None = []
entered core which (Some part) = core_tasks (whens_before core which) part.body ++ back_core part.line ∷ []

abbrev pub behind_back_core : List CoreTask → Option (List CoreTask)
behind_back_core [] = None
behind_back_core (back_core line ∷ rest) = Some rest
behind_back_core (_ ∷ rest) = behind_back_core rest

abbrev pub core_returned : CoreState → Option (List CoreTask) → CoreStepped
core_returned s None = record { state = core_ended s; report = None }
core_returned s (Some rest) = record { state = record s { work = rest }; report = None }

-- A native with the values that it takes from the stack: as many addresses as it has parameters, and then the length.
abbrev pub core_native : ℕ → List ℕ → List ℤ → Bool × List ℤ
core_native id values cells =
    let count = length (unwrap_or (native_params id) []) in
    native_run (λ s address k. slice_index_or s (address + k) (pos 0)) (λ s address k v. slice_set s (address + k) v) id (take count values)
    (slice_index_or values count 0) cells

abbrev pub core_after_native : ℕ → CoreState → Bool × List ℤ → CoreStepped
core_after_native line s result =
    let t : CoreState = record s { cells = result.1 } in
    if result.0 then core_stopped line t by_zero else core_going_on t []

-- the first task of a work whose rest the state has
abbrev pub core_performed : CoreProgram → CoreState → ℕ → ℕ → CoreForm → CoreStepped
core_performed program s before line (store target e) = core_storing line s (core_value s.cells e) (target_address s.cells target)
core_performed program s before line (branch c body other) =
    core_tested line s (core_value s.cells c) (core_tasks before body ++ core_leaving line other) (core_tasks (before + core_list_whens body) other)
core_performed program s before line (on_edge c body) = core_edge line s before (core_value s.cells c) (core_tasks (suc before) body)
core_performed program s before line (loop c body) =
    core_tested line s (core_value s.cells c) (core_tasks before body ++ turn_core (perform_core before (core_stmt line (loop c body))) ∷ []) []
core_performed program s before line (send event address length) =
    record { state = s; report = Some (sent (event_of program.project event) (slice_range s.cells address (address + length))) }
core_performed program s before line (enter which) = core_going_on s (entered program.core which (slice_get program.core.parts which))
core_performed program s before line (use_native id values) = core_after_native line s (core_native id values s.cells)
core_performed program s before line go_back = core_returned s (behind_back_core s.work)

abbrev pub core_done : CoreProgram → CoreState → CoreTask → CoreStepped
core_done program s (perform_core before (core_stmt line form)) = core_performed program s before line form
core_done program s (leave_core line) = core_going_on s []
core_done program s (turn_core again) = core_going_on s (again ∷ [])
core_done program s (back_core line) = core_going_on s []
core_done program s (finish_core line) = record { state = core_ended s; report = None }

-- a store into a temporary, which is a cell above those of the variables: its line, its address and its expression
abbrev pub temporary : (cells : ℕ) → CoreTask → Option (ℕ × ℕ × CoreExpr)
temporary cells (perform_core before (core_stmt line (store (into address) e))) = if nat_le cells address then Some (line, address, e) else None
temporary cells _ = None

-- a store into a temporary with what its expression computes, and then what follows it
abbrev pub with_temporary : ℕ → CoreState → ℕ → Element → (CoreState → CoreStepped) → CoreStepped
with_temporary line s address (Err stop) go_on = core_stopped line s stop
with_temporary line s address (Ok v) go_on = go_on (core_stored s address v)

abbrev pub core_task_done : CoreProgram → CoreState → CoreTask → List CoreTask → Option (ℕ × ℕ × CoreExpr) → (CoreState → CoreStepped) → CoreStepped
core_task_done program s task rest None go_on = core_done program (record s { work = rest }) task
core_task_done program s task rest (Some t) go_on = with_temporary t.0 s t.1 (core_value s.cells t.2) go_on

-- Stores into temporaries are no effect of their own: they are done with the effect behind them.
abbrev pub core_first_done : CoreProgram → CoreState → List CoreTask → CoreStepped
core_first_done program s [] = record { state = s; report = None }
core_first_done program s (task ∷ rest) = core_task_done program s task rest (temporary program.core.cells task) (λ t. core_first_done program t rest)

abbrev pub core_is_running : CoreState → Bool
core_is_running s = s.active && not s.paused

-- The step of a state. An idle or paused one stays as it is.
unfoldable pub core_step : CoreProgram → CoreState → CoreStepped
core_step program s = if core_is_running s then core_first_done program s s.work else record { state = s; report = None }

abbrev pub core_task_line : CoreTask → ℕ
core_task_line (perform_core before (core_stmt line form)) = line
core_task_line (leave_core line) = line
core_task_line (turn_core again) = core_task_line again
core_task_line (back_core line) = line
core_task_line (finish_core line) = line

abbrev pub core_work_line : List CoreTask → ℕ
core_work_line [] = 0
core_work_line (task ∷ rest) = core_task_line task

-- the line of the effect that is next
abbrev pub core_next_line : CoreState → ℕ
core_next_line s = core_work_line s.work

-- Loading, writes and arrivals

-- cells with values put in place from an address on
abbrev pub put_from : {A : Type 0} → List A → ℕ → List A → List A
put_from cells address [] = cells
put_from cells address (v ∷ vs) = put_from (slice_set cells address v) (suc address) vs

-- values put into a variable from a cell on, as far as it reaches; without the variable the cells stay
abbrev pub put_into : {A : Type 0} → Option (ℕ × ℕ) → ℕ → List A → List A → List A
put_into None first values cells = cells
put_into (Some v) first values cells = put_from cells (v.0 + first) (take (v.1 - first) values)

-- the state after loading
unfoldable pub core_loaded : CoreProgram → CoreState
core_loaded program =
    let cells = put_into (address_of program.project.node.variables (codes "_id")) 0 (wrapped (pos program.project.id) ∷ [])
    (replicate (program.core.cells + program.core.room) (pos 0)) in
    record {
      cells = cells;
      bits = replicate (whens_before program.core (length program.core.parts)) false;
      held = core_none_held cells;
      active = true;
      paused = false;
      work = core_tasks 0 program.core.init ++ finish_core 1 ∷ [];
    }

-- a write from outside: at once where no handler is active, else held
abbrev pub core_write : CoreProgram → CoreState → Name → (first : ℕ) → (values : List ℤ) → CoreState
core_write program s name first values =
    let variable = address_of program.variables name in
    if s.active then record s { held = put_into variable first (map Some values) s.held } else record s { cells = put_into variable first values s.cells }

-- the state in which a part begins, with its event's source and arguments
abbrev pub core_begun : CoreProgram → CoreState → ℕ × CorePart → (source : ℕ) → (args : List ℤ) → CoreState
core_begun program s found source args =
    let node = program.project.node.variables in
    record s {
      cells = put_into (address_of node (codes "event.args")) 0 args (put_into (address_of node (codes "event.source")) 0 (wrapped (pos source) ∷ []) s.cells);
      active = true;
      work = core_tasks found.0 (found.1).body ++ finish_core (found.1).line ∷ [];
    }

-- a part handles the event of that number
abbrev pub handles : ℕ → CorePart → Bool
handles event part = option_eq nat_eq part.event (Some event)

-- the first part among these that handles an event, with the number of `when`s before it where so many stand before them all
abbrev pub handler_among : ℕ → ℕ → List CorePart → Option (ℕ × CorePart)
handler_among event before [] = None
handler_among event before (part ∷ parts) =
    if handles event part then Some (before, part) else handler_among event (before + core_list_whens part.body) parts

abbrev pub core_handler_of : CoreProgram → Option ℕ → Option (ℕ × CorePart)
core_handler_of program None = None
core_handler_of program (Some event) = handler_among event (core_list_whens program.core.init) program.core.parts

abbrev pub core_arrived : CoreProgram → CoreState → (source : ℕ) → (args : List ℤ) → Option (ℕ × CorePart) → Met CoreState
core_arrived program s source args None = record { state = s; meeting = unheard }
core_arrived program s source args (Some handler) =
    if s.paused && s.active then record { state = s; meeting = refused }
    else (if s.active then record { state = core_begun program (core_ended s) handler source args; meeting = kills (core_next_line s) }
    else record { state = core_begun program s handler source args; meeting = begins })

abbrev pub core_arrive : CoreProgram → CoreState → Event → (source : ℕ) → (args : List ℤ) → Met CoreState
core_arrive program s event source args = core_arrived program s source args (core_handler_of program (event_number program.project event))
