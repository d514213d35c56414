-- One step: the first task of the work is done. It is one effect.
use Rattle.std.specs.Prelude.{ℕ, zero, suc, ◌+◌, ℤ, pos, ◌+ℤ◌, ◌≡◌, Bool, true, false, not, ◌&&◌, if◌then◌else◌, List, [], ◌∷◌, ◌++◌, map, length, zip, slice_get, slice_set, slice_index_or, bytes_eq, Option, Some, None, option_map, unwrap_or, Result, Ok, Err, int_lt}
use Rattle.std.specs.List.{range_with_len, position_or_len}
use Rattle.aseba_words.specs.declared.operators.Binary.{Binary}
use Rattle.aseba_words.specs.Cell.{wrapped, is_true}
use Rattle.aseba_words.specs.Natives.{native_run, native_params}
use Rattle.aseba_tree.specs.Code.{Name, Place, Expr, expr, Form, number, whole, index, range, items, two, Exprs, no_exprs, exprs, Part, all, at, span, Target, stmt, StmtForm, assign, change, bump, if_then, when_do, while_do, for_do, emit, callsub, call, return, Stmts, no_stmts, stmts, Handler, Const, Project}
use Rattle.aseba_tree.specs.Line.{Report, named, sent, division, bounds}
use Rattle.aseba_tree.specs.Value.{Named, Cells, cells_of, variable_cells, put_cell, Stop, by_zero, outside, and_then, place_among, one_element, elements, value, constant, as_place, from_to}
use Rattle.aseba_tree.specs.State.{Program, Task, perform, put, leave, turn, try, next, back, finish, tasks, list_whens, part_named, State, none_held}

-- the state after a step, and what the step tells
pub record Stepped : Type 0 where
  pub state : State
  pub report : Option Report

-- the cells of a variable, with what is held for them put in place
abbrev pub applied_cells : List ℤ → List (Option ℤ) → List ℤ
applied_cells (v ∷ vs) (h ∷ hs) = unwrap_or h v ∷ applied_cells vs hs
applied_cells vs _ = vs

abbrev pub applied : Cells → Named (Option ℤ) → Cells
applied (v ∷ vs) (h ∷ hs) = (v.0, applied_cells v.1 h.1) ∷ applied vs hs
applied vs _ = vs

-- A handler ends: no work is left, none is active, and the held values are applied.
abbrev pub ended : State → State
ended s = record s { cells = applied s.cells s.held; held = none_held s.cells; active = false; work = [] }

-- goes on with tasks in front of the work
abbrev pub going_on : State → List Task → Stepped
going_on s first = record { state = record s { work = first ++ s.work }; report = None }

abbrev pub stop_report : ℕ → Stop → Report
stop_report line by_zero = division line
stop_report line (outside size i) = bounds line size i

-- A stop ends the handler and sets paused.
abbrev pub stopped : ℕ → State → Stop → Stepped
stopped line s stop = record { state = record (ended s) { paused = true }; report = Some (stop_report line stop) }

-- one cell stored
abbrev pub stored : State → Name → ℕ → ℤ → State
stored s name place v = record s { cells = put_cell s.cells name place v }

-- what `L` of an assignment is as an expression
abbrev pub part_form : Name → Part → Form
part_form name all = whole name
part_form name (at e) = index name e
part_form name (span c d) = range name c d

abbrev pub target_expr : Target → Expr
target_expr target = expr target.place target.place (part_form target.name target.part)

-- `L op e`, with the operator's place
abbrev pub changed : Target → Binary → Place → Expr → Expr
changed target op place e = expr target.place place (two op (target_expr target) e)

-- a list of so many ones
abbrev pub ones : Place → ℕ → Exprs
ones place zero = no_exprs
ones place (suc n) = exprs (expr place place (number (pos 1))) (ones place n)

-- the places of the cells that a target names in its variable, or the stop of its index
abbrev pub part_places : List Const → Cells → ℕ → Part → Result (List ℕ) Stop
part_places consts cells size all = Ok (range_with_len 0 size)
part_places consts cells size (at e) = and_then (one_element (elements consts cells e)) (λ i. and_then (place_among size i) (λ place. Ok (place ∷ [])))
part_places consts cells size (span c d) = Ok (from_to (as_place (constant consts c)) (as_place (constant consts d)))

abbrev pub places : List Const → Cells → Target → Result (List ℕ) Stop
places consts cells target = part_places consts cells (length (variable_cells cells target.name)) target.part

-- the first of the computed cells is stored, and a task stands for each other one
abbrev pub storing : ℕ → State → Name → List (ℕ × ℤ) → Stepped
storing line s name [] = going_on s []
storing line s name (p ∷ ps) = going_on (stored s name p.0 p.1) (map (λ q. put line name q.0 q.1) ps)

-- an assignment: the cells come first, then the places where they are stored
abbrev pub assigned : ℕ → State → Name → Result (List ℤ) Stop → Result (List ℕ) Stop → Stepped
assigned line s name (Err stop) places = stopped line s stop
assigned line s name (Ok cells) (Err stop) = stopped line s stop
assigned line s name (Ok cells) (Ok places) = storing line s name (zip places cells)

-- `L = e`
abbrev pub assignment_done : List Const → ℕ → State → Target → Expr → Stepped
assignment_done consts line s target e = assigned line s target.name (value consts s.cells e) (places consts s.cells target)

-- a condition's cell is true
abbrev pub holds : List ℤ → Bool
holds [] = false
holds (v ∷ vs) = is_true v

-- a test with what its condition computes: the tasks for true or those for false follow
abbrev pub tested : ℕ → State → Result (List ℤ) Stop → List Task → List Task → Stepped
tested line s (Err stop) then_tasks else_tasks = stopped line s stop
tested line s (Ok cells) then_tasks else_tasks = going_on s (if holds cells then then_tasks else else_tasks)

-- the end of a branch that has another behind it
abbrev pub leaving : ℕ → Stmts → List Task
leaving line no_stmts = []
leaving line (stmts _ _) = leave line ∷ []

-- the test of the `when` of a number: its bit becomes the truth, and its body follows where it was false before
abbrev pub edge : ℕ → State → ℕ → Result (List ℤ) Stop → List Task → Stepped
edge line s which (Err stop) body = stopped line s stop
edge line s which (Ok cells) body =
    going_on (record s { bits = slice_set s.bits which (holds cells) }) (if holds cells && not (slice_index_or s.bits which false) then body else [])

-- the step of a `for`
abbrev pub step_of : List Const → Option Expr → ℤ
step_of consts None = pos 1
step_of consts (Some e) = constant consts e

-- the variable has not passed the last bound
abbrev pub is_within : (by v last : ℤ) → Bool
is_within by v last = if int_lt by (pos 0) then not (int_lt v last) else not (int_lt last v)

-- the cell of a variable that has one
abbrev pub scalar : Cells → Name → ℤ
scalar cells name = slice_index_or (variable_cells cells name) 0 (pos 0)

-- Natives

-- An argument of a native: the variable's own cells from a place on, or fresh cells with its value.
pub data Argument : Type 0 where
  own : Name → (place : ℕ) → Argument
  fresh : List ℤ → Argument

-- a name alone is a variable or a constant
abbrev pub whole_argument : Result (List ℤ) Stop → Name → Option (List ℤ) → Result Argument Stop
whole_argument computed name (Some _) = Ok (own name 0)
whole_argument computed name None = and_then computed (λ vs. Ok (fresh vs))

-- a whole variable and a range stand for their own cells, and anything else for fresh cells
abbrev pub argument_form : List Const → Cells → Result (List ℤ) Stop → Form → Result Argument Stop
argument_form consts cells computed (whole name) = whole_argument computed name (cells_of cells name)
argument_form consts cells computed (range name c d) = Ok (own name (as_place (constant consts c)))
argument_form consts cells computed _ = and_then computed (λ vs. Ok (fresh vs))

abbrev pub argument : List Const → Cells → Expr → Result Argument Stop
argument consts cells (expr first place form) = argument_form consts cells (value consts cells (expr first place form)) form

-- the arguments in order, or the first stop
abbrev pub arguments : List Const → Cells → Exprs → Result (List Argument) Stop
arguments consts cells no_exprs = Ok []
arguments consts cells (exprs e es) = and_then (argument consts cells e) (λ a. and_then (arguments consts cells es) (λ more. Ok (a ∷ more)))

-- the cells that arguments have
abbrev pub argument_sizes : List Const → Cells → Exprs → List ℕ
argument_sizes consts cells no_exprs = []
argument_sizes consts cells (exprs e es) = length (elements consts cells e) ∷ argument_sizes consts cells es

-- what a native reads and writes: the named cells and the arguments, each argument known by its number
abbrev pub Store : Type 0
Store = Cells × List Argument

abbrev pub argument_cell : Cells → ℕ → Option Argument → ℤ
argument_cell cells k None = pos 0
argument_cell cells k (Some (own name place)) = slice_index_or (variable_cells cells name) (place + k) (pos 0)
argument_cell cells k (Some (fresh vs)) = slice_index_or vs k (pos 0)

abbrev pub get : Store → ℕ → ℕ → ℤ
get store which k = argument_cell store.0 k (slice_get store.1 which)

abbrev pub put_argument : Store → ℕ → ℕ → ℤ → Option Argument → Store
put_argument store which k v None = store
put_argument store which k v (Some (own name place)) = (put_cell store.0 name (place + k) v, store.1)
put_argument store which k v (Some (fresh vs)) = (store.0, slice_set store.1 which (fresh (slice_set vs k v)))

abbrev pub put_in : Store → ℕ → ℕ → ℤ → Store
put_in store which k v = put_argument store which k v (slice_get store.1 which)

-- the place of a native in the project's list
abbrev pub native_place : Project → Name → ℕ
native_place project name = position_or_len (λ native. bytes_eq native.name name) project.node.natives

-- the parameters of the native of a name
abbrev pub native_sizes : Project → Name → List ℤ
native_sizes project name = unwrap_or (option_map (λ native. map (λ p. p.size) native.params) (slice_get project.node.natives (native_place project name))) []

-- A native is known where the row of its place has the sizes of its parameters.
abbrev pub IsKnown : Project → Name → Type 0
IsKnown project name = native_params (native_place project name) ≡ Some (native_sizes project name)

-- the length of the first argument whose parameter is a template, and 0 where there is none
abbrev pub template_length : List ℤ → List ℕ → ℕ
template_length (p ∷ ps) (n ∷ ns) = if int_lt p (pos 0) then n else template_length ps ns
template_length _ _ = 0

-- After a native: a zero divisor stops the handler, and cells that were stored before it stay.
abbrev pub after_native : ℕ → State → Bool × Store → Stepped
after_native line s result =
    let t : State = record s { cells = (result.1).0 } in
    if result.0 then stopped line t by_zero else going_on t []

-- the cells and arguments after the row of a native's place in the project's list, and whether a zero divisor stopped it
abbrev pub native_done : Project → Cells → Name → List Argument → List ℕ → Bool × Store
native_done project cells name passed sizes =
    native_run get put_in (native_place project name) (range_with_len 0 (length passed)) (template_length (native_sizes project name) sizes) (cells, passed)

-- The call of a native. Of one that isn't known nothing is promised: it does what the row of its place does, and nothing where there is no such row.
abbrev pub called : Project → ℕ → State → Name → Result (List Argument) Stop → List ℕ → Stepped
called project line s name (Err stop) sizes = stopped line s stop
called project line s name (Ok passed) sizes = after_native line s (native_done project s.cells name passed sizes)

-- Subroutines

-- the body of a subroutine, and the return from it
abbrev pub sub_tasks : Option (ℕ × Handler) → List Task
sub_tasks None = []
sub_tasks (Some found) = tasks found.0 (found.1).body ++ back (found.1).line ∷ []

-- what stands behind the nearest return from a subroutine
abbrev pub behind_back : List Task → Option (List Task)
behind_back [] = None
behind_back (back line ∷ rest) = Some rest
behind_back (_ ∷ rest) = behind_back rest

-- `return`: without a subroutine to leave, the handler ends
abbrev pub returned : State → Option (List Task) → Stepped
returned s None = record { state = ended s; report = None }
returned s (Some rest) = record { state = record s { work = rest }; report = None }

abbrev pub emitted_cells : List Const → Cells → Option Expr → Result (List ℤ) Stop
emitted_cells consts cells None = Ok []
emitted_cells consts cells (Some e) = value consts cells e

-- an event is sent with its cells
abbrev pub emitted : ℕ → State → Name → Result (List ℤ) Stop → Stepped
emitted line s name (Err stop) = stopped line s stop
emitted line s name (Ok cells) = record { state = s; report = Some (sent (named name) cells) }

-- The first task of a work whose rest the state has. A statement is given with the number of `when`s before it, its line and its place.
abbrev pub performed : Program → State → ℕ → ℕ → Place → StmtForm → Stepped
performed program s before line place (assign target e) = assignment_done program.project.consts line s target e
performed program s before line place (change target op e) = assignment_done program.project.consts line s target (changed target op place e)
performed program s before line place (bump target op) =
    let size = length (elements program.project.consts s.cells (target_expr target)) in
    assignment_done program.project.consts line s target (changed target op place (expr place place (items (ones place size))))
performed program s before line place (if_then c body other) =
    tested line s (value program.project.consts s.cells c) (tasks before body ++ leaving line other) (tasks (before + list_whens body) other)
performed program s before line place (when_do c body) = edge line s before (value program.project.consts s.cells c) (tasks (suc before) body)
performed program s before line place (while_do c body) =
    tested line s (value program.project.consts s.cells c) (tasks before body ++ turn (perform before (stmt line place (while_do c body))) ∷ []) []
performed program s before line place (for_do head body) =
    going_on (stored s head.name 0 (constant program.project.consts head.first)) (try line before head body ∷ [])
performed program s before line place (emit name e) = emitted line s name (emitted_cells program.project.consts s.cells e)
performed program s before line place (callsub name) = going_on s (sub_tasks (part_named program.source true name))
performed program s before line place (call name es) =
    called program.project line s name (arguments program.project.consts s.cells es) (argument_sizes program.project.consts s.cells es)
performed program s before line place return = returned s (behind_back s.work)

abbrev pub done : Program → State → Task → Stepped
done program s (perform before (stmt line place form)) = performed program s before line place form
done program s (put line name place v) = going_on (stored s name place v) []
done program s (leave line) = going_on s []
done program s (turn loop) = going_on s (loop ∷ [])
done program s (try line before head body) =
    going_on s (if is_within (step_of program.project.consts head.step) (scalar s.cells head.name) (constant program.project.consts head.last)
    then tasks before body ++ next line before head body ∷ [] else [])
done program s (next line before head body) =
    going_on (stored s head.name 0 (wrapped (scalar s.cells head.name +ℤ step_of program.project.consts head.step))) (turn (try line before head body) ∷ [])
done program s (back line) = going_on s []
done program s (finish line) = record { state = ended s; report = None }

-- the first task of a work, where there is one
abbrev pub first_done : Program → State → List Task → Stepped
first_done program s [] = record { state = s; report = None }
first_done program s (task ∷ rest) = done program (record s { work = rest }) task

-- a handler is active and not paused
abbrev pub is_running : State → Bool
is_running s = s.active && not s.paused

-- The step of a state. An idle or paused one stays as it is.
unfoldable pub step : Program → State → Stepped
step program s = if is_running s then first_done program s s.work else record { state = s; report = None }

-- the line of a task
abbrev pub task_line : Task → ℕ
task_line (perform before (stmt line place form)) = line
task_line (put line name place v) = line
task_line (leave line) = line
task_line (turn loop) = task_line loop
task_line (try line before head body) = line
task_line (next line before head body) = line
task_line (back line) = line
task_line (finish line) = line

abbrev pub work_line : List Task → ℕ
work_line [] = 0
work_line (task ∷ rest) = task_line task

-- the line of the effect that is next
abbrev pub next_line : State → ℕ
next_line s = work_line s.work

-- the native whose call is reached, which it isn't where an argument stops
abbrev pub reached : Name → Result (List Argument) Stop → Option Name
reached name (Err stop) = None
reached name (Ok passed) = Some name

-- the native whose call the first task of a work reaches
abbrev pub task_native : Program → Cells → List Task → Option Name
task_native program cells (perform before (stmt line place (call name es)) ∷ rest) = reached name (arguments program.project.consts cells es)
task_native program cells _ = None

-- the native whose call the next step reaches
abbrev pub next_native : Program → State → Option Name
next_native program s = if is_running s then task_native program s.cells s.work else None
