-- A run of a source calls only natives that its statements call.
use Rattle.std.proofs.Common.{◌≡◌, ℕ, zero, suc, ◌+◌, Bool, true, false, ◌&&◌, if◌then◌else◌, ℤ, List, [], ◌∷◌, ◌++◌, map, Option, None, Some, Result, Ok, Err, All, subst, sym, refl, arith, bytes_eq, not, slice_index_or, zip, length}
use Rattle.std.specs.Bool.{beq}
use Rattle.aseba_tree.specs.Arrival.{arrive, arrived, begun, handler_of, put_cells, write}
use Rattle.aseba_tree.specs.Code.{Name, Place, expr, items, Stmt, stmt, StmtForm, assign, change, bump, if_then, when_do, while_do, for_do, emit, callsub, call, return, Stmts, no_stmts, stmts, Handler}
use Rattle.aseba_tree.specs.Line.{Event, named, numbered}
use Rattle.aseba_tree.specs.Lines.{source_system, source_moments, source_tick}
use Rattle.aseba_tree.specs.Run as run
use Rattle.aseba_tree.specs.Run.{Run, Moment, Met, Meeting, refused, kills, begins, CallsKnown, Knows, acted, acting, all_acting, moment, moments_from, begin, ticking}
use Rattle.aseba_tree.specs.Script.{Action, arrives, sets, Script, actions_at}
use Rattle.aseba_tree.specs.State.{Program, Task, perform, put, leave, turn, try, next, back, finish, State, tasks, whens, list_whens, init_code, part_among, part_named, loaded}
use Rattle.aseba_tree.specs.Step.{Stepped, ended, next_line, Argument, Store, going_on, places, ones, changed, target_expr, holds, step_of, is_within, scalar, arguments, argument_sizes, storing, assigned, tested, edge, leaving, emitted, emitted_cells, called, after_native, native_done, sub_tasks, behind_back, returned, performed, done, first_done, is_running, step, reached, task_native, next_native}
use Rattle.aseba_tree.specs.Value.{Cells, Stop, value, constant, elements}

-- Statements, tasks and parts that call only natives of which this holds

abbrev mutual
  pub CallsStmt : (Name → Type 0) → Stmt → Type 0
  CallsStmt P (stmt line place form) = CallsForm P form

  pub CallsForm : (Name → Type 0) → StmtForm → Type 0
  CallsForm P (if_then c body other) = CallsStmts P body × CallsStmts P other
  CallsForm P (when_do c body) = CallsStmts P body
  CallsForm P (while_do c body) = CallsStmts P body
  CallsForm P (for_do head body) = CallsStmts P body
  CallsForm P (call name es) = P name
  CallsForm P _ = Unit {0}

  pub CallsStmts : (Name → Type 0) → Stmts → Type 0
  CallsStmts P no_stmts = Unit {0}
  CallsStmts P (stmts s ss) = CallsStmt P s × CallsStmts P ss

abbrev pub CallsTask : (Name → Type 0) → Task → Type 0
CallsTask P (perform before s) = CallsStmt P s
CallsTask P (turn t) = CallsTask P t
CallsTask P (try line before head body) = CallsStmts P body
CallsTask P (next line before head body) = CallsStmts P body
CallsTask P _ = Unit {0}

abbrev pub CallsTasks : (Name → Type 0) → List Task → Type 0
CallsTasks P [] = Unit {0}
CallsTasks P (t ∷ ts) = CallsTask P t × CallsTasks P ts

abbrev pub CallsParts : (Name → Type 0) → List Handler → Type 0
CallsParts P [] = Unit {0}
CallsParts P (h ∷ hs) = CallsStmts P h.body × CallsParts P hs

-- and so does a whole source
pub record Calls (P : Name → Type 0) (program : Program) : Type 0 where
  pub init : CallsStmts P (init_code program.source)
  pub parts : CallsParts P program.source.parts

-- Work

both : (P : Name → Type 0) (ts us : List Task) → CallsTasks P ts → CallsTasks P us → CallsTasks P (ts ++ us)
both P [] us f g = g
both P (t ∷ ts) us f g = (f.0, both P ts us f.1 g)

tasks-call : (P : Name → Type 0) (before : ℕ) (ss : Stmts) → CallsStmts P ss → CallsTasks P (tasks before ss)
tasks-call P before no_stmts g = tt
tasks-call P before (stmts s ss) g = (g.0, tasks-call P (before + whens s) ss g.1)

puts-call : (P : Name → Type 0) (line : ℕ) (name : Name) (ps : List (ℕ × ℤ)) → CallsTasks P (map (λ q. put line name q.0 q.1) ps)
puts-call P line name [] = tt
puts-call P line name (p ∷ ps) = (tt, puts-call P line name ps)

abbrev OnPart : (Name → Type 0) → Option (ℕ × Handler) → Type 0
OnPart P None = Unit {0}
OnPart P (Some found) = CallsStmts P (found.1).body

among : (P : Name → Type 0) (is_sub : Bool) (name : Name) (before : ℕ) (hs : List Handler) → CallsParts P hs → OnPart P (part_among is_sub name before hs)
among P is_sub name before [] g = tt
among P is_sub name before (h ∷ hs) g = by (beq h.is_sub is_sub && bytes_eq h.name name) (among P is_sub name (before + list_whens h.body) hs g.1)
  where
    by : (b : Bool) → OnPart P (part_among is_sub name (before + list_whens h.body) hs) → OnPart P (if b then Some (before, h) else part_among is_sub name (before + list_whens h.body) hs)
    by true rest = g.0
    by false rest = rest

abbrev OnWork : (Name → Type 0) → Option (List Task) → Type 0
OnWork P None = Unit {0}
OnWork P (Some rest) = CallsTasks P rest

behind : (P : Name → Type 0) (ts : List Task) → CallsTasks P ts → OnWork P (behind_back ts)
behind P [] g = tt
behind P (back line ∷ rest) g = g.1
behind P (_ ∷ rest) g = behind P rest g.1

either : (P : Name → Type 0) (b : Bool) (ts us : List Task) → CallsTasks P ts → CallsTasks P us → CallsTasks P (if b then ts else us)
either P true ts us f g = f
either P false ts us f g = g

-- Steps

abbrev Keeps : (Name → Type 0) → Stepped → Type 0
Keeps P after = CallsTasks P after.state.work

going : (P : Name → Type 0) (s : State) (first : List Task) → CallsTasks P first → CallsTasks P s.work → Keeps P (going_on s first)
going P s first f g = both P first s.work f g

storing-calls : (P : Name → Type 0) (line : ℕ) (s : State) (name : Name) (ps : List (ℕ × ℤ)) → CallsTasks P s.work → Keeps P (storing line s name ps)
storing-calls P line s name [] g = g
storing-calls P line s name (p ∷ ps) g = both P (map (λ q. put line name q.0 q.1) ps) s.work (puts-call P line name ps) g

assigned-calls : (P : Name → Type 0) (line : ℕ) (s : State) (name : Name) (cells : Result (List ℤ) Stop) (places : Result (List ℕ) Stop) → CallsTasks P s.work → Keeps P (assigned line s name cells places)
assigned-calls P line s name (Err stop) places g = tt
assigned-calls P line s name (Ok cells) (Err stop) g = tt
assigned-calls P line s name (Ok cells) (Ok places) g = storing-calls P line s name (zip places cells) g

tested-calls : (P : Name → Type 0) (line : ℕ) (s : State) (r : Result (List ℤ) Stop) (ts us : List Task) → CallsTasks P ts → CallsTasks P us → CallsTasks P s.work → Keeps P (tested line s r ts us)
tested-calls P line s (Err stop) ts us f h g = tt
tested-calls P line s (Ok cells) ts us f h g = both P (if holds cells then ts else us) s.work (either P (holds cells) ts us f h) g

edge-calls : (P : Name → Type 0) (line : ℕ) (s : State) (which : ℕ) (r : Result (List ℤ) Stop) (body : List Task) → CallsTasks P body → CallsTasks P s.work → Keeps P (edge line s which r body)
edge-calls P line s which (Err stop) body f g = tt
edge-calls P line s which (Ok cells) body f g =
    let rises = holds cells && not (slice_index_or s.bits which false) in
    both P (if rises then body else []) s.work (either P rises body [] f tt) g

native-calls : (P : Name → Type 0) (line : ℕ) (s : State) (b : Bool) (store : Store) → CallsTasks P s.work → Keeps P (after_native line s (b, store))
native-calls P line s true store g = tt
native-calls P line s false store g = g

called-calls : (P : Name → Type 0) (program : Program) (line : ℕ) (s : State) (name : Name) (r : Result (List Argument) Stop) (sizes : List ℕ) → CallsTasks P s.work → Keeps P (called program.project line s name r sizes)
called-calls P program line s name (Err stop) sizes g = tt
called-calls P program line s name (Ok passed) sizes g = native-calls P line s (native_done program.project s.cells name passed sizes).0 (native_done program.project s.cells name passed sizes).1 g

emitted-calls : (P : Name → Type 0) (line : ℕ) (s : State) (name : Name) (r : Result (List ℤ) Stop) → CallsTasks P s.work → Keeps P (emitted line s name r)
emitted-calls P line s name (Err stop) g = tt
emitted-calls P line s name (Ok cells) g = g

sub-calls : (P : Name → Type 0) (found : Option (ℕ × Handler)) → OnPart P found → CallsTasks P (sub_tasks found)
sub-calls P None g = tt
sub-calls P (Some found) g = both P (tasks found.0 (found.1).body) (back (found.1).line ∷ []) (tasks-call P found.0 (found.1).body g) (tt, tt)

returned-calls : (P : Name → Type 0) (s : State) (found : Option (List Task)) → OnWork P found → Keeps P (returned s found)
returned-calls P s None g = tt
returned-calls P s (Some rest) g = g

leaving-calls : (P : Name → Type 0) (line : ℕ) (other : Stmts) → CallsTasks P (leaving line other)
leaving-calls P line no_stmts = tt
leaving-calls P line (stmts s ss) = (tt, tt)

performed-calls : (P : Name → Type 0) (program : Program) → Calls P program → (s : State) (before line : ℕ) (place : Place) (form : StmtForm) → CallsForm P form → CallsTasks P s.work → Keeps P (performed program s before line place form)
performed-calls P program all s before line place (assign target e) f g = assigned-calls P line s target.name (value program.project.consts s.cells e) (places program.project.consts s.cells target) g
performed-calls P program all s before line place (change target op e) f g =
    assigned-calls P line s target.name (value program.project.consts s.cells (changed target op place e)) (places program.project.consts s.cells target) g
performed-calls P program all s before line place (bump target op) f g =
    let size = length (elements program.project.consts s.cells (target_expr target)) in
    assigned-calls P line s target.name (value program.project.consts s.cells (changed target op place (expr place place (items (ones place size))))) (places program.project.consts s.cells target) g
performed-calls P program all s before line place (if_then c body other) f g =
    tested-calls P line s (value program.project.consts s.cells c) (tasks before body ++ leaving line other) (tasks (before + list_whens body) other)
    (both P (tasks before body) (leaving line other) (tasks-call P before body f.0) (leaving-calls P line other)) (tasks-call P (before + list_whens body) other f.1) g
performed-calls P program all s before line place (when_do c body) f g =
    edge-calls P line s before (value program.project.consts s.cells c) (tasks (suc before) body) (tasks-call P (suc before) body f) g
performed-calls P program all s before line place (while_do c body) f g =
    let again : List Task = turn (perform before (stmt line place (while_do c body))) ∷ [] in
    tested-calls P line s (value program.project.consts s.cells c) (tasks before body ++ again) [] (both P (tasks before body) again (tasks-call P before body f) (f, tt)) tt g
performed-calls P program all s before line place (for_do head body) f g = (f, g)
performed-calls P program all s before line place (emit name e) f g = emitted-calls P line s name (emitted_cells program.project.consts s.cells e) g
performed-calls P program all s before line place (callsub name) f g =
    let found = part_named program.source true name in
    both P (sub_tasks found) s.work (sub-calls P found (among P true name (list_whens (init_code program.source)) program.source.parts all.parts)) g
performed-calls P program all s before line place (call name es) f g =
    called-calls P program line s name (arguments program.project.consts s.cells es) (argument_sizes program.project.consts s.cells es) g
performed-calls P program all s before line place return f g = returned-calls P s (behind_back s.work) (behind P s.work g)

done-calls : (P : Name → Type 0) (program : Program) → Calls P program → (s : State) (t : Task) → CallsTask P t → CallsTasks P s.work → Keeps P (done program s t)
done-calls P program all s (perform before (stmt line place form)) f g = performed-calls P program all s before line place form f g
done-calls P program all s (put line name place v) f g = g
done-calls P program all s (leave line) f g = g
done-calls P program all s (turn loop) f g = (f, g)
done-calls P program all s (try line before head body) f g =
    let on : List Task = tasks before body ++ next line before head body ∷ [] in
    let within = is_within (step_of program.project.consts head.step) (scalar s.cells head.name) (constant program.project.consts head.last) in
    both P (if within then on else []) s.work (either P within on [] (both P (tasks before body) (next line before head body ∷ []) (tasks-call P before body f) (f, tt)) tt) g
done-calls P program all s (next line before head body) f g = (f, g)
done-calls P program all s (back line) f g = g
done-calls P program all s (finish line) f g = tt

first-calls : (P : Name → Type 0) (program : Program) → Calls P program → (s : State) (ts : List Task) → s.work ≡ ts → CallsTasks P ts → Keeps P (first_done program s ts)
first-calls P program all s [] e g = subst (CallsTasks P) (sym e) g
first-calls P program all s (t ∷ rest) e g = done-calls P program all (record s { work = rest }) t g.0 g.1

step-calls : (P : Name → Type 0) (program : Program) → Calls P program → (s : State) → CallsTasks P s.work → Keeps P (step program s)
unfolding step
step-calls P program all s g = by (is_running s)
  where
    by : (b : Bool) → Keeps P (if b then first_done program s s.work else record { state = s; report = None })
    by true = first-calls P program all s s.work refl g
    by false = g

-- Actions

abbrev met-work : Met State → List Task
met-work m = m.state.work

abbrev new-handler : Program → ℕ × Handler → (source : ℕ) → (args : List ℤ) → State → Meeting → Met State
new-handler program handler source args s m = record { state = begun program s handler source args; meeting = m }

arrived-calls : (P : Name → Type 0) (program : Program) (s : State) (source : ℕ) (args : List ℤ) (found : Option (ℕ × Handler)) → OnPart P found → CallsTasks P s.work → CallsTasks P (arrived program s source args found).state.work
arrived-calls P program s source args None f g = g
arrived-calls P program s source args (Some handler) f g = by s.paused s.active
  where
    new : CallsTasks P (tasks handler.0 (handler.1).body ++ finish (handler.1).line ∷ [])
    new = both P (tasks handler.0 (handler.1).body) (finish (handler.1).line ∷ []) (tasks-call P handler.0 (handler.1).body f) (tt, tt)

    by : (p a : Bool) → CallsTasks P (met-work (if p && a then record { state = s; meeting = refused } else (if a then new-handler program handler source args (ended s) (kills (next_line s)) else new-handler program handler source args s begins)))
    by true true = g
    by true false = new
    by false true = new
    by false false = new

handler-calls : (P : Name → Type 0) (program : Program) → Calls P program → (event : Event) → OnPart P (handler_of program event)
handler-calls P program all (named name) = among P false name (list_whens (init_code program.source)) program.source.parts all.parts
handler-calls P program all (numbered n) = tt

arrive-calls : (P : Name → Type 0) (program : Program) → Calls P program → (s : State) (event : Event) (source : ℕ) (args : List ℤ) → CallsTasks P s.work → CallsTasks P (arrive program s event source args).state.work
arrive-calls P program all s event source args g = arrived-calls P program s source args (handler_of program event) (handler-calls P program all event) g

write-calls : (P : Name → Type 0) (s : State) (name : Name) (first : ℕ) (values : List ℤ) → CallsTasks P s.work → CallsTasks P (write s name first values).work
write-calls P s name first values g = by s.active
  where
    by : (b : Bool) → CallsTasks P (if b then record s { held = put_cells s.held name first (map Some values) } else record s { cells = put_cells s.cells name first values }).work
    by true = g
    by false = g

actions-call : (P : Name → Type 0) (program : Program) → Calls P program → (s : State) (actions : List Action) → CallsTasks P s.work → CallsTasks P (all_acting (source_system program) s actions).work
actions-call P program all s [] g = g
actions-call P program all s (arrives event source args ∷ actions) g = actions-call P program all (arrive program s event source args).state actions (arrive-calls P program all s event source args g)
actions-call P program all s (sets name first values ∷ actions) g = actions-call P program all (write s name first values) actions (write-calls P s name first values g)

-- Runs

reached-calls : (P : Name → Type 0) (name : Name) (r : Result (List Argument) Stop) → P name → Knows P (reached name r)
reached-calls P name (Err stop) g other e = let bad : None ≡ Some other = e in cc
reached-calls P name (Ok passed) g other e = let same : name ≡ other = cc in subst P same g

work-calls : (P : Name → Type 0) (program : Program) (cells : Cells) (ts : List Task) → CallsTasks P ts → Knows P (task_native program cells ts)
work-calls P program cells (perform before (stmt line place (call name es)) ∷ rest) g = reached-calls P name (arguments program.project.consts cells es) g.0
work-calls P program cells _ g = λ name e. let bad : None ≡ Some name = e in cc

next-calls : (P : Name → Type 0) (program : Program) (s : State) → CallsTasks P s.work → Knows P (next_native program s)
next-calls P program s g = by (is_running s)
  where
    by : (b : Bool) → Knows P (if b then task_native program s.cells s.work else None)
    by true = work-calls P program s.cells s.work g
    by false = λ name e. let bad : None ≡ Some name = e in cc

tick-calls : (P : Name → Type 0) (program : Program) → Calls P program → (beat : Bool) (s : State) → CallsTasks P s.work → CallsTasks P (source_tick program beat s).state.work
tick-calls P program all true s g = step-calls P program all s g
tick-calls P program all false s g = g

moment-calls : (P : Name → Type 0) (program : Program) (beat : Bool) (s : State) → CallsTasks P s.work → Knows P (run.reached (source_system program) (source_tick program beat s).counts s)
moment-calls P program true s g = next-calls P program s g
moment-calls P program false s g = λ name e. let bad : None ≡ Some name = e in cc

all-cons : (P : Moment → Type 0) (x : Moment) (xs : List Moment) → P x → All P xs → All P (x ∷ xs)
all-cons P x xs h k zero d below = h
all-cons P x xs h k (suc i) d below = k i d (omega (arith, below))

moments-call : (P : Name → Type 0) (program : Program) → Calls P program → (script : Script) (run : Run State) (beats : List Bool) → CallsTasks P run.state.work → CallsKnown P (moments_from (source_system program) script run beats)
moments-call P program all script run [] g = λ k d below. absurd (omega (arith, below))
moments-call P program all script run (beat ∷ beats) g =
    let before = acted (source_system program) script run in
    let ready = actions-call P program all run.state (actions_at script run.ticks) g in
    all-cons (λ m. Knows P m.calls) (moment (source_system program) script run beat) (moments_from (source_system program) script (ticking (source_system program) script run beat) beats)
    (moment-calls P program beat before ready)
    (moments-call P program all script (ticking (source_system program) script run beat) beats (tick-calls P program all beat before ready))

loaded-calls : (P : Name → Type 0) (program : Program) → Calls P program → CallsTasks P (loaded program).work
unfolding loaded
loaded-calls P program all = both P (tasks 0 (init_code program.source)) (finish 1 ∷ []) (tasks-call P 0 (init_code program.source) all.init) (tt, tt)

-- each native that a run calls is one that a statement calls
pub calls-made : (P : Name → Type 0) (program : Program) → Calls P program → (script : Script) (beats : List Bool) → CallsKnown P (source_moments program script beats)
calls-made P program all script beats = moments-call P program all script (begin (loaded program)) beats (loaded-calls P program all)
