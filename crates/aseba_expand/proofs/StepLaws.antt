-- A step of the source and one of its element form lead to states that are alike.
use Rattle.std.proofs.Common.{refl, ℕ, true, false, Bool, ℤ, List, [], ◌∷◌, Option, Some, None, slice_get}
use Rattle.std.specs.Prelude.{if◌then◌else◌, option_map}
use Rattle.aseba_tree.specs.Code.{Name, Place, Expr, stmt, StmtForm, assign, change, bump, if_then, when_do, while_do, for_do, emit, callsub, call, return}
use Rattle.aseba_tree.specs.CoreStep.{CoreState, CoreTask, core_first_done, core_step, core_returned, entered, perform_core}
use Rattle.aseba_tree.specs.Numbers.{is_own}
use Rattle.aseba_tree.specs.Run.{Knows}
use Rattle.aseba_tree.specs.State.{Program, State, Task, perform, put, leave, turn, try, next, back, finish, part_named, init_code, list_whens}
use Rattle.aseba_tree.specs.Step.{performed, done, first_done, is_running, step, sub_tasks, behind_back, returned, IsKnown, task_native, next_native}
use Rattle.aseba_expand.specs.Plain.{plain_program, plain_core, sub_place}
use Rattle.aseba_expand.proofs.Alike.{Alike, SteppedAlike, WorkAlike}
use Rattle.aseba_expand.proofs.Calls.{call-alike}
use Rattle.aseba_expand.proofs.Done.{assign-alike, change-alike, bump-alike, if-alike, when-alike, while-alike, for-alike, try-alike, next-alike}
use Rattle.aseba_expand.proofs.Emits.{sent-alike, emit-argument}
use Rattle.aseba_expand.proofs.Ends.{twin, Sturdy, alike-twin, with-work, ended-alike, is-twin, sturdy}
use Rattle.aseba_expand.proofs.Ready.{ReadyForm, ReadyTask, ReadyTasks, Ready}
use Rattle.aseba_expand.proofs.Steps.{settled, going-alike}
use Rattle.aseba_expand.proofs.StoreLaws.{put-alike}
use Rattle.aseba_expand.proofs.Subs.{ready-sub, back-alike, ready-back, ReadyRest, sub-onto}
use Rattle.aseba_expand.proofs.Tasks.{work_core, form_tasks, while_loop, for_loop}

emit-alike : (program : Program) (s : State) (temporaries : List ℤ) (held_behind : _) (work : List CoreTask) (rest : List Task) (line before : ℕ) (place : Place) (name : Name) (argument : Option Expr)
    → Sturdy program s temporaries → ReadyForm program (emit name argument) → ReadyTasks program rest
    → SteppedAlike program (performed program (record s { work = rest }) before line place (emit name argument)) (core_first_done (plain_program program) (twin s temporaries held_behind work) (form_tasks program before line (emit name argument) (work_core program rest)))
emit-alike program s temporaries held_behind work rest line before place name None h g k = sent-alike program s temporaries held_behind work rest line before name 0 0 [] h g.0 k refl
emit-alike program s temporaries held_behind work rest line before place name (Some e) h g k = emit-argument program s temporaries held_behind work rest line before name e (is_own program e) h g.0 refl g.1 k

callsub-alike : (program : Program) (s : State) (temporaries : List ℤ) (held_behind : _) (work : List CoreTask) (rest : List Task) (line before : ℕ) (place : Place) (name : Name)
    → Ready program → Sturdy program s temporaries → ReadyTasks program rest
    → SteppedAlike program (performed program (record s { work = rest }) before line place (callsub name)) (core_first_done (plain_program program) (twin s temporaries held_behind work) (form_tasks program before line (callsub name) (work_core program rest)))
callsub-alike program s temporaries held_behind work rest line before place name all h k =
    going-alike program s temporaries held_behind rest (sub_tasks (part_named program.source true name)) (entered (plain_core program) (sub_place program name) (slice_get (plain_core program).parts (sub_place program name))) h
    (sub-onto program name) (ready-sub program true name (list_whens (init_code program.source)) program.source.parts all.parts) k

returned-alike : (program : Program) (s : State) (temporaries : List ℤ) (held_behind : _) (work : List CoreTask) (rest : List Task) (behind : Option (List Task)) → Sturdy program s temporaries → ReadyRest program behind
    → SteppedAlike program (returned (record s { work = rest }) behind) (core_returned (record (twin s temporaries held_behind work) { work = work_core program rest }) (option_map (work_core program) behind))
returned-alike program s temporaries held_behind work rest None h g = record { states = ended-alike program (record s { work = rest }) temporaries held_behind (work_core program rest) (with-work program s temporaries rest h); reports = refl }
returned-alike program s temporaries held_behind work rest (Some ts) h g =
    record { states = alike-twin program (record s { work = ts }) temporaries held_behind (work_core program ts) (with-work program s temporaries ts h) (settled program temporaries ts g); reports = refl }

return-alike : (program : Program) (s : State) (temporaries : List ℤ) (held_behind : _) (work : List CoreTask) (rest : List Task) (line before : ℕ) (place : Place)
    → Sturdy program s temporaries → ReadyTasks program rest
    → SteppedAlike program (performed program (record s { work = rest }) before line place return) (core_first_done (plain_program program) (twin s temporaries held_behind work) (form_tasks program before line return (work_core program rest)))
return-alike program s temporaries held_behind work rest line before place h k =
    rw (back-alike program rest k) (returned-alike program s temporaries held_behind work rest (behind_back rest) h (ready-back program rest k))

form-alike : (program : Program) (s : State) (temporaries : List ℤ) (held_behind : _) (work : List CoreTask) (rest : List Task) (line before : ℕ) (place : Place) (form : StmtForm)
    → Ready program → Sturdy program s temporaries → ReadyForm program form → ReadyTasks program rest → Knows (IsKnown program.project) (task_native program s.cells (perform before (stmt line place form) ∷ rest))
    → SteppedAlike program (performed program (record s { work = rest }) before line place form) (core_first_done (plain_program program) (twin s temporaries held_behind work) (form_tasks program before line form (work_core program rest)))
form-alike program s temporaries held_behind work rest line before place (assign target e) all h g k known = assign-alike program s temporaries held_behind work rest line before place target e h g k
form-alike program s temporaries held_behind work rest line before place (change target op e) all h g k known = change-alike program s temporaries held_behind work rest line before place target op e h g k
form-alike program s temporaries held_behind work rest line before place (bump target op) all h g k known = bump-alike program s temporaries held_behind work rest line before place target op h g k
form-alike program s temporaries held_behind work rest line before place (if_then c body other) all h g k known = if-alike program s temporaries held_behind work rest line before place c body other h g k
form-alike program s temporaries held_behind work rest line before place (when_do c body) all h g k known = when-alike program s temporaries held_behind work rest line before place c body h g k
form-alike program s temporaries held_behind work rest line before place (while_do c body) all h g k known = while-alike program s temporaries held_behind work rest line before place c body h g k
form-alike program s temporaries held_behind work rest line before place (for_do head body) all h g k known = for-alike program s temporaries held_behind work rest line before place head body h g k
form-alike program s temporaries held_behind work rest line before place (emit name argument) all h g k known = emit-alike program s temporaries held_behind work rest line before place name argument h g k
form-alike program s temporaries held_behind work rest line before place (callsub name) all h g k known = callsub-alike program s temporaries held_behind work rest line before place name all h k
form-alike program s temporaries held_behind work rest line before place (call name es) all h g k known = call-alike program s temporaries held_behind work rest line before place name es h g k known
form-alike program s temporaries held_behind work rest line before place return all h g k known = return-alike program s temporaries held_behind work rest line before place h k

-- a task that stores nothing that was computed
task-alike : (program : Program) (s : State) (temporaries : List ℤ) (held_behind : _) (work : List CoreTask) (rest : List Task) (t : Task)
    → Ready program → Sturdy program s temporaries → ReadyTask program t → ReadyTasks program rest → Knows (IsKnown program.project) (task_native program s.cells (t ∷ rest))
    → SteppedAlike program (done program (record s { work = rest }) t) (core_first_done (plain_program program) (twin s temporaries held_behind work) (work_core program (t ∷ rest)))
task-alike program s temporaries held_behind work rest (perform before (stmt line place form)) all h g k known = form-alike program s temporaries held_behind work rest line before place form all h g k known
task-alike program s temporaries held_behind work rest (put line name place v) all h g k known = absurd g
task-alike program s temporaries held_behind work rest (leave line) all h g k known = going-alike program s temporaries held_behind rest [] [] h (λ rest. refl) tt k
task-alike program s temporaries held_behind work rest (turn (perform before (stmt line place (while_do c body)))) all h g k known = going-alike program s temporaries held_behind rest (perform before (stmt line place (while_do c body)) ∷ []) (perform_core before (while_loop program line c body) ∷ []) h (λ rest. refl) (g, tt) k
task-alike program s temporaries held_behind work rest (turn (try line before head body)) all h g k known = going-alike program s temporaries held_behind rest (try line before head body ∷ []) (perform_core before (for_loop program line head body) ∷ []) h (λ rest. refl) (g, tt) k
task-alike program s temporaries held_behind work rest (turn t) all h g k known = absurd g
task-alike program s temporaries held_behind work rest (try line before head body) all h g k known = try-alike program s temporaries held_behind work rest line before head body h g k
task-alike program s temporaries held_behind work rest (next line before head body) all h g k known = next-alike program s temporaries held_behind work rest line before head body h g k
task-alike program s temporaries held_behind work rest (back line) all h g k known = going-alike program s temporaries held_behind rest [] [] h (λ rest. refl) tt k
task-alike program s temporaries held_behind work rest (finish line) all h g k known =
    record { states = ended-alike program (record s { work = rest }) temporaries held_behind (work_core program rest) (with-work program s temporaries rest h); reports = refl }

-- Whole states

first-alike : (program : Program) (s : State) (temporaries : List ℤ) (held_behind : _) (work : List CoreTask) (ts : List Task) (core_work : List CoreTask)
    → Ready program → Sturdy program s temporaries → WorkAlike program temporaries s.work work → WorkAlike program temporaries ts core_work → Knows (IsKnown program.project) (task_native program s.cells ts)
    → SteppedAlike program (first_done program s ts) (core_first_done (plain_program program) (twin s temporaries held_behind work) core_work)
first-alike program s temporaries held_behind work [] core_work all h w k known = rw k.0 (record { states = alike-twin program s temporaries held_behind work h w; reports = refl })
first-alike program s temporaries held_behind work (put line name place v ∷ ts) core_work all h w k known = put-alike program s temporaries held_behind work core_work line name place v ts h k
first-alike program s temporaries held_behind work (perform before st ∷ ts) core_work all h w k known = rw k.0 (task-alike program s temporaries held_behind work ts (perform before st) all h k.1.0 k.1.1 known)
first-alike program s temporaries held_behind work (leave line ∷ ts) core_work all h w k known = rw k.0 (task-alike program s temporaries held_behind work ts (leave line) all h k.1.0 k.1.1 known)
first-alike program s temporaries held_behind work (turn t ∷ ts) core_work all h w k known = rw k.0 (task-alike program s temporaries held_behind work ts (turn t) all h k.1.0 k.1.1 known)
first-alike program s temporaries held_behind work (try line before head body ∷ ts) core_work all h w k known = rw k.0 (task-alike program s temporaries held_behind work ts (try line before head body) all h k.1.0 k.1.1 known)
first-alike program s temporaries held_behind work (next line before head body ∷ ts) core_work all h w k known = rw k.0 (task-alike program s temporaries held_behind work ts (next line before head body) all h k.1.0 k.1.1 known)
first-alike program s temporaries held_behind work (back line ∷ ts) core_work all h w k known = rw k.0 (task-alike program s temporaries held_behind work ts (back line) all h k.1.0 k.1.1 known)
first-alike program s temporaries held_behind work (finish line ∷ ts) core_work all h w k known = rw k.0 (task-alike program s temporaries held_behind work ts (finish line) all h k.1.0 k.1.1 known)

twin-step : (program : Program) (s : State) (temporaries : List ℤ) (held_behind : _) (work : List CoreTask)
    → Ready program → Sturdy program s temporaries → WorkAlike program temporaries s.work work → Knows (IsKnown program.project) (next_native program s)
    → SteppedAlike program (step program s) (core_step (plain_program program) (twin s temporaries held_behind work))
unfolding step core_step
twin-step program s temporaries held_behind work all h w known = pick (is_running s) known
  where
    pick : (b : Bool) → Knows (IsKnown program.project) (if b then task_native program s.cells s.work else None)
        → SteppedAlike program (if b then first_done program s s.work else record { state = s; report = None })
        (if b then core_first_done (plain_program program) (twin s temporaries held_behind work) work else record { state = twin s temporaries held_behind work; report = None })
    pick true known = first-alike program s temporaries held_behind work s.work work all h w w known
    pick false known = record { states = alike-twin program s temporaries held_behind work h w; reports = refl }

-- Steps of states that are alike tell the same, and lead to states that are alike, unless an unknown native is called.
pub step-alike : (program : Program) (s : State) (c : CoreState) → Ready program → Alike program s c → Knows (IsKnown program.project) (next_native program s) → SteppedAlike program (step program s) (core_step (plain_program program) c)
step-alike program s c all a known =
    rw (is-twin program s c a) (twin-step program s a.temporaries a.held_behind c.work all (sturdy program s c a) a.work known)
