-- A step that stops, by cases on the first task.
use Rattle.std.proofs.Common.{◌≡◌, refl, ap, sym, ◌∙◌, ℕ, zero, suc, ◌+◌, add-zero, Bool, true, false, List, [], ◌∷◌, ◌++◌, replicate}
use Rattle.std.specs.Prelude.{ℤ, Option, Some, None, Result, Ok, Err, map, zip, length, if◌then◌else◌}
use Rattle.std.proofs.Math.Nat.{suc-add, add-suc}
use Rattle.aseba_tree.specs.Code.{Name, Project, expr, items, stmt, assign, change, bump, if_then, when_do, while_do, for_do, emit, callsub, call, return}
use Rattle.aseba_tree.specs.Value.{Stop, Cells, elements, value}
use Rattle.aseba_tree.specs.State.{Program, tasks, list_whens, Task, perform, put, leave, turn, try, next, back, finish, State, none_held}
use Rattle.aseba_tree.specs.Step.{Stepped, ended, applied, applied_cells, storing, places, assigned, changed, ones, target_expr, tested, leaving, edge, emitted_cells, emitted, behind_back, returned, first_done, called, reached, arguments, argument_sizes, Argument, task_native, is_running, next_native, step}
use Rattle.aseba_tree.specs.Laws.{is_stop, IdleStaysIdle}
use Rattle.aseba_tree.specs.Run.{Run, all_ticking, lines_from}
use Rattle.aseba_tree.specs.Lines.{source_system}

-- after a stop the state is the one in which the handler ended, paused
abbrev StopsWell : State → Stepped → Type 0
StopsWell s after = is_stop after.report ≡ true → after.state ≡ record (ended s) { paused = true }

StopsWell-silent : (s : State) (after : Stepped) → is_stop after.report ≡ false → StopsWell s after
StopsWell-silent s after h e = cc

is_stop-storing : (line : ℕ) (s : State) (name : Name) (ps : List (ℕ × ℤ)) → is_stop (storing line s name ps).report ≡ false
is_stop-storing line s name [] = refl
is_stop-storing line s name (p ∷ ps) = refl

StopsWell-assigned : (line : ℕ) (s : State) (name : Name) (cells : Result (List ℤ) Stop) (places : Result (List ℕ) Stop) → StopsWell s (assigned line s name cells places)
StopsWell-assigned line s name (Err stop) places e = refl
StopsWell-assigned line s name (Ok cells) (Err stop) e = refl
StopsWell-assigned line s name (Ok cells) (Ok places) e = StopsWell-silent s (storing line s name (zip places cells)) (is_stop-storing line s name (zip places cells)) e

StopsWell-tested : (line : ℕ) (s : State) (cells : Result (List ℤ) Stop) (then_tasks else_tasks : List Task) → StopsWell s (tested line s cells then_tasks else_tasks)
StopsWell-tested line s (Err stop) then_tasks else_tasks e = refl
StopsWell-tested line s (Ok cells) then_tasks else_tasks e = cc

StopsWell-edge : (line : ℕ) (s : State) (which : ℕ) (cells : Result (List ℤ) Stop) (body : List Task) → StopsWell s (edge line s which cells body)
StopsWell-edge line s which (Err stop) body e = refl
StopsWell-edge line s which (Ok cells) body e = cc

StopsWell-emitted : (line : ℕ) (s : State) (name : Name) (cells : Result (List ℤ) Stop) → StopsWell s (emitted line s name cells)
StopsWell-emitted line s name (Err stop) e = refl
StopsWell-emitted line s name (Ok cells) e = cc

is_stop-returned : (s : State) (rest : Option (List Task)) → is_stop (returned s rest).report ≡ false
is_stop-returned s None = refl
is_stop-returned s (Some rest) = refl

StopsWell-called : (project : Project) (line : ℕ) (s : State) (name : Name) (passed : Result (List Argument) Stop) (sizes : List ℕ) → reached name passed ≡ None
    → StopsWell s (called project line s name passed sizes)
StopsWell-called project line s name (Err stop) sizes h e = refl
StopsWell-called project line s name (Ok passed) sizes h e = cc

StopsWell-first_done : (program : Program) (s : State) (work : List Task) → task_native program s.cells work ≡ None → StopsWell s (first_done program s work)
StopsWell-first_done program s [] h e = cc
StopsWell-first_done program s (perform before (stmt line place (assign target v)) ∷ rest) h e =
    StopsWell-assigned line (record s { work = rest }) target.name (value program.project.consts s.cells v) (places program.project.consts s.cells target) e
StopsWell-first_done program s (perform before (stmt line place (change target op v)) ∷ rest) h e =
    StopsWell-assigned line (record s { work = rest }) target.name (value program.project.consts s.cells (changed target op place v)) (places program.project.consts s.cells target) e
StopsWell-first_done program s (perform before (stmt line place (bump target op)) ∷ rest) h e =
    StopsWell-assigned line (record s { work = rest }) target.name
    (value program.project.consts s.cells (changed target op place (expr place place (items (ones place (length (elements program.project.consts s.cells (target_expr target))))))))
    (places program.project.consts s.cells target) e
StopsWell-first_done program s (perform before (stmt line place (if_then c body other)) ∷ rest) h e =
    StopsWell-tested line (record s { work = rest }) (value program.project.consts s.cells c) (tasks before body ++ leaving line other) (tasks (before + list_whens body) other) e
StopsWell-first_done program s (perform before (stmt line place (when_do c body)) ∷ rest) h e =
    StopsWell-edge line (record s { work = rest }) before (value program.project.consts s.cells c) (tasks (suc before) body) e
StopsWell-first_done program s (perform before (stmt line place (while_do c body)) ∷ rest) h e =
    StopsWell-tested line (record s { work = rest }) (value program.project.consts s.cells c) (tasks before body ++ turn (perform before (stmt line place (while_do c body))) ∷ []) [] e
StopsWell-first_done program s (perform before (stmt line place (for_do head body)) ∷ rest) h e = cc
StopsWell-first_done program s (perform before (stmt line place (emit name v)) ∷ rest) h e =
    StopsWell-emitted line (record s { work = rest }) name (emitted_cells program.project.consts s.cells v) e
StopsWell-first_done program s (perform before (stmt line place (callsub name)) ∷ rest) h e = cc
StopsWell-first_done program s (perform before (stmt line place (call name es)) ∷ rest) h e =
    StopsWell-called program.project line (record s { work = rest }) name (arguments program.project.consts s.cells es) (argument_sizes program.project.consts s.cells es) h e
StopsWell-first_done program s (perform before (stmt line place return) ∷ rest) h e =
    StopsWell-silent (record s { work = rest }) (returned (record s { work = rest }) (behind_back rest)) (is_stop-returned (record s { work = rest }) (behind_back rest)) e
StopsWell-first_done program s (put line name place v ∷ rest) h e = cc
StopsWell-first_done program s (leave line ∷ rest) h e = cc
StopsWell-first_done program s (turn loop ∷ rest) h e = cc
StopsWell-first_done program s (try line before head body ∷ rest) h e = cc
StopsWell-first_done program s (next line before head body ∷ rest) h e = cc
StopsWell-first_done program s (back line ∷ rest) h e = cc
StopsWell-first_done program s (finish line ∷ rest) h e = cc

StopsWell-running : (program : Program) (s : State) (b : Bool) → (if b then task_native program s.cells s.work else None) ≡ None
    → StopsWell s (if b then first_done program s s.work else record { state = s; report = None })
StopsWell-running program s true h e = StopsWell-first_done program s s.work h e
StopsWell-running program s false h e = cc

pub StopsWell-step : (program : Program) (s : State) → is_stop (step program s).report ≡ true → next_native program s ≡ None → (step program s).state ≡ record (ended s) { paused = true }
unfolding step
StopsWell-step program s e h = StopsWell-running program s (is_running s) h e

applied_cells-none : (vs : List ℤ) → applied_cells vs (map (λ v. None) vs) ≡ vs
applied_cells-none [] = refl
applied_cells-none (v ∷ vs) = ap (λ more. v ∷ more) (applied_cells-none vs)

-- where nothing is held, nothing is applied
pub applied-none_held : (cells : Cells) → applied cells (none_held cells) ≡ cells
applied-none_held [] = refl
applied-none_held (v ∷ vs) = λ i. (v.0, applied_cells-none v.1 i) ∷ applied-none_held vs i

pub step-idle : IdleStaysIdle
unfolding step
step-idle program s h = rw h refl

pub all_ticking-false : (program : Program) (run : Run State) (n : ℕ) → all_ticking (source_system program) [] run (replicate n false) ≡ record run { ticks = run.ticks + n }
all_ticking-false program run zero = λ i. record run { ticks = sym (add-zero run.ticks) i }
all_ticking-false program run (suc n) = all_ticking-false program (record run { ticks = suc run.ticks }) n ∙ (λ i. record run { ticks = (suc-add run.ticks n ∙ sym (add-suc run.ticks n)) i })

pub lines-false : (program : Program) (run : Run State) (n : ℕ) → lines_from (source_system program) [] run (replicate n false) ≡ []
lines-false program run zero = refl
lines-false program run (suc n) = lines-false program (record run { ticks = suc run.ticks }) n
