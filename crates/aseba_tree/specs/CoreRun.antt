-- The run of a core: as a source it does a step at each tick that is told to have one.
use Rattle.std.specs.Prelude.{ℕ, ℤ, Bool, true, false, List, [], ◌∷◌, length, drop, slice_set, if◌then◌else◌, Option, None, Some, Ok, Err}
use Rattle.aseba_tree.specs.Code.{Name, Project}
use Rattle.aseba_tree.specs.Line.{Line}
use Rattle.aseba_tree.specs.Script.{Script}
use Rattle.aseba_tree.specs.NativeName.{native_named}
use Rattle.aseba_tree.specs.Value.{Element}
use Rattle.aseba_tree.specs.CoreExpr.{CoreExpr, core_value}
use Rattle.aseba_tree.specs.Core.{core_stmt, use_native}
use Rattle.aseba_tree.specs.CoreStep.{CoreTask, perform_core, CoreState, CoreProgram, temporary, core_is_running, core_step, core_loaded, core_write, core_arrive}
use Rattle.aseba_tree.specs.Layout.{Placed, placed_from, cells_at}
use Rattle.aseba_tree.specs.Run.{Ticked, System, Run, Moment, run_of, lines_of, moments}

-- The native whose call the first task reaches, behind stores into temporaries. Where one of these stops, no call is reached.
abbrev pub task_call : Project → CoreTask → Option Name
task_call project (perform_core before (core_stmt line (use_native id values))) = Some (native_named project id)
task_call project _ = None

abbrev pub call_behind : Element → (address : ℕ) → List ℤ → (List ℤ → Option Name) → Option Name
call_behind (Err stop) address cells go_on = None
call_behind (Ok v) address cells go_on = go_on (slice_set cells address v)

abbrev pub first_call : Project → CoreTask → List ℤ → Option (ℕ × ℕ × CoreExpr) → (List ℤ → Option Name) → Option Name
first_call project task cells None go_on = task_call project task
first_call project task cells (Some t) go_on = call_behind (core_value cells t.2) t.1 cells go_on

abbrev pub work_call : CoreProgram → List CoreTask → List ℤ → Option Name
work_call program [] cells = None
work_call program (task ∷ rest) cells = first_call program.project task cells (temporary program.core.cells task) (λ after. work_call program rest after)

-- the native whose call the next step reaches
abbrev pub core_next_native : CoreProgram → CoreState → Option Name
core_next_native program s = if core_is_running s then work_call program s.work s.cells else None

-- a tick: a step, which is an effect, or nothing
abbrev pub core_tick : CoreProgram → Bool → CoreState → Ticked CoreState
core_tick program true s = let after = core_step program s in record { state = after.state; counts = true; fails = false; report = after.report }
core_tick program false s = record { state = s; counts = false; fails = false; report = None }

-- the variables behind those of the node, with their places
abbrev pub own_places : CoreProgram → List Placed
own_places program = drop (length program.project.node.variables) (placed_from 0 program.variables)

-- a core as a system that runs
abbrev pub core_system : CoreProgram → System CoreState
core_system program = record {
  tick = core_tick program;
  arrive = λ event source args s. core_arrive program s event source args;
  write = λ name first values s. core_write program s name first values;
  is_running = core_is_running;
  calls = core_next_native program;
  shown = λ s. cells_at s.cells (own_places program);
}

-- The run of a core from its loading on, its lines and what its ticks show, with a script and the ticks that have a step.
abbrev pub core_run : CoreProgram → Script → List Bool → Run CoreState
core_run program script beats = run_of (core_system program) (core_loaded program) script beats

abbrev pub core_lines : CoreProgram → Script → List Bool → List Line
core_lines program script beats = lines_of (core_system program) (core_loaded program) script beats

abbrev pub core_moments : CoreProgram → Script → List Bool → List Moment
core_moments program script beats = moments (core_system program) (core_loaded program) script beats
