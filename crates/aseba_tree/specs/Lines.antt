-- The run of a source: it does a step at each tick that is told to have one.
use Rattle.std.specs.Prelude.{ℤ, Bool, true, false, List, map, None}
use Rattle.aseba_tree.specs.Code.{Name}
use Rattle.aseba_tree.specs.Line.{Line}
use Rattle.aseba_tree.specs.Script.{Script}
use Rattle.aseba_tree.specs.Value.{variable_cells}
use Rattle.aseba_tree.specs.State.{Program, State, loaded, declared}
use Rattle.aseba_tree.specs.Step.{step, is_running, next_native, IsKnown}
use Rattle.aseba_tree.specs.Arrival.{write, arrive}
use Rattle.aseba_tree.specs.Run.{Ticked, System, Run, Moment, run_of, lines_of, moments, CallsKnown}

-- a tick: a step, which is an effect, or nothing
abbrev pub source_tick : Program → Bool → State → Ticked State
source_tick program true s = let after = step program s in record { state = after.state; counts = true; fails = false; report = after.report }
source_tick program false s = record { state = s; counts = false; fails = false; report = None }

-- the declared variables with their cells
abbrev pub declared_cells : Program → State → List (Name × List ℤ)
declared_cells program s = map (λ v. (v.name, variable_cells s.cells v.name)) (declared program)

-- a source as a system that runs
abbrev pub source_system : Program → System State
source_system program = record {
  tick = source_tick program;
  arrive = λ event source args s. arrive program s event source args;
  write = λ name first values s. write s name first values;
  is_running = is_running;
  calls = next_native program;
  shown = declared_cells program;
}

-- The run of a source from its loading on, its lines and what its ticks show, with a script and the ticks that have a step.
abbrev pub source_run : Program → Script → List Bool → Run State
source_run program script beats = run_of (source_system program) (loaded program) script beats

abbrev pub source_lines : Program → Script → List Bool → List Line
source_lines program script beats = lines_of (source_system program) (loaded program) script beats

abbrev pub source_moments : Program → Script → List Bool → List Moment
source_moments program script beats = moments (source_system program) (loaded program) script beats

-- each native that the run calls is known
abbrev pub SourceCallsKnown : Program → Script → List Bool → Type 0
SourceCallsKnown program script beats = CallsKnown (IsKnown program.project) (source_moments program script beats)
