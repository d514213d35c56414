-- The runs of a node's machine. Where a source has the line of an effect, the machine has its counter.
use Rattle.std.specs.Prelude.{ℕ, ◌+◌, Bool, true, false, not, ◌&&◌, nat_lt, if◌then◌else◌, List, ◌++◌, take, drop, slice_get, Option, None, Some, ℤ}
use Rattle.aseba_tree.specs.Code.{Name, Project}
use Rattle.aseba_tree.specs.Line.{Event, Report, sent, division, bounds, Line}
use Rattle.aseba_tree.specs.Script.{Script}
use Rattle.aseba_tree.specs.Layout.{Placed, placed_named, cells_at}
use Rattle.aseba_tree.specs.Events.{event_number, event_of}
use Rattle.aseba_tree.specs.NativeName.{native_named}
use Rattle.aseba_tree.specs.Run.{Meeting, unheard, refused, kills, begins, Met, Ticked, System, Run, Moment, run_of, lines_of, moments, beats_of, ticks}
use Rattle.aseba_vm.specs.declared.opcode.Opcode.{Opcode}
use Rattle.aseba_vm.specs.declared.opcode.Opcode.TheVariants.{NativeCall}
use Rattle.aseba_vm.specs.declared.tick.Tick.{Tick}
use Rattle.aseba_vm.specs.declared.tick.Tick.TheVariants.{Effect, Stored, Sent}
use Rattle.aseba_vm.specs.declared.tick.Notice.{Notice}
use Rattle.aseba_vm.specs.declared.tick.Notice.TheVariants.{Emit, Bounds, Division, NodeError}
use Rattle.aseba_vm.specs.declared.arrival.Arrival.{Arrival}
use Rattle.aseba_vm.specs.declared.arrival.Arrival.TheVariants.{NoHandler, Dropped, Killed, Started}
use Rattle.aseba_vm.specs.State.{State}
use Rattle.aseba_vm.specs.Instructions.{opcode_of, operand_of}
use Rattle.aseba_vm.specs.Tick.{ticked}
use Rattle.aseba_vm.specs.Arrival.{arrived}
use Rattle.aseba_vm.specs.Control.{hold_written}
use Rattle.aseba_target.specs.Node.{Layout}

-- Events and writes

-- what an event met
abbrev pub meeting_of : Arrival → Meeting
meeting_of NoHandler = unheard
meeting_of Dropped = refused
meeting_of (Killed pc) = kills pc
meeting_of Started = begins

-- an event that has no number here finds no handler
abbrev pub arriving : Option ℕ → (source : ℕ) → List ℤ → State → Met State
arriving None source args m = record { state = m; meeting = unheard }
arriving (Some number) source args m = let after = arrived number source args m in record { state = after.1; meeting = meeting_of after.0 }

-- values for a variable's cells from one on; nothing where there is no such variable
abbrev pub writing : Option Placed → ℕ → List ℤ → State → State
writing None first values m = m
writing (Some v) first values m = (hold_written (v.start + first) values m).1

-- Ticks

-- a tick that is an effect: a store into a temporary, behind the variables' cells, is none
abbrev pub is_effect : ℕ → Tick → Bool
is_effect cells (Stored address) = nat_lt address cells
is_effect cells Effect = true
is_effect cells (Sent notice) = true
is_effect cells _ = false

-- a tick that is a node error
abbrev pub is_error_notice : Notice → Bool
is_error_notice (NodeError pc fault) = true
is_error_notice _ = false

abbrev pub is_error : Tick → Bool
is_error (Sent notice) = is_error_notice notice
is_error _ = false

-- what a notice tells; a node error has no line
abbrev pub notice_report : Project → List ℤ → Notice → Option Report
notice_report project cells (Emit event start len) = Some (sent (event_of project event) (take len (drop start cells)))
notice_report project cells (Bounds pc size index) = Some (bounds pc size index)
notice_report project cells (Division pc) = Some (division pc)
notice_report project cells (NodeError pc fault) = None

-- what a tick tells, with the cells behind it
abbrev pub tick_report : Project → List ℤ → Tick → Option Report
tick_report project cells (Sent notice) = notice_report project cells notice
tick_report project cells _ = None

-- one tick of the machine, where the variables have so many cells, whatever it is told
abbrev pub machine_tick : Project → (cells : ℕ) → Bool → State → Ticked State
machine_tick project cells beat m =
    let after = ticked m in
    record { state = after.1; counts = is_effect cells after.0; fails = is_error after.0; report = tick_report project (after.1).cells after.0 }

-- the native that a word calls
abbrev pub opcode_call : Project → ℕ → Opcode → Option Name
opcode_call project id NativeCall = Some (native_named project id)
opcode_call project id _ = None

abbrev pub word_call : Project → Option ℕ → Option Name
word_call project None = None
word_call project (Some word) = opcode_call project (operand_of word) (opcode_of word)

-- a handler is active and not paused
abbrev pub is_running : State → Bool
is_running m = m.active && not m.paused

-- the native that the next tick calls
abbrev pub next_call : Project → State → Option Name
next_call project m = if is_running m then word_call project (slice_get m.code m.pc) else None

-- Runs

-- a node's machine as a system that runs
abbrev pub machine_system : Project → Layout → System State
machine_system project layout = record {
  tick = machine_tick project layout.cells;
  arrive = λ event source args m. arriving (event_number project event) source args m;
  write = λ name first values m. writing (placed_named (layout.node ++ layout.own) name) first values m;
  is_running = is_running;
  calls = next_call project;
  shown = λ m. cells_at m.cells layout.own;
}

-- So many ticks from a machine on: the run, its lines, what its ticks show, and which were effects.
abbrev pub machine_run : Project → Layout → State → Script → ℕ → Run State
machine_run project layout m script n = run_of (machine_system project layout) m script (ticks n)

abbrev pub machine_lines : Project → Layout → State → Script → ℕ → List Line
machine_lines project layout m script n = lines_of (machine_system project layout) m script (ticks n)

abbrev pub machine_moments : Project → Layout → State → Script → ℕ → List Moment
machine_moments project layout m script n = moments (machine_system project layout) m script (ticks n)

abbrev pub machine_beats : Project → Layout → State → Script → ℕ → List Bool
machine_beats project layout m script n = beats_of (machine_system project layout) m script (ticks n)
