-- Laws of the meaning, which a wrong definition breaks.
use Rattle.std.specs.Prelude.{◌≡◌, ℕ, suc, ◌+◌, ℤ, Bool, true, false, List, [], map, replicate, Option, Some, None, IsSome}
use Rattle.aseba_tree.specs.Line.{Event, Report, division, bounds, told}
use Rattle.aseba_tree.specs.Script.{Script, actions_at}
use Rattle.aseba_tree.specs.State.{Program, State, none_held}
use Rattle.aseba_tree.specs.Step.{step, ended, is_running, next_native}
use Rattle.aseba_tree.specs.Arrival.{arrive, handler_of}
use Rattle.aseba_tree.specs.Run.{Run, all_acting, all_reports, ticking, tick_lines, all_ticking, lines_from}
use Rattle.aseba_tree.specs.Lines.{source_system}

-- what is told is a stop
abbrev pub is_stop : Option Report → Bool
is_stop (Some (division line)) = true
is_stop (Some (bounds line size i)) = true
is_stop _ = false

-- A stop stores nothing but what was held, where it isn't one inside a native, which stores up to its stop. It ends the handler and pauses.
pub record StopsStoreNothing : Type 0 where
  pub cells : (program : Program) (s : State) → is_stop (step program s).report ≡ true → next_native program s ≡ None
      → (step program s).state ≡ record (ended s) { paused = true }
  pub nothing_held : (s : State) → s.held ≡ none_held s.cells → (ended s).cells ≡ s.cells

-- a step of an idle or paused state changes and tells nothing
abbrev pub IdleStaysIdle : Type 0
IdleStaysIdle = (program : Program) (s : State) → is_running s ≡ false → step program s ≡ record { state = s; report = None }

-- A kill leaves nothing of the dead handler and applies what was held: the state after it is the one that the same event makes of the state in
-- which that handler had ended.
abbrev pub KillsLeaveNothing : Type 0
KillsLeaveNothing = (program : Program) (s : State) (event : Event) (source : ℕ) (args : List ℤ) → is_running s ≡ true → IsSome (handler_of program event)
    → (arrive program s event source args).state ≡ (arrive program (ended s) event source args).state

-- A tick without a step does and tells what the script has for it, and counts. So without a script a run stays as it is, but for its ticks, and tells nothing.
pub record FalseBeatsLeaveAll : Type 0 where
  pub one : (program : Program) (script : Script) (run : Run State) → ticking (source_system program) script run false
      ≡ record { ticks = suc run.ticks; effects = run.effects; state = all_acting (source_system program) run.state (actions_at script run.ticks) }
  pub one_tells : (program : Program) (script : Script) (run : Run State) → tick_lines (source_system program) script run false
      ≡ map (told run.ticks run.effects) (all_reports (source_system program) run.state (actions_at script run.ticks))
  pub all : (program : Program) (run : Run State) (n : ℕ)
      → all_ticking (source_system program) [] run (replicate n false) ≡ record run { ticks = run.ticks + n }
  pub all_tell : (program : Program) (run : Run State) (n : ℕ) → lines_from (source_system program) [] run (replicate n false) ≡ []
