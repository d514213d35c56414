-- The law of generated code: whatever arrives, and whatever stands behind the words in memory, the machine runs as the core does.
use Rattle.std.specs.Prelude.{◌≡◌, ℕ, true, List, ◌++◌, IsTrue, Some, slice_get}
use Rattle.aseba_tree.specs.Script.{Script}
use Rattle.aseba_tree.specs.GoodScript.{is_good_script}
use Rattle.aseba_tree.specs.Layout.{HasPlaces}
use Rattle.aseba_tree.specs.Code.{Name, Project, Sized}
use Rattle.aseba_tree.specs.Core.{Core}
use Rattle.aseba_tree.specs.Step.{IsKnown, native_place}
use Rattle.aseba_tree.specs.CoreStep.{CoreProgram, CoreState}
use Rattle.aseba_tree.specs.CoreRun.{core_next_native, core_system, core_run, core_moments}
use Rattle.aseba_tree.specs.Run.{acted, CallsKnown}
use Rattle.aseba_vm.specs.State.{State}
use Rattle.aseba_vm.specs.Tick.{ticked}
use Rattle.aseba_vm.specs.Words.{native_word}
use Rattle.aseba_target.specs.Node.{Layout, IsStarted}
use Rattle.aseba_target.specs.MachineRun.{is_effect, next_call, machine_system, machine_run, machine_beats}
use Rattle.aseba_codegen.specs.Agrees.{HasRoom, IsLaidOut, words_of, RunsAlike}

-- What a run of a program's code from a machine on asks: the node has room for the core and places for the variables, the machine was reset over code that
-- begins with the words, and each entry of the script is good.
pub record IsRun (program : CoreProgram) (layout : Layout) (m : State) (script : Script) : Type 0 where
  pub room : HasRoom program.project program.core
  pub laid : IsLaidOut program layout
  pub places : HasPlaces program.project program.variables program.core.cells (layout.node ++ layout.own)
  pub started : IsStarted program.project (words_of program) m
  pub good : IsTrue (is_good_script program.project program.variables script)

-- the natives that a core calls in ticks of which the machine's effects are known
abbrev pub CoreCallsKnown : CoreProgram → Layout → State → Script → ℕ → Type 0
CoreCallsKnown program layout m script n =
    CallsKnown (IsKnown program.project) (core_moments program script (machine_beats program.project layout m script n))

-- As long as each native that is called is known, the machine runs as the core does.
abbrev pub CodeRuns : Type 0
CodeRuns =
    (program : CoreProgram) (layout : Layout) (m : State) (script : Script) (n : ℕ) → IsRun program layout m script → CoreCallsKnown program layout m script n
    → RunsAlike program layout m script n

-- the states of machine and core behind so many ticks and what comes before the next one
abbrev pub machine_before : CoreProgram → Layout → State → Script → ℕ → State
machine_before program layout m script n = acted (machine_system program.project layout) script (machine_run program.project layout m script n)

abbrev pub core_before : CoreProgram → Layout → State → Script → ℕ → CoreState
core_before program layout m script n = acted (core_system program) script (core_run program script (machine_beats program.project layout m script n))

-- Where the next tick is an effect, the machine's word calls the native that the core's step calls, or neither calls one; and where that native isn't known, the
-- word is the call of its place.
pub record CallsAlike (program : CoreProgram) (m : State) (s : CoreState) : Type 0 where
  pub same : next_call program.project m ≡ core_next_native program s
  pub unknown : (name : Name) → core_next_native program s ≡ Some name → (IsKnown program.project name → ⊥) → slice_get m.code m.pc ≡ Some (native_word (native_place program.project name))

-- So it is behind so many ticks, and what comes before the next one.
abbrev pub CodeCalls : Type 0
CodeCalls =
    (program : CoreProgram) (layout : Layout) (m : State) (script : Script) (n : ℕ) → IsRun program layout m script → CoreCallsKnown program layout m script n
    → is_effect layout.cells (ticked (machine_before program layout m script n)).0 ≡ true
    → CallsAlike program (machine_before program layout m script n) (core_before program layout m script n)

-- a core with the variables that its first cells are
abbrev pub program_with : Project → Core → List Sized → CoreProgram
program_with project core variables = record { project = project; variables = variables; core = core }

-- What a run of some words asks, if they are code of a program whose node has room for it: places for the variables, a machine that was reset over code that begins
-- with the words, and a script of which each entry is good.
pub record IsRunOf (program : CoreProgram) (words : List ℕ) (layout : Layout) (m : State) (script : Script) : Type 0 where
  pub laid : IsLaidOut program layout
  pub places : HasPlaces program.project program.variables program.core.cells (layout.node ++ layout.own)
  pub started : IsStarted program.project words m
  pub good : IsTrue (is_good_script program.project program.variables script)

-- The words run as the core does, whatever arrives, as long as each native that is called is known; and where the next tick is an effect, both call the same native or none.
pub record RunAsCore (program : CoreProgram) (words : List ℕ) (layout : Layout) (m : State) (script : Script) (n : ℕ) : Type 0 where
  pub runs : RunsAlike program layout m script n
  pub calls : is_effect layout.cells (ticked (machine_before program layout m script n)).0 ≡ true
      → CallsAlike program (machine_before program layout m script n) (core_before program layout m script n)

-- So it is for all variables of the core, all scripts, and however many ticks.
abbrev pub AlwaysRunAsCore : Project → Core → List ℕ → Type 0
AlwaysRunAsCore project core words =
    (variables : List Sized) (layout : Layout) (m : State) (script : Script) (n : ℕ) → IsRunOf (program_with project core variables) words layout m script
    → CoreCallsKnown (program_with project core variables) layout m script n → RunAsCore (program_with project core variables) words layout m script n
