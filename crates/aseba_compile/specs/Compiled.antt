-- What it is to be compiled: words, each with a line of the source, that run as the source means, whatever arrives and whatever stands behind them in memory.
use Rattle.std.specs.Prelude.{◌≡◌, ℕ, ◌<◌, ◌≤◌, nat_lt, Bool, true, false, ◌&&◌, IsTrue, List, [], ◌∷◌, ◌++◌, length, map, replicate, take, slice_get, slice_index, Some}
use Rattle.std.specs.List.{list_all}
use Rattle.aseba_tree.specs.Code.{Name}
use Rattle.aseba_tree.specs.GoodScript.{is_good_script}
use Rattle.aseba_tree.specs.Layout.{variables, cells_of_variables}
use Rattle.aseba_tree.specs.Line.{line_by}
use Rattle.aseba_tree.specs.Lines.{source_system, source_run, source_lines, source_moments, SourceCallsKnown}
use Rattle.aseba_tree.specs.Numbers.{source_words, source_weight}
use Rattle.aseba_tree.specs.Run.{acted, Paced, HasNoError}
use Rattle.aseba_tree.specs.Script.{Script}
use Rattle.aseba_tree.specs.State as tree
use Rattle.aseba_tree.specs.Step.{next_line, next_native, native_place, IsKnown}
use Rattle.aseba_tree.specs.Value.{Named}
use Rattle.aseba_vm.specs.State as machine
use Rattle.aseba_vm.specs.declared.opcode.Opcode.{Opcode}
use Rattle.aseba_vm.specs.declared.opcode.Opcode.TheVariants.{Branch}
use Rattle.aseba_vm.specs.Instructions.{bits_at, opcode_of, is_when}
use Rattle.aseba_vm.specs.Tick.{ticked}
use Rattle.aseba_vm.specs.Words.{native_word}
use Rattle.aseba_target.specs.Node.{layout_of, IsStarted}
use Rattle.aseba_target.specs.MachineRun.{is_effect, next_call, machine_system, machine_run, machine_lines, machine_moments, machine_beats}

-- Runs

-- A run of words: on a machine of the node that was reset over code which begins with them, whatever stands behind them, and with a script of good entries. These
-- may be events by number that the project doesn't have.
pub record IsRun (program : tree.Program) (words : List ℕ) (m : machine.State) (script : Script) : Type 0 where
  pub started : IsStarted program.project words m
  pub good : IsTrue (is_good_script program.project (variables program) script)

-- which of so many ticks of a machine are effects
abbrev pub effects : tree.Program → machine.State → Script → ℕ → List Bool
effects program m script n = machine_beats program.project (layout_of program) m script n

-- The points of one run

-- 1. The pace: effects are done only where a handler runs, and of any so many ticks as is the source's weight, in which one handler runs, at least one is an effect.
abbrev pub KeepsPace : tree.Program → machine.State → Script → ℕ → Type 0
KeepsPace program m script n = Paced (source_weight program) (source_moments program script (effects program m script n))

-- 2. The lines: the machine tells what the source tells that does a step at each of these effects; but where the source has a line, the machine has a place of the
-- code, and `lines` has the line for it.
abbrev pub TellsLines : tree.Program → List ℕ → machine.State → Script → ℕ → Type 0
TellsLines program lines m script n =
    map (line_by (slice_index lines)) (machine_lines program.project (layout_of program) m script n) ≡ source_lines program script (effects program m script n)

-- what all variables have, one behind the other
abbrev pub all_cells_of : {A : Type 0} → Named A → List A
all_cells_of [] = []
all_cells_of (v ∷ vs) = v.1 ++ all_cells_of vs

-- 3. The state: the cells of the variables, what is held for them, the flags and the bits of the `when`s are those of the source's state, and where a handler is
-- active, the machine's counter is on the line of the effect that is next. The bits stand at `places` of the machine's code, in the order of the text.
pub record StandsAt (program : tree.Program) (lines places : List ℕ) (m : machine.State) (s : tree.State) : Type 0 where
  pub cells : take (cells_of_variables program) m.cells ≡ all_cells_of s.cells
  pub held : take (cells_of_variables program) m.held ≡ all_cells_of s.held
  pub active : m.active ≡ s.active
  pub paused : m.paused ≡ s.paused
  pub bits : bits_at m.code places ≡ s.bits
  pub line : s.active ≡ true → slice_index lines m.pc ≡ next_line s

-- 4. No tick is an error of the node.
abbrev pub HasNoNodeError : tree.Program → machine.State → Script → ℕ → Type 0
HasNoNodeError program m script n = HasNoError (machine_moments program.project (layout_of program) m script n)

-- These four of so many ticks of a run; and both show the same at each tick: whether a handler began, whether one ran, and which native was called.
pub record RunsAsMeant (program : tree.Program) (lines places : List ℕ) (m : machine.State) (script : Script) (n : ℕ) : Type 0 where
  pub paced : KeepsPace program m script n
  pub lines_same : TellsLines program lines m script n
  pub stands : StandsAt program lines places (machine_run program.project (layout_of program) m script n).state
      (source_run program script (effects program m script n)).state
  pub no_error : HasNoNodeError program m script n
  pub same_moments : machine_moments program.project (layout_of program) m script n ≡ source_moments program script (effects program m script n)

-- Sizes and places

-- 5. The words are no more than the node's code has, and no more than those of the source's plain code; each has a line.
pub record HasFewWords (program : tree.Program) (words lines : List ℕ) : Type 0 where
  pub fits : length words ≤ program.project.node.code
  pub few : length words ≤ source_words program
  pub lined : length lines ≡ length words

-- the word at a place is the branch of a `when`
abbrev pub is_branch : Opcode → Bool
is_branch Branch = true
is_branch _ = false

abbrev pub is_when_at : List ℕ → ℕ → Bool
is_when_at words at = nat_lt at (length words) && (is_branch (opcode_of (slice_index words at)) && is_when (slice_index words at))

-- Natives

-- machine and source behind so many ticks of a run, and what comes before the next one
abbrev pub machine_before : tree.Program → machine.State → Script → ℕ → machine.State
machine_before program m script n =
    acted (machine_system program.project (layout_of program)) script (machine_run program.project (layout_of program) m script n)

abbrev pub source_before : tree.Program → machine.State → Script → ℕ → tree.State
source_before program m script n = acted (source_system program) script (source_run program script (effects program m script n))

-- The machine's word calls the native that the source's effect calls, or neither calls one; and where that native isn't known, the word is the call of its place.
pub record CallsAsMeant (program : tree.Program) (m : machine.State) (s : tree.State) : Type 0 where
  pub same : next_call program.project m ≡ next_native program s
  pub unknown : (name : Name) → next_native program s ≡ Some name → (IsKnown program.project name → ⊥)
      → slice_get m.code m.pc ≡ Some (native_word (native_place program.project name))

-- All of it

-- The words and their lines are code of the source. 6. This is so of every run of them, of any number of ticks, as long as each native that is called is known;
-- and where the next tick is an effect, it calls what the source calls. The bits of the `when`s have their places once for all, each at a branch of a `when`. The
-- event table has the lines 0; its length is the first word.
pub record Compiled (program : tree.Program) (words lines : List ℕ) : Type 0 where
  pub sizes : HasFewWords program words lines
  pub table : take (slice_index words 0) lines ≡ replicate (slice_index words 0) 0
  pub places : List ℕ
  pub whens : list_all (is_when_at words) places ≡ true
  pub runs : (m : machine.State) (script : Script) (n : ℕ) → IsRun program words m script → SourceCallsKnown program script (effects program m script n)
      → RunsAsMeant program lines places m script n
  pub calls : (m : machine.State) (script : Script) (n : ℕ) → IsRun program words m script → SourceCallsKnown program script (effects program m script n)
      → is_effect (cells_of_variables program) (ticked (machine_before program m script n)).0 ≡ true
      → CallsAsMeant program (machine_before program m script n) (source_before program m script n)
