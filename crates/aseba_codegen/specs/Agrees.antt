-- How a machine that runs the code of a core stands to the core.
use Rattle.std.specs.Prelude.{◌≡◌, ℕ, ◌<◌, ◌≤◌, true, List, map, length, take, sum_by, All, slice_index}
use Rattle.aseba_tree.specs.Code.{Project}
use Rattle.aseba_tree.specs.Line.{line_by}
use Rattle.aseba_tree.specs.Script.{Script}
use Rattle.aseba_tree.specs.Core.{Core}
use Rattle.aseba_tree.specs.CoreNumbers.{core_words, core_depth, core_weight}
use Rattle.aseba_tree.specs.CoreShape.{IsCore}
use Rattle.aseba_tree.specs.CoreStep.{CoreProgram, CoreState, core_next_line}
use Rattle.aseba_tree.specs.CoreRun.{own_places, core_run, core_lines, core_moments}
use Rattle.aseba_tree.specs.Run.{Paced, HasNoError}
use Rattle.aseba_vm.specs.State.{State}
use Rattle.aseba_target.specs.Node.{Layout}
use Rattle.aseba_target.specs.MachineRun.{machine_run, machine_lines, machine_moments, machine_beats}
use Rattle.aseba_codegen.specs.declared.coded.Coded.{Coded}
use Rattle.aseba_codegen.specs.Places.{edge_places, HasBits}
use Rattle.aseba_codegen.specs.Words.{core_code, code_words}

-- What is asked of projects and cores

-- a node as its numbers may be
pub record IsNode (project : Project) : Type 0 where
  pub code : project.node.code ≤ 32767
  pub cells : project.node.cells ≤ 4096
  pub id : project.id < 65536
  pub events : length project.events ≤ 4096
  pub natives : length project.node.natives ≤ 4096
  pub sizes : All (λ v. 1 ≤ v.size) project.node.variables

-- A core whose own words and stack cells its node has.
pub record HasRoom (project : Project) (core : Core) : Type 0 where
  pub node : IsNode project
  pub shape : IsCore project core
  pub words : core_words project core ≤ project.node.code
  pub deep : core_depth core ≤ project.node.stack

-- What is seen of both

-- the line of a place in the code
abbrev pub line_at : List Coded → ℕ → ℕ
line_at code at = slice_index (map (λ c. c.line) code) at

-- The cells of variables, what is held for them and the flags are the same; each `when` bit stands at its place; and the counter stands on the line of the effect that is next.
pub record Seen (code : List Coded) (places : List ℕ) (cells : ℕ) (m : State) (s : CoreState) : Type 0 where
  pub cells_alike : take cells m.cells ≡ take cells s.cells
  pub bits_alike : HasBits code m.code places s.bits
  pub held_alike : take cells m.held ≡ take cells s.held
  pub active_alike : m.active ≡ s.active
  pub paused_alike : m.paused ≡ s.paused
  pub line_alike : s.active ≡ true → line_at code m.pc ≡ core_next_line s

-- the words of a program's core
abbrev pub words_of : CoreProgram → List ℕ
words_of program = code_words program.project program.core

-- A layout of a core's variables: the cells are those of its variables together, and the same variables are shown.
pub record IsLaidOut (program : CoreProgram) (layout : Layout) : Type 0 where
  pub cells : layout.cells ≡ program.core.cells
  pub together : sum_by (λ v. v.size) program.variables ≡ program.core.cells
  pub own : layout.own ≡ own_places program

-- After some ticks the machine stands at the core's state after as many steps as there were effects. Both told the same, with a place of the code where the
-- core has a line, and show the same at each tick; the effects kept the core's pace, and no tick was a node error.
pub record RunsAlike (program : CoreProgram) (layout : Layout) (m : State) (script : Script) (n : ℕ) : Type 0 where
  pub ticks : (machine_run program.project layout m script n).ticks ≡ (core_run program script (machine_beats program.project layout m script n)).ticks
  pub effects : (machine_run program.project layout m script n).effects ≡ (core_run program script (machine_beats program.project layout m script n)).effects
  pub lines : map (line_by (line_at (core_code program.project program.core))) (machine_lines program.project layout m script n)
      ≡ core_lines program script (machine_beats program.project layout m script n)
  pub same_moments : machine_moments program.project layout m script n ≡ core_moments program script (machine_beats program.project layout m script n)
  pub seen : Seen (core_code program.project program.core) (edge_places program.project program.core) program.core.cells (machine_run program.project layout m script n).state
      (core_run program script (machine_beats program.project layout m script n)).state
  pub paced : Paced (core_weight program.core) (core_moments program script (machine_beats program.project layout m script n))
  pub no_error : HasNoError (machine_moments program.project layout m script n)
