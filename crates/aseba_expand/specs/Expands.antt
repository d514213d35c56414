-- When a core is an expansion of a source: it does the same, whatever comes from outside and whenever, needs no more, and can be turned into code.
use Rattle.std.specs.Prelude.{◌≡◌, ◌+◌, ◌≤◌, true, Bool, IsTrue, List, [], ◌∷◌, ◌++◌, length, take, All}
use Rattle.std.specs.List.{list_all}
use Rattle.aseba_tree.specs.Code.{Project}
use Rattle.aseba_tree.specs.Value.{Named, is_cell}
use Rattle.aseba_tree.specs.State.{Program, State}
use Rattle.aseba_tree.specs.Step.{next_line, next_native}
use Rattle.aseba_tree.specs.Script.{Script}
use Rattle.aseba_tree.specs.GoodScript.{is_good_script}
use Rattle.aseba_tree.specs.Run.{acted}
use Rattle.aseba_tree.specs.Lines.{source_system, source_run, source_lines, source_moments, SourceCallsKnown}
use Rattle.aseba_tree.specs.Layout.{variables, cells_of_variables}
use Rattle.aseba_tree.specs.Soundness.{Sound}
use Rattle.aseba_tree.specs.Shape.{IsTree}
use Rattle.aseba_tree.specs.Core.{Core}
use Rattle.aseba_tree.specs.CoreStep.{CoreState, core_next_line}
use Rattle.aseba_tree.specs.CoreRun.{core_system, core_run, core_lines, core_moments, core_next_native}
use Rattle.aseba_tree.specs.CoreNumbers.{core_weight}
use Rattle.aseba_tree.specs.CoreShape.{IsCore}
use Rattle.aseba_tree.specs.Numbers.{source_words, source_depth, source_room, source_weight}
use Rattle.aseba_expand.specs.Literals.{HasCellNumbers}
use Rattle.aseba_expand.specs.Plain.{core_program, plain_core}

-- what all variables have, one behind the other
abbrev pub all_cells_of : {A : Type 0} → Named A → List A
all_cells_of [] = []
all_cells_of (v ∷ vs) = v.1 ++ all_cells_of vs

-- A core's state shows what the source's does: the cells of the variables and what is held for them, the bits of the `when`s, the flags, and where a handler is
-- active, the line of the effect that is next.
pub record ShowsSame (program : Program) (c : CoreState) (s : State) : Type 0 where
  pub cells : take (cells_of_variables program) c.cells ≡ all_cells_of s.cells
  pub held : take (cells_of_variables program) c.held ≡ all_cells_of s.held
  pub bits : c.bits ≡ s.bits
  pub active : c.active ≡ s.active
  pub paused : c.paused ≡ s.paused
  pub line : s.active ≡ true → core_next_line c ≡ next_line s

-- A core and its source have told the same, have shown the same at each tick, show the same now, and reach the same native's call, if they reach one.
pub record RunsSame (program : Program) (core : Core) (script : Script) (beats : List Bool) : Type 0 where
  pub lines : core_lines (core_program program core) script beats ≡ source_lines program script beats
  pub same_moments : core_moments (core_program program core) script beats ≡ source_moments program script beats
  pub shows : ShowsSame program (core_run (core_program program core) script beats).state (source_run program script beats).state
  pub calls : core_next_native (core_program program core) (acted (core_system (core_program program core)) script (core_run (core_program program core) script beats))
      ≡ next_native program (acted (source_system program) script (source_run program script beats))

-- A core does what the source does, for all good events and writes between its effects, as long as only known natives are called. It needs no more temporaries
-- and is no heavier; the words and stack cells that go along are the source's, and it can be turned into code for the node.
pub record IsExpansion (program : Program) (core : Core) : Type 0 where
  pub runs : (script : Script) (beats : List Bool) → IsTrue (is_good_script program.project (variables program) script) → SourceCallsKnown program script beats
      → RunsSame program core script beats
  pub cells : core.cells ≡ cells_of_variables program
  pub room : core.room ≤ source_room program
  pub size : core.size ≡ source_words program
  pub depth : core.depth ≡ source_depth program
  pub weight : core_weight core ≤ source_weight program
  pub shape : IsCore program.project core

-- What a project promises: node variables have cells, its events are few enough for their numbers to differ and to be none that the node itself uses, each of them has few
-- cells, and constants are cells.
pub record IsProject (project : Project) : Type 0 where
  pub sizes : All (λ v. 1 ≤ v.size) project.node.variables
  pub few : length project.events + length project.node.locals ≤ 0xFFFE
  pub events : All (λ e. e.size ≤ 256) project.events
  pub consts : IsTrue (list_all (λ c. is_cell c.value) project.consts)

-- The plain form of each sound source whose numbers are cells, and that its node has cells for, is an expansion of it.
abbrev pub PlainExpands : Type 0
PlainExpands =
    (program : Program) → IsProject program.project → IsTree program.source → HasCellNumbers program.source → Sound program
    → cells_of_variables program + source_room program ≤ program.project.node.cells → IsExpansion program (plain_core program)
