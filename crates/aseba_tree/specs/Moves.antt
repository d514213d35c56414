-- Runs by moves: steps, and between them what comes from outside, in any order.
use Rattle.std.specs.Prelude.{List, [], ◌∷◌, ◌++◌, option_to_list}
use Rattle.aseba_tree.specs.Line.{Report, was_set}
use Rattle.aseba_tree.specs.Run.{meeting_reports}
use Rattle.aseba_tree.specs.Script.{Action, arrives, sets}
use Rattle.aseba_tree.specs.State.{Program, State}
use Rattle.aseba_tree.specs.Step.{step}
use Rattle.aseba_tree.specs.Arrival.{write, arrive}
use Rattle.aseba_tree.specs.CoreStep.{CoreProgram, CoreState, core_step, core_write, core_arrive}

pub data Move : Type 0 where
  steps : Move
  acts : Action → Move

-- a state, and all that was told up to it
pub record Course : Type 0 where
  pub state : State
  pub reports : List Report

pub record CoreCourse : Type 0 where
  pub state : CoreState
  pub reports : List Report

abbrev pub moved : Program → Course → Move → Course
moved program c steps = let after = step program c.state in record { state = after.state; reports = c.reports ++ option_to_list after.report }
moved program c (acts (arrives event source args)) =
    let after = arrive program c.state event source args in record { state = after.state; reports = c.reports ++ meeting_reports event after.meeting }
moved program c (acts (sets name first values)) = record { state = write c.state name first values; reports = c.reports ++ was_set name ∷ [] }

abbrev pub all_moved : Program → Course → List Move → Course
all_moved program c [] = c
all_moved program c (move ∷ moves) = all_moved program (moved program c move) moves

abbrev pub core_moved : CoreProgram → CoreCourse → Move → CoreCourse
core_moved program c steps = let after = core_step program c.state in record { state = after.state; reports = c.reports ++ option_to_list after.report }
core_moved program c (acts (arrives event source args)) =
    let after = core_arrive program c.state event source args in record { state = after.state; reports = c.reports ++ meeting_reports event after.meeting }
core_moved program c (acts (sets name first values)) = record { state = core_write program c.state name first values; reports = c.reports ++ was_set name ∷ [] }

abbrev pub core_all_moved : CoreProgram → CoreCourse → List Move → CoreCourse
core_all_moved program c [] = c
core_all_moved program c (move ∷ moves) = core_all_moved program (core_moved program c move) moves
