-- The worked cores, computed.
use Rattle.std.proofs.Common.{refl, true≢false, sym, arith, Bool, true, false, ◌≡◌}
use Rattle.aseba_tree.specs.CoreShape.{IsCore}
use Rattle.std.specs.Int.{int_wrap}
use Rattle.aseba_tree.specs.CoreStep.{core_step, core_loaded}
use Rattle.aseba_vm.specs.Tick.{ticked}
use Rattle.aseba_vm.specs.Arrival.{arrived}
use Rattle.aseba_vm.specs.Control.{hold_written}
use Rattle.aseba_vm.specs.Loaded.{made, loaded, reset_state}
use Rattle.aseba_target.specs.Node.{started}
use Rattle.aseba_codegen.specs.WorkedCode.{worked_project, branches, BranchesWorked, loops, LoopsWorked, calls, CallsWorked, dividing, DividingWorked, far, FarWorked}

branches-core : IsCore (worked_project 64) branches
branches-core = record { has_size = omega arith; has_depth = omega arith; has_room = omega arith; is_good = refl; numbers = refl; lined = refl; handles_events = refl; ends = refl; is_near = λ large. absurd (true≢false (sym large)) }

loops-core : IsCore (worked_project 64) loops
loops-core = record { has_size = omega arith; has_depth = omega arith; has_room = omega arith; is_good = refl; numbers = refl; lined = refl; handles_events = refl; ends = refl; is_near = λ large. absurd (true≢false (sym large)) }

calls-core : IsCore (worked_project 64) calls
calls-core = record { has_size = omega arith; has_depth = omega arith; has_room = omega arith; is_good = refl; numbers = refl; lined = refl; handles_events = refl; ends = refl; is_near = λ large. absurd (true≢false (sym large)) }

dividing-core : IsCore (worked_project 64) dividing
dividing-core = record { has_size = omega arith; has_depth = omega arith; has_room = omega arith; is_good = refl; numbers = refl; lined = refl; handles_events = refl; ends = refl; is_near = λ large. absurd (true≢false (sym large)) }

far-core : IsCore (worked_project 4096) far
far-core = record { has_size = omega arith; has_depth = omega arith; has_room = omega arith; is_good = refl; numbers = refl; lined = refl; handles_events = refl; ends = refl; is_near = λ large. refl }

pub branches-worked : BranchesWorked
unfolding started ticked arrived hold_written made loaded reset_state core_step core_loaded int_wrap
branches-worked = record { well_formed = branches-core; has_words = refl; has_lines = refl; runs = refl; means = refl }

pub loops-worked : LoopsWorked
unfolding started ticked arrived hold_written made loaded reset_state core_step core_loaded int_wrap
loops-worked = record { well_formed = loops-core; has_words = refl; has_lines = refl; runs = refl; means = refl }

pub calls-worked : CallsWorked
unfolding started ticked arrived hold_written made loaded reset_state core_step core_loaded int_wrap
calls-worked = record { well_formed = calls-core; has_words = refl; has_lines = refl; runs = refl; means = refl }

pub dividing-worked : DividingWorked
unfolding started ticked arrived hold_written made loaded reset_state core_step core_loaded int_wrap
dividing-worked = record { well_formed = dividing-core; has_words = refl; has_lines = refl; runs = refl; means = refl }

pub far-worked : FarWorked
unfolding started ticked arrived hold_written made loaded reset_state core_step core_loaded int_wrap
far-worked = record { well_formed = far-core; has_words = refl; has_lines = refl; runs = refl; means = refl }
