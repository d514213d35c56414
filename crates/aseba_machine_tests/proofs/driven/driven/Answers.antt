use Rattle.std.proofs.Common.{subst, sym}
use Rattle.aseba_vm.specs.State.{NamesInside}
use Rattle.aseba_target.proofs.Nodes.{names_inside}
use Rattle.aseba_machine_tests.proofs.driven.driven.Goals as goal

pub new-requires : goal.new-requires
new-requires c = subst NamesInside (sym c.shape.ensures) (names_inside c.in_ok-project.project c.in_ok-project.ensures)
