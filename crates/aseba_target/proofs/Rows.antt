-- Worked runs: the words of small programs, computed by the machine's definition to their lines.
use Rattle.std.specs.Prelude.{refl}
use Rattle.std.specs.Int.{int_wrap}
use Rattle.aseba_vm.specs.Tick.{ticked}
use Rattle.aseba_vm.specs.Arrival.{arrived}
use Rattle.aseba_vm.specs.Control.{hold_written}
use Rattle.aseba_vm.specs.Loaded.{made, loaded, reset_state}
use Rattle.aseba_target.specs.Node.{started}
use Rattle.aseba_target.specs.Worked.{ForLoop, SubCall, WhenEdge, KillInExpression}

pub for_loop : ForLoop
unfolding started ticked arrived hold_written made loaded reset_state int_wrap
for_loop = refl

pub sub_call : SubCall
unfolding started ticked arrived hold_written made loaded reset_state int_wrap
sub_call = refl

pub when_edge : WhenEdge
unfolding started ticked arrived hold_written made loaded reset_state int_wrap
when_edge = refl

pub kill_in_expression : KillInExpression
unfolding started ticked arrived hold_written made loaded reset_state int_wrap
kill_in_expression = refl
