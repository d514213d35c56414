use Rattle.std.proofs.Common.{◌≡◌, ◌≤◌, length, take}
use Rattle.aseba_queues.specs.Passes.{IsPortPass, port_view}
use Rattle.aseba_queues.specs.Views.{working}
use Rattle.aseba_queue_tests.proofs.relays.pop_into.Given as goal

abbrev pub invariant-loop : goal.invariant-loop
invariant-loop g l = IsPortPass l.queue l.pass × (port_view l.pass ≡ working (take l.next l.came)) × (l.next ≤ length l.came)
