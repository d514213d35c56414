use Rattle.std.proofs.Common.{◌≡◌, ◌≤◌, true, [], length, take}
use Rattle.aseba_queues.specs.Passes.{IsPortPass, port_view}
use Rattle.aseba_queues.specs.Views.{known}
use Rattle.aseba_queue_tests.proofs.relays.push_all.Given as goal

abbrev pub invariant-loop : goal.invariant-loop
invariant-loop g l = IsPortPass l.queue l.owner × (port_view l.owner ≡ known 1023 true [] (take l.next l.items)) × (l.next ≤ length l.items)
