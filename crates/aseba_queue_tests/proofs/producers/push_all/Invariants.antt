use Rattle.std.proofs.Common.{◌≡◌, ◌≤◌, length, take}
use Rattle.aseba_queues.specs.Passes.{IsInPass, in_view}
use Rattle.aseba_queues.specs.Views.{working}
use Rattle.aseba_queue_tests.proofs.producers.push_all.Given as goal

abbrev pub invariant-loop : goal.invariant-loop
invariant-loop g l = IsInPass l.queue l.pass × (in_view l.pass ≡ working (take l.next l.items.items)) × (l.next ≤ length l.items.items)
