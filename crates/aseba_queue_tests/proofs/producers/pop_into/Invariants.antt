use Rattle.std.proofs.Common.{◌≡◌, ◌≤◌, true, [], length, take}
use Rattle.aseba_queues.specs.Passes.{IsInPass, in_view}
use Rattle.aseba_queues.specs.Views.{known}
use Rattle.aseba_queue_tests.proofs.producers.pop_into.Given as goal

abbrev pub invariant-loop : goal.invariant-loop
invariant-loop g l = IsInPass l.queue l.owner × (in_view l.owner ≡ known (in_view l.fn.owner).parts true [] (take l.next l.came)) × (l.next ≤ length l.came) × (length l.came ≡ length l.fn.came)
