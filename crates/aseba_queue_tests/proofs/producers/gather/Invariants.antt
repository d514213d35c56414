use Rattle.std.proofs.Common.{◌≡◌, ◌+◌, ◌++◌, All, length, vec_len}
use Rattle.std.specs.Vec.Iter.{into_iter_items}
use Rattle.aseba_queues.specs.Passes.{IsInPass, in_view}
use Rattle.aseba_queue_tests.specs.Exchange.{IsDone, lists_of}
use Rattle.aseba_queue_tests.proofs.producers.gather.Given as goal

abbrev pub invariant-loop-producer : goal.invariant-loop-producer
invariant-loop-producer l =
    IsInPass l.queue l.owner
    × All (IsDone l.queue) (into_iter_items l.producer-iterator)
    × ((in_view l.owner).parts + length (into_iter_items l.producer-iterator) ≡ (in_view l.fn.owner).parts + vec_len l.fn.done)
    × ((in_view l.owner).owns ≡ (in_view l.fn.owner).owns)
    × ((in_view l.owner).many ++ lists_of (into_iter_items l.producer-iterator) ≡ lists_of l.fn.done.items)
    × ((in_view l.owner).one ≡ (in_view l.fn.owner).one)
