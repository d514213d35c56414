use Rattle.std.proofs.Common.{◌≡◌, ◌+◌, ◌-◌, ◌++◌, true, [], All, length, map, vec_len}
use Rattle.std.specs.Vec.Iter.{into_iter_items}
use Rattle.aseba_queues.specs.Passes.{IsInPass, in_view}
use Rattle.aseba_queues.specs.Views.{known}
use Rattle.aseba_queue_tests.specs.Exchange.{IsReady, lists_of}
use Rattle.aseba_queue_tests.proofs.producers.ready.Given as goal

abbrev pub invariant-loop-items : goal.invariant-loop-items
invariant-loop-items l =
    IsInPass l.queue l.owner
    × All (IsReady l.queue) l.producers.items
    × (lists_of l.producers.items ++ map (λ list. list.items) (into_iter_items l.items-iterator) ≡ map (λ list. list.items) l.fn.lists.items)
    × (length l.producers.items + length (into_iter_items l.items-iterator) ≡ vec_len l.fn.lists)
    × (in_view l.owner ≡ known (1024 - length l.producers.items) true [] [])
