-- What the threads of an exchange begin with, and what they end with.
use Rattle.std.specs.Prelude.{◌≡◌, ℕ, ◌<◌, List, [], length, map, slice_index_or}
use Rattle.aseba_queues.specs.declared.in_queue.InQueue.{InQueue}
use Rattle.aseba_queues.specs.Passes.{IsInPass, in_view}
use Rattle.aseba_queues.specs.Views.{working}
use Rattle.aseba_queue_tests.specs.declared.producers.Producer.{Producer}
use Rattle.aseba_queue_tests.specs.declared.item.Sent.{Sent}

abbrev pub lists_of : List Producer → List (List Sent)
lists_of producers = map (λ (p : Producer). p.items.items) producers

-- it has pushed nothing
abbrev pub IsReady : InQueue Sent → Producer → Type 0
IsReady queue p = IsInPass queue p.pass × (in_view p.pass ≡ working [])

-- it has pushed all of its items, in their order
abbrev pub IsDone : InQueue Sent → Producer → Type 0
IsDone queue p = IsInPass queue p.pass × (in_view p.pass ≡ working p.items.items)

-- each has, and its items are those that it had
abbrev pub AreDone : InQueue Sent → List Producer → List Producer → Type 0
AreDone queue old new = (length new ≡ length old)
    × ((place : ℕ) (d e : Producer) → place < length old → IsDone queue (slice_index_or new place d) × ((slice_index_or new place d).items.items ≡ (slice_index_or old place e).items.items))
