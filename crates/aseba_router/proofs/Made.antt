-- What the loops make that begin tables and queues.
use Rattle.std.proofs.Common.{◌≡◌, ◌∙◌, ℕ, ◌+◌, List, [], ◌∷◌, ◌++◌, map, replicate, ap}
use Rattle.std.proofs.lemmas.List.{map_push, replicate_more}
use Rattle.aseba_router.specs.declared.memory_queue.MemoryQueue.{MemoryQueue}
use Rattle.aseba_router.specs.declared.place.Place.{Place}
use Rattle.aseba_router.specs.Memory.{empty, queue_of}
use Rattle.aseba_router.specs.Port.{unused}
use Rattle.aseba_router.specs.Rows.{Row, row, blank, ports_of}

-- one queue more
pub queues-more : (queues then : List MemoryQueue) (n capacity : ℕ) (queue : MemoryQueue) → then ≡ queues ++ queue ∷ [] → queue_of queue ≡ empty capacity → map queue_of queues ≡ replicate n (empty capacity) → map queue_of then ≡ replicate (n + 1) (empty capacity)
queues-more queues then n capacity queue is made so_far =
    ap (map queue_of) is ∙ map_push queue_of queues queue ∙ ap (λ l. l ++ queue_of queue ∷ []) so_far ∙ ap (λ q. replicate n (empty capacity) ++ q ∷ []) made ∙ replicate_more n (empty capacity)

-- one port more
pub ports-more : (places then : List Place) (n : ℕ) (place : Place) → then ≡ places ++ place ∷ [] → row place ≡ blank → ports_of places ≡ replicate n unused → ports_of then ≡ replicate (n + 1) unused
ports-more places then n place is made so_far =
    let port : (row place).port ≡ unused = ap (λ (r : Row). r.port) made in
    ap ports_of is ∙ map_push (λ place. (row place).port) places place ∙ ap (λ l. l ++ (row place).port ∷ []) so_far ∙ ap (λ q. replicate n unused ++ q ∷ []) port ∙ replicate_more n unused
