-- What the queues in memory hold.
use Rattle.std.specs.Prelude.{◌≡◌, ℕ, List, [], ◌++◌, length, map, slice_index_or, nat_lt, Option, is_some, option_map, option_to_list}
use Rattle.aseba_router.specs.declared.entry.Entry.{Entry}
use Rattle.aseba_router.specs.declared.memory_queue.MemoryQueue.{MemoryQueue}
use Rattle.aseba_router.specs.Queue.{Queue, OthersStay}
use Rattle.aseba_router.specs.Shown.{put}

abbrev pub queue_of : MemoryQueue → Queue
queue_of queue = record { list = map put queue.entries.items; refusals = queue.refusals; capacity = queue.capacity }

abbrev pub empty : ℕ → Queue
empty capacity = record { list = []; refusals = 0; capacity = capacity }

-- a queue by its port; a port that isn't there has one that holds nothing
abbrev pub queue_at : List Queue → ℕ → Queue
queue_at queues p = slice_index_or queues p (empty 0)

-- The first entry of a port's queue was taken, if there is one. All else stays.
pub record Popped (p : ℕ) (entry : Option Entry) (old new : List Queue) : Type 0 where
  pub list : (queue_at old p).list ≡ option_to_list (option_map put entry) ++ (queue_at new p).list
  pub some : is_some entry ≡ nat_lt 0 (length (queue_at old p).list)
  pub rest : queue_at new p ≡ record (queue_at old p) { list = (queue_at new p).list }
  pub others : OthersStay p (queue_at old) (queue_at new)
  pub count : length new ≡ length old
