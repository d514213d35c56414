-- What follows once all passes of a queue are joined.
use Rattle.std.specs.Prelude.{◌≡◌, ◌≢◌, ℕ, Bool, List, [], ◌∷◌, ◌++◌, length, filter, map, slice_index_or}
use Rattle.std.specs.List.{AllPass, sum_by}
use Rattle.std.specs.Prelude.{All}
use Rattle.aseba_queues.specs.declared.view.View.{View}
use Rattle.aseba_queues.specs.Merges.{IsMerge}
use Rattle.aseba_queues.specs.Knows.{InWhole, PortWhole}

module _ (T : Type 0) where
  -- only the list with that number has items that pass the test
  abbrev pub IsAlone : (T → Bool) → ℕ → List (List T) → Type 0
  IsAlone test number lists = (other : ℕ) → other ≢ number → filter test (slice_index_or lists other []) ≡ []

  -- What was popped, followed by what the queue holds, restricted to items that one list alone has, is that list so restricted.
  abbrev pub TakenIsPushed : Type 0
  TakenIsPushed = (v : View T) (items : List T) (test : T → Bool) (number : ℕ) → InWhole v items → IsAlone test number v.many
      → filter test (v.one ++ items) ≡ filter test (slice_index_or v.many number [])

  -- What the one that popped has popped, followed by what the queue holds, is what the owner pushed.
  abbrev pub PushedIsTaken : Type 0
  PushedIsTaken = (v : View T) (items popped : List T) → PortWhole v items → v.many ≡ popped ∷ [] → v.one ≡ popped ++ items

  -- what passes a test in a merge is a merge of what passes it in each list
  abbrev pub SharesMerge : Type 0
  SharesMerge = (test : T → Bool) (lists : List (List T)) (items : List T) → IsMerge lists items → IsMerge (map (filter test) lists) (filter test items)

  -- a merge of one list is that list
  abbrev pub OneIsItself : Type 0
  OneIsItself = (list items : List T) → IsMerge (list ∷ []) items → items ≡ list

  -- a merge has as many items as its lists together
  abbrev pub LengthsAddUp : Type 0
  LengthsAddUp = (lists : List (List T)) (items : List T) → IsMerge lists items → length items ≡ sum_by (λ (list : List T). length list) lists

  -- what is so of each item of the lists is so of each item of their merge
  abbrev pub EachIsSo : Type 0
  EachIsSo = (test : T → Bool) (lists : List (List T)) (items : List T) → IsMerge lists items → All (AllPass test) lists → AllPass test items
