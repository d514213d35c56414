-- The two rules: what is so of the items that a queue holds, oldest first, and of the views of its passes, at each step.
use Rattle.std.specs.Prelude.{◌≡◌, ℕ, ◌^◌, ◌≤◌, true, false, List, [], ◌++◌, length}
use Rattle.std.specs.List.{flat_map, sum_by}
use mathlib.Core.Option.{some}
use lib.ListN.{get_elem?}
use Rattle.aseba_queues.specs.declared.view.View.{View}
use Rattle.aseba_queues.specs.Merges.{IsMerge}

module _ {T : Type 0} where
  -- all lists on the side of the many
  abbrev pub lists_of : List (View T) → List (List T)
  lists_of views = flat_map (λ (v : View T). v.many) views

  abbrev pub parts_of : List (View T) → ℕ
  parts_of views = sum_by (λ (v : View T). v.parts) views

-- The pass's view, where the owner is the pass with that number, and these items are noted on its side: only the owner has a list there, and a view without a part keeps no list.
pub record Fits {T : Type 0} (owner : ℕ) (items : List T) (pass : ℕ) (v : View T) : Type 0 where
  pub owning : v.owns ≡ true → (pass ≡ owner) × (v.one ≡ items)
  pub working : v.owns ≡ false → v.one ≡ []
  pub idle : v.parts ≡ 0 → (v.many ≡ []) × (v.owns ≡ false)

-- there are 1024 parts in all, and each view fits
pub record Seated {T : Type 0} (owner : ℕ) (items : List T) (views : List (View T)) : Type 0 where
  pub parts : parts_of views ≡ 1024
  pub each : (pass : ℕ) (v : View T) → get_elem? views pass ≡ some v → Fits owner items pass v

-- Many push and the owner pops: what was popped, at most 2^61 items, and then what the queue holds, is a merge of all that was pushed.
pub record InHolds {T : Type 0} (items : List T) (views : List (View T)) : Type 0 where
  pub owner : ℕ
  pub popped : List T
  pub seated : Seated owner popped views
  pub few : length popped ≤ 2 ^ 61
  pub merge : IsMerge (lists_of views) (popped ++ items)

-- The owner pushes and many pop: what was pushed is a merge of all that was popped, and then what the queue holds.
pub record PortHolds {T : Type 0} (items : List T) (views : List (View T)) : Type 0 where
  pub owner : ℕ
  pub pushed : List T
  pub popped : List T
  pub seated : Seated owner pushed views
  pub split : pushed ≡ popped ++ items
  pub merge : IsMerge (lists_of views) popped
