-- What a pass learns of its queue at one moment, where the queue holds these items.
use Rattle.std.specs.Prelude.{◌≡◌, ℕ, true, List, ◌++◌, length}
use Rattle.aseba_queues.specs.declared.view.View.{View}
use Rattle.aseba_queues.specs.Merges.{IsMerge}

module _ {T : Type 0} where
  -- many push, the owner pops: a pass with all parts knows that its lists are all lists
  abbrev pub InKnows : View T → List T → Type 0
  InKnows v items = v.parts ≡ 1024 → v.owns ≡ true → IsMerge v.many (v.one ++ items)

  -- the owner pushes, many pop: the owner knows that the queue holds the last that it pushed, and with all parts how the others were popped
  abbrev pub PortKnows : View T → List T → Type 0
  PortKnows v items = v.owns ≡ true → (popped : List T) × (v.one ≡ popped ++ items) × (v.parts ≡ 1024 → IsMerge v.many popped)

  -- at one moment of the call the queue held so many items, and this was learned of them
  abbrev pub InMoment : ℕ → View T → Type 0
  InMoment count v = (items : List T) × (length items ≡ count) × InKnows v items

  abbrev pub PortMoment : ℕ → View T → Type 0
  PortMoment count v = (items : List T) × (length items ≡ count) × PortKnows v items

  -- A pass with all parts: these items are in the queue, behind those that were popped, and all together a merge of what was pushed.
  abbrev pub InWhole : View T → List T → Type 0
  InWhole v items = IsMerge v.many (v.one ++ items)

  -- The same where the owner pushes: these items are the last that it pushed, and those before them a merge of what was popped.
  abbrev pub PortWhole : View T → List T → Type 0
  PortWhole v items = (popped : List T) × (v.one ≡ popped ++ items) × IsMerge v.many popped
