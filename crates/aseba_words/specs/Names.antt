-- How a name is held, and which bytes it shows.
use Rattle.std.specs.Prelude.{ℕ, List, ◌≤◌, take}
use Rattle.std.specs.Box.{boxed_slice_items}
use Rattle.aseba_words.specs.declared.name.Held.{Held}
use Rattle.aseba_words.specs.declared.name.Held.TheVariants.{Short, Long}

-- the bytes of a name: in place those that are in use
abbrev pub shown : Held → List ℕ
shown (Short short) = take short.len short.bytes
shown (Long bytes) = boxed_slice_items bytes

-- no more bytes are in use than there is room in place
abbrev pub FitsRoom : Held → Type 0
FitsRoom (Short short) = short.len ≤ 23
FitsRoom (Long _) = Unit {0}
