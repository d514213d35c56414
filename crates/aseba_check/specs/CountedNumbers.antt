-- What the numbers of a checked source are.
use Rattle.std.specs.Prelude.{◌≡◌, ◌+◌, ◌≤◌}
use Rattle.aseba_tree.specs.Numbers.{source_words, source_depth, source_room}
use Rattle.aseba_tree.specs.State.{Program}
use Rattle.aseba_check.specs.declared.counting.total.Numbers.{Numbers}

-- The numbers of a program. The temporaries and the cells of any node's variables are a number of 64 bits together.
pub record AreNumbers (program : Program) (numbers : Numbers) : Type 0 where
  pub size : numbers.size ≡ source_words program
  pub depth : numbers.depth ≡ source_depth program
  pub room : numbers.room ≡ source_room program
  pub small : numbers.room + 4096 ≤ 18446744073709551615
