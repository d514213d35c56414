-- A stack as its room and its values, the top first.
use Rattle.std.specs.Prelude.{ℕ, ℤ, List}

pub record StackView : Type 0 where
  pub room : ℕ
  pub values : List ℤ
