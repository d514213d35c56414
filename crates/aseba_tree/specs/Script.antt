-- Scripts: what comes to a run from outside, and before which tick.
use Rattle.std.specs.Prelude.{ℕ, ℤ, List, ◌==◌, filter, map}
use Rattle.aseba_tree.specs.Code.{Name}
use Rattle.aseba_tree.specs.Line.{Event}

-- An event from a source with its arguments, or values for the cells of a named variable from a first one on.
pub data Action : Type 0 where
  arrives : Event → (source : ℕ) → (args : List ℤ) → Action
  sets : Name → (first : ℕ) → (values : List ℤ) → Action

pub record Entry : Type 0 where
  pub time : ℕ
  pub action : Action

abbrev pub Script : Type 0
Script = List Entry

-- what a script does before the tick of a number, in order
abbrev pub actions_at : Script → ℕ → List Action
actions_at script tick = map (λ entry. entry.action) (filter (λ entry. entry.time == tick) script)
