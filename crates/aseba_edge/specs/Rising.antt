-- Numbers that never fall.
use Rattle.std.specs.Prelude.{ℕ, max, List, [], ◌∷◌}

-- each number, or the greatest of the floor and those before it where that is greater
abbrev pub rising : ℕ → List ℕ → List ℕ
rising floor [] = []
rising floor (number ∷ later) = max floor number ∷ rising (max floor number) later
