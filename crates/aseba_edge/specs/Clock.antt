-- What a clock has left to answer.
use Rattle.std.specs.Prelude.{◌≡◌, ℕ, max, List, [], ◌∷◌, map}

-- a clock answers the first of what it has left
abbrev pub IsNext : List ℕ → ℕ → Type 0
IsNext [] answer = ⊥
IsNext (next ∷ later) answer = answer ≡ next

-- what is left behind an answer: the last one stays for good
abbrev pub left_behind : List ℕ → List ℕ
left_behind [] = []
left_behind (last ∷ []) = last ∷ []
left_behind (answer ∷ next ∷ later) = next ∷ later

-- each answer, or the time waited for where that is later
abbrev pub lifted : ℕ → List ℕ → List ℕ
lifted ms answers = map (λ answer. max ms answer) answers
