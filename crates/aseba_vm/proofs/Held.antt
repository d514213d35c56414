-- Held values, one cell after the other.
use Rattle.std.proofs.Common.{◌≡◌, ℕ, zero, suc, ◌<◌, ℤ, List, [], ◌∷◌, length, get_or, set, replicate, Option, Some, None, unwrap_or, refl, ap, arith}
use Rattle.aseba_vm.specs.State.{applied, none_held}

-- to move one held value into its cell leaves what applying all of them gives
pub applied-move : (cells : List ℤ) (held : List (Option ℤ)) (i : ℕ) (v : ℤ) → get_or held i None ≡ Some v → applied (set cells i v) (set held i None) ≡ applied cells held
applied-move [] held i v e = refl
applied-move (c ∷ cells) [] i v e = cc
applied-move (c ∷ cells) (h ∷ held) zero v e = rw e refl
applied-move (c ∷ cells) (h ∷ held) (suc i) v e = ap (λ rest. unwrap_or h c ∷ rest) (applied-move cells held i v e)

-- where nothing is held, applying changes nothing
pub applied-none : (cells : List ℤ) (n : ℕ) → applied cells (replicate n None) ≡ cells
applied-none [] n = refl
applied-none (c ∷ cells) zero = refl
applied-none (c ∷ cells) (suc n) = ap (λ rest. c ∷ rest) (applied-none cells n)

-- where no cell holds a value, nothing is held
pub none-each : (held : List (Option ℤ)) → ((k : ℕ) → k < length held → get_or held k None ≡ None) → held ≡ none_held held
none-each [] each = refl
none-each (h ∷ held) each =
    let here : h ≡ None = each zero (omega arith) in
    let rest : held ≡ none_held held = none-each held (λ k below. each (suc k) (omega (arith, below))) in
    cc

-- where no cell holds a value, applying changes nothing
pub applied-none-each : (cells : List ℤ) (held : List (Option ℤ)) → ((k : ℕ) → k < length held → get_or held k None ≡ None) → applied cells held ≡ cells
applied-none-each cells held each = rw (none-each held each) (applied-none cells (length held))

-- the same where one knows it
pub applied-none_held : (cells : List ℤ) (held : List (Option ℤ)) → held ≡ none_held held → applied cells held ≡ cells
applied-none_held cells held none = rw none (applied-none cells (length held))

pub ruleset held_values = (applied-none_held, none-each)
