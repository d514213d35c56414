-- Numbers that never fall, from a higher floor on.
use Rattle.std.proofs.Common.{◌≡◌, ℕ, max, List, [], ◌∷◌, refl, ap, ◌∙◌, arith}
use Rattle.aseba_edge.specs.Rising.{rising}
use Rattle.aseba_edge.specs.Clock.{lifted}

-- from a floor that was lifted, each number is lifted
pub rising-lifted : (floor ms : ℕ) (numbers : List ℕ) → rising (max floor ms) numbers ≡ lifted ms (rising floor numbers)
rising-lifted floor ms [] = refl
rising-lifted floor ms (number ∷ later) =
    let e : max (max floor ms) number ≡ max (max floor number) ms = omega arith in
    let first : max (max floor ms) number ≡ max ms (max floor number) = omega arith in
    ap (λ m. m ∷ rising (max (max floor ms) number) later) first
    ∙ ap (λ m. max ms (max floor number) ∷ rising m later) e
    ∙ ap (λ l. max ms (max floor number) ∷ l) (rising-lifted (max floor number) ms later)
