-- What the comparison of two cells tells.
use Rattle.std.proofs.Common.{◌≡◌, Bool, true, false, ℤ, FitsSigned, to_z, of_z, sym, ap, ◌∙◌, refl}
use Rattle.std.specs.Int.{w16}
use Rattle.std.specs.Ordering.{int_eq}
use Rattle.std.proofs.lemmas.Int.{to_z-of_z}
use Rattle.std.proofs.lemmas.Bool.Decides.{Decides-int_eq}

false-from_not_true : (b : Bool) → (b ≡ true → ⊥) → b ≡ false
false-from_not_true true h = absurd (h refl)
false-from_not_true false h = refl

pub int_eq-false : (x y : ℤ) → (of_z w16 x ≡ of_z w16 y → ⊥) → int_eq x y ≡ false
int_eq-false x y h = false-from_not_true (int_eq x y) (λ e. h (ap (of_z w16) ((Decides-int_eq x y).0 e)))

pub int_eq-true : (x y : ℤ) → FitsSigned w16 x → FitsSigned w16 y → of_z w16 x ≡ of_z w16 y → int_eq x y ≡ true
int_eq-true x y p q e = (Decides-int_eq x y).1 (sym (to_z-of_z w16 x p) ∙ (ap (to_z w16) e ∙ to_z-of_z w16 y q))
