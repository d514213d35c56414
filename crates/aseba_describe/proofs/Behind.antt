-- Natives added one behind the other.
use Rattle.std.proofs.Common.{◌≡◌, List, [], ◌∷◌, ◌++◌, append_assoc, ap, ◌∙◌}

pub two : {A : Type 0} (o a b : List A) (x y : A) → a ≡ o ++ x ∷ [] → b ≡ a ++ y ∷ [] → b ≡ o ++ (x ∷ y ∷ [])
two o a b x y p q = q ∙ ap (λ l. l ++ y ∷ []) p ∙ append_assoc o (x ∷ []) (y ∷ [])

pub three : {A : Type 0} (o a b c : List A) (x y z : A) → a ≡ o ++ x ∷ [] → b ≡ a ++ y ∷ [] → c ≡ b ++ z ∷ [] → c ≡ o ++ (x ∷ y ∷ z ∷ [])
three o a b c x y z p q r = r ∙ ap (λ l. l ++ z ∷ []) (two o a b x y p q) ∙ append_assoc o (x ∷ y ∷ []) (z ∷ [])
