-- One step of a sum of products.
use Rattle.std.proofs.Common.{◌≡◌, ℕ, ◌+◌, ◌<◌, List, ◌∷◌, length, drop, get_or, ap, ◌∙◌, ℤ, pos, ◌+ℤ◌, ◌*ℤ◌}
use Rattle.std.proofs.lemmas.List.{drop_more}
use Rattle.aseba_words.specs.Natives.{product_sum}

pub product_sum-drop : (a b : List ℤ) (i : ℕ) → i < length a → i < length b → product_sum (drop i a) (drop i b) ≡ (get_or a i (pos 0) *ℤ get_or b i (pos 0)) +ℤ product_sum (drop (i + 1) a) (drop (i + 1) b)
product_sum-drop a b i p q =
    ap (λ xs. product_sum xs (drop i b)) (drop_more a i (pos 0) p)
    ∙ ap (λ ys. product_sum (get_or a i (pos 0) ∷ drop (i + 1) a) ys) (drop_more b i (pos 0) q)
