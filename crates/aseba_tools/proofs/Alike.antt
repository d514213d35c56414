-- Lists that begin alike, up to a place.
use Rattle.std.proofs.Common.{rules, ◌≡◌, ◌≢◌, ℕ, zero, suc, ◌+◌, ◌<◌, ℤ, Bool, true, false, IsTrue, ◌↔◌, List, [], ◌∷◌, length, get_or, take, map, Some, slice_get, refl, ap, sym, ◌∙◌, arith}
use Rattle.std.proofs.lemmas.Option.{slice_get-map, slice_get_read}
use Rattle.std.specs.Option.{option_map}
use Rattle.aseba_tree.specs.declared.description.Param.{Param}

-- one more element that both have
pub one_more_same : {X : Type 0} (xs ys : List X) (i : ℕ) (x : X) → slice_get xs i ≡ Some x → slice_get ys i ≡ Some x → take i xs ≡ take i ys → take (i + 1) xs ≡ take (i + 1) ys
one_more_same [] ys i x a b same = absurd cc
one_more_same (x' ∷ xs) [] i x a b same = absurd cc
one_more_same (x' ∷ xs) (y ∷ ys) zero x a b same = let e : x' ≡ y = cc in ap (λ z. z ∷ []) e
one_more_same (x' ∷ xs) (y ∷ ys) (suc i) x a b same =
    let next : suc i + 1 ≡ suc (i + 1) = omega arith in
    let first : x' ≡ y = cc in
    let others : take i xs ≡ take i ys = cc in
    rw next ((λ j. first j ∷ one_more_same xs ys i x a b others j))

-- a mapped list at a place
pub mapped_at : {X Y : Type 0} (f : X → Y) (xs : List X) (i : ℕ) (x : X) → i < length xs → x ≡ get_or xs i x → slice_get (map f xs) i ≡ Some (f x)
mapped_at f xs i x h e = slice_get-map f xs i ∙ ap (option_map f) (slice_get_read xs (length xs) i x refl h e)

-- the sizes of parameters
abbrev pub sizes_of : List Param → List ℤ
sizes_of params = map (λ p. p.size) params

-- one more parameter of the same size
pub same_sizes_more : (ps qs : List Param) (i : ℕ) (a b : Param) → i < length ps → length ps ≡ length qs → a ≡ get_or ps i a → b ≡ get_or qs i b → a.size ≡ b.size → take i (sizes_of ps) ≡ take i (sizes_of qs) → take (i + 1) (sizes_of ps) ≡ take (i + 1) (sizes_of qs)
same_sizes_more ps qs i a b h len e f size same =
    one_more_same (sizes_of ps) (sizes_of qs) i a.size (mapped_at (λ p. p.size) ps i a h e) (mapped_at (λ p. p.size) qs i b (omega arith) f ∙ ap (λ s. Some s) (sym size)) same

some_is : {X : Type 0} {x y : X} → Some x ≡ Some y → x ≡ y
some_is e = cc

sizes_differ : (ps qs : List Param) (i : ℕ) (a b : Param) → i < length ps → length ps ≡ length qs → a ≡ get_or ps i a → b ≡ get_or qs i b → a.size ≢ b.size → sizes_of ps ≢ sizes_of qs
sizes_differ ps qs i a b h len e f differ same =
    differ
    (some_is
    (sym (mapped_at (λ p. p.size) ps i a h e) ∙ ap (λ l. slice_get l i) same ∙ mapped_at (λ p. p.size) qs i b (omega arith) f))

not_true : {P : Type 0} → IsTrue false → P
not_true t = absurd (search rules)

-- a place where the sizes differ
pub sizes_stop : (ps qs : List Param) (i : ℕ) (p q : Param) (same : Bool) → i < length ps → length ps ≡ length qs → p ≡ get_or ps i p → q ≡ get_or qs i q → same ≡ false → (IsTrue same ↔ (p.size ≡ q.size))
    → IsTrue false ↔ (sizes_of ps ≡ sizes_of qs)
sizes_stop ps qs i p q true h len e f other test = absurd cc
sizes_stop ps qs i p q false h len e f other test = (λ t. not_true t, λ alike. absurd (sizes_differ ps qs i p q h len e f (λ size. not_true (test.1 size)) alike))
