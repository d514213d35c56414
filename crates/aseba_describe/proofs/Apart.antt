-- Names in two lists.
use Rattle.std.proofs.Common.{◌≡◌, Bool, true, false, not, ◌&&◌, ◌||◌, ℕ, List, [], ◌∷◌, ◌++◌, refl, sym, ap, ◌∙◌, append_assoc}
use Rattle.std.proofs.lemmas.List.Folds.{list_any-append}
use Rattle.aseba_text.specs.Names.{is_same, stands_in, are_distinct, are_apart}
use Rattle.aseba_text.proofs.Options.{and_takes, and_true}
use Rattle.aseba_text.proofs.NumberLaws.{same_is, is_same_from}

reordered : (a b c d e : Bool) → (not (a || b) && (c && d && e)) ≡ ((not a && c) && d && (not b && e))
reordered true b c d e = refl
reordered false true true true e = refl
reordered false true true false e = refl
reordered false true false d e = refl
reordered false false c d e = refl

pub distinct_together : (xs ys : List (List ℕ)) → are_distinct (xs ++ ys) ≡ (are_distinct xs && are_distinct ys && are_apart xs ys)
distinct_together [] ys = and_true (are_distinct ys)
  where
    and_true : (b : Bool) → b ≡ (b && true)
    and_true true = refl
    and_true false = refl
distinct_together (x ∷ xs) ys =
    ap (λ b. not b && are_distinct (xs ++ ys)) (list_any-append (is_same x) xs ys)
    ∙ ap (λ b. not (stands_in x xs || stands_in x ys) && b) (distinct_together xs ys)
    ∙ reordered (stands_in x xs) (stands_in x ys) (are_distinct xs) (are_distinct ys) (are_apart xs ys)

pub same_both_ways : (a b : List ℕ) → is_same a b ≡ is_same b a
same_both_ways a b = by (is_same a b) (is_same b a) refl refl
  where
    by : (s t : Bool) → is_same a b ≡ s → is_same b a ≡ t → s ≡ t
    by true true p q = refl
    by false false p q = refl
    by true false p q = let e : is_same b a ≡ true = is_same_from b a (sym (same_is a b p)) in absurd cc
    by false true p q = let e : is_same a b ≡ true = is_same_from a b (sym (same_is b a q)) in absurd cc

-- a name behind others
apart_one : (xs : List (List ℕ)) (x : List ℕ) → are_apart xs (x ∷ []) ≡ not (stands_in x xs)
apart_one [] x = refl
apart_one (y ∷ ys) x =
    ap (λ t. not (t || false) && are_apart ys (x ∷ [])) (same_both_ways y x)
    ∙ ap (λ t. not (is_same x y || false) && t) (apart_one ys x)
    ∙ by (is_same x y) (stands_in x ys)
  where
    by : (s t : Bool) → (not (s || false) && not t) ≡ not (s || t)
    by true t = refl
    by false t = refl

distinct_behind : (xs : List (List ℕ)) (x : List ℕ) → are_distinct (xs ++ x ∷ []) ≡ (are_distinct xs && not (stands_in x xs))
distinct_behind xs x = distinct_together xs (x ∷ []) ∙ ap (λ t. are_distinct xs && true && t) (apart_one xs x) ∙ by (are_distinct xs) (not (stands_in x xs))
  where
    by : (s t : Bool) → (s && true && t) ≡ (s && t)
    by true t = refl
    by false t = refl

pub distinct_more : (xs : List (List ℕ)) (x : List ℕ) → are_distinct xs ≡ true → not (stands_in x xs) ≡ true → are_distinct (xs ++ x ∷ []) ≡ true
distinct_more xs x h k = distinct_behind xs x ∙ and_true _ _ h k

pub new_at : (xs : List (List ℕ)) (x : List ℕ) (ys : List (List ℕ)) → are_distinct (xs ++ x ∷ ys) ≡ true → not (stands_in x xs) ≡ true
new_at xs x ys h =
    let front : are_distinct (xs ++ x ∷ [] ++ ys) ≡ true = ap are_distinct (append_assoc xs (x ∷ []) ys) ∙ h in
    let k = and_takes _ _ (sym (distinct_together (xs ++ x ∷ []) ys) ∙ front) in
    (and_takes _ _ (sym (distinct_behind xs x) ∙ (and_takes _ _ k.0).0)).1
