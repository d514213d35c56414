-- The templates that are seen may stand in any order.
use Rattle.std.proofs.Common.{◌≡◌, refl, sym, ◌∙◌, ap, ℕ, ◌+◌, ◌≤◌, Bool, true, false, not, ◌&&◌, ◌||◌, if◌then◌else◌, List, [], ◌∷◌, ◌++◌, length, drop, map, arith, append_assoc}
use Rattle.std.specs.Prelude.{ℤ, pos, int_lt}
use Rattle.std.specs.List.{list_any}
use Rattle.std.specs.Ordering.{int_eq}
use Rattle.std.proofs.lemmas.List.Folds.{list_any-append}
use Rattle.std.proofs.lemmas.List.{drop_all}
use Rattle.aseba_tree.specs.declared.description.Param.{Param}
use Rattle.aseba_tree.specs.Templates.{opens_template, template_lengths}
use Rattle.aseba_expand.specs.Arguments.{opened, seen_with, listed_lengths}

or-false : (a : Bool) → (a || false) ≡ a
or-false true = refl
or-false false = refl

or-turned : (a b : Bool) → (a || (b || false)) ≡ (b || a)
or-turned true true = refl
or-turned true false = refl
or-turned false true = refl
or-turned false false = refl

abbrev Same : List ℤ → List ℤ → Type 0
Same a b = (size : ℤ) → list_any (int_eq size) a ≡ list_any (int_eq size) b

-- one more is seen, at whichever end
both-more : (a b : List ℤ) (p : ℤ) → Same a b → Same (a ++ p ∷ []) (p ∷ b)
both-more a b p h size = list_any-append (int_eq size) a (p ∷ []) ∙ or-turned (list_any (int_eq size) a) (int_eq size p) ∙ ap (λ c. int_eq size p || c) (h size)

-- a parameter, and those behind it in either way
one-listed : (opens : Bool) (a b : List ℤ) (p : ℤ) (ps : List ℤ) (n : ℕ) (ns : List ℕ) → listed_lengths (a ++ p ∷ []) ps ns ≡ template_lengths (p ∷ b) ps ns → listed_lengths a ps ns ≡ template_lengths b ps ns
    → (if opens then n ∷ [] else []) ++ listed_lengths (if opens then a ++ p ∷ [] else a) ps ns ≡ (if opens then n ∷ template_lengths (p ∷ b) ps ns else template_lengths b ps ns)
one-listed true a b p ps n ns more same = ap (λ l. n ∷ l) more
one-listed false a b p ps n ns more same = same

pub lengths-listed : (a b ps : List ℤ) (ns : List ℕ) → Same a b → listed_lengths a ps ns ≡ template_lengths b ps ns
lengths-listed a b [] ns h = refl
lengths-listed a b (p ∷ ps) [] h = refl
lengths-listed a b (p ∷ ps) (n ∷ ns) h =
    let same : opens_template a p ≡ opens_template b p = ap (λ c. int_lt p (pos 0) && not c) (h p) in
    (λ i. (if same i then n ∷ [] else []) ++ listed_lengths (if same i then a ++ p ∷ [] else a) ps ns)
    ∙ one-listed (opens_template b p) a b p ps n ns (lengths-listed (a ++ p ∷ []) (p ∷ b) ps ns (both-more a b p h)) (lengths-listed a b ps ns h)

none-listed : (seen ps : List ℤ) → listed_lengths seen ps [] ≡ []
none-listed seen [] = refl
none-listed seen (p ∷ ps) = refl

-- a parameter whose argument's length is there
pub lengths-told : (made before all : List ℕ) (after seen : List ℤ) (here rest : List Param) (these others : List ℕ) (p : Param) (n : ℕ)
    → here ≡ p ∷ rest → these ≡ n ∷ others → made ≡ before ++ opened seen p.size n → after ≡ seen_with seen p.size
    → before ++ listed_lengths seen (map (λ q. q.size) here) these ≡ all → made ++ listed_lengths after (map (λ q. q.size) rest) others ≡ all
lengths-told made before all after seen here rest these others p n e f g h told =
    let sizes : List Param → List ℤ = map (λ q. q.size) in
    (λ i. g i ++ listed_lengths (h i) (sizes rest) others)
    ∙ append_assoc before (opened seen p.size n) (listed_lengths (seen_with seen p.size) (sizes rest) others)
    ∙ sym (λ i. before ++ listed_lengths seen (sizes (e i)) (f i))
    ∙ told

-- the arguments have ended
pub lengths-ended : (made all : List ℕ) (seen : List ℤ) (here rest : List Param) (ns : List ℕ) (i : ℕ) → length ns ≤ i
    → made ++ listed_lengths seen (map (λ q. q.size) here) (drop i ns) ≡ all → made ++ listed_lengths seen (map (λ q. q.size) rest) (drop (i + 1) ns) ≡ all
lengths-ended made all seen here rest ns i past told =
    let sizes : List Param → List ℤ = map (λ q. q.size) in
    let past_next : length ns ≤ i + 1 = omega (arith, past) in
    ap (λ l. made ++ l) (ap (listed_lengths seen (sizes rest)) (drop_all (i + 1) ns past_next) ∙ none-listed seen (sizes rest) ∙ sym (ap (listed_lengths seen (sizes here)) (drop_all i ns past) ∙ none-listed seen (sizes here)))
    ∙ told
