-- Merges of lists: the order of the lists doesn't matter, an empty list more doesn't either, and an item put at the end of a list is the last of the merge.
use Rattle.std.proofs.Common.{◌≡◌, refl, sym, ap, ◌∙◌, subst, ℕ, ◌⊎◌, inl, inr, List, [], ◌∷◌, ◌++◌, length, reverse, All, arith, append_assoc}
use Rattle.std.specs.Prelude.{IsPermutation}
use Rattle.std.specs.List.{sum_by}
use Rattle.std.proofs.lemmas.List.{length-append, reverse-append}
use Rattle.std.proofs.lemmas.List.Elements.{All-nil, All-cons, All-head}
use Rattle.std.proofs.lemmas.List.Sorted.{All-permutation, IsPermutation-refl, IsPermutation-sym, IsPermutation-trans, IsPermutation-cons, IsPermutation-middle, IsPermutation-append_left, IsPermutation-append_right, IsPermutation-append_comm, IsPermutation-to_front, sum_by-IsPermutation}
use Rattle.std.proofs.lemmas.List.Sums.{sum_by-cons}
use Rattle.aseba_queues.specs.Merges.{MergesBackwards, IsMerge}
use Rattle.aseba_queues.specs.Views.{put}

-- lists in another order
pub permuted : {T : Type 0} (lists others : List (List T)) (items : List T) → IsPermutation lists others → MergesBackwards lists items → MergesBackwards others items
permuted {T} lists others [] p m = All-permutation (λ (list : List T). list ≡ []) lists others p m
permuted lists others (x ∷ earlier) p m =
    (m.0, m.1, IsPermutation-trans others lists ((m.0 ++ x ∷ []) ∷ m.1) (IsPermutation-sym lists others p) m.2, m.3)

swapped : {X : Type 0} (a b : X) (xs : List X) → IsPermutation (a ∷ b ∷ xs) (b ∷ a ∷ xs)
swapped a b xs = IsPermutation-middle (a ∷ []) b xs

-- an empty list more
pub with_empty : {T : Type 0} (lists : List (List T)) (items : List T) → MergesBackwards lists items → MergesBackwards ([] ∷ lists) items
with_empty {T} lists [] m = All-cons (λ (list : List T). list ≡ []) [] lists refl m
with_empty {T} lists (x ∷ earlier) m =
    let end : List T = m.0 ++ x ∷ [] in
    let nothing : List T = [] in (
      m.0,
      nothing ∷ m.1,
      IsPermutation-trans (nothing ∷ lists) (nothing ∷ end ∷ m.1) (end ∷ nothing ∷ m.1) (IsPermutation-cons nothing lists (end ∷ m.1) m.2) (swapped nothing end m.1),
      permuted (nothing ∷ m.0 ∷ m.1) (m.0 ∷ nothing ∷ m.1) earlier (swapped nothing m.0 m.1) (with_empty (m.0 ∷ m.1) earlier m.3),
    )

pub merge_permuted : {T : Type 0} (lists others : List (List T)) (items : List T) → IsPermutation lists others → IsMerge lists items → IsMerge others items
merge_permuted lists others items p m = permuted lists others (reverse items) p m

put_back : {T : Type 0} (x : T) (own others : List (List T)) (items : List T) → MergesBackwards (own ++ others) items → MergesBackwards (put x own ++ others) (x ∷ items)
put_back {T} x [] others items m =
    let nothing : List T = [] in
    (nothing, others, IsPermutation-refl ((x ∷ []) ∷ others), with_empty others items m)
put_back x (list ∷ lists) others items m = (list, lists ++ others, IsPermutation-refl ((list ++ x ∷ []) ∷ (lists ++ others)), m)

-- an item put at the end of a list
pub merge_put : {T : Type 0} (x : T) (own others : List (List T)) (items : List T) → IsMerge (own ++ others) items → IsMerge (put x own ++ others) (items ++ x ∷ [])
merge_put {T} x own others items m =
    let P : List T → Type 0 = λ back. MergesBackwards (put x own ++ others) back in
    subst P (sym (reverse-append items (x ∷ []))) (put_back x own others (reverse items) m)

-- an empty list at the end
pub merge_with_empty : {T : Type 0} (lists : List (List T)) (items : List T) → IsMerge lists items → IsMerge (lists ++ [] ∷ []) items
merge_with_empty {T} lists items m =
    let nothing : List T = [] in
    merge_permuted (nothing ∷ lists) (lists ++ nothing ∷ []) items (IsPermutation-sym (lists ++ nothing ∷ []) (nothing ∷ lists) (IsPermutation-to_front lists nothing)) (with_empty lists (reverse items) m)

pub merge_of_nothing : {T : Type 0} → IsMerge {T = T} [] []
merge_of_nothing {T} = All-nil (λ (list : List T). list ≡ [])

-- a part of the lists, moved to the front
pub moved : {X : Type 0} (front whole mine rest : List X) → IsPermutation whole (mine ++ rest) → IsPermutation (front ++ whole) (mine ++ (front ++ rest))
moved front whole mine rest p =
    let far = IsPermutation-append_right front whole (mine ++ rest) p in
    let near : IsPermutation ((front ++ mine) ++ rest) ((mine ++ front) ++ rest) = IsPermutation-append_left rest (front ++ mine) (mine ++ front) (IsPermutation-append_comm front mine) in
    IsPermutation-trans (front ++ whole) (front ++ (mine ++ rest)) (mine ++ (front ++ rest)) far (rw (← append_assoc front mine rest, ← append_assoc mine front rest) near)

-- lists without items
none_left : {T : Type 0} (lists : List (List T)) → sum_by (λ (list : List T). length list) lists ≡ 0 → All (λ (list : List T). list ≡ []) lists
none_left {T} [] h = All-nil (λ (list : List T). list ≡ [])
none_left {T} ([] ∷ lists) h =
    let nothing : List T = [] in
    All-cons (λ (list : List T). list ≡ []) nothing lists refl (none_left lists (omega (arith, sum_by-cons (λ (list : List T). length list) nothing lists)))
none_left {T} ((x ∷ xs) ∷ lists) h = absurd (omega (arith, sum_by-cons (λ (list : List T). length list) (x ∷ xs) lists))

-- beside lists without items a merge has the items of one list
pub one_left : {T : Type 0} (lists : List (List T)) (items list : List T) (others : List (List T)) → IsPermutation lists (list ∷ others) → sum_by (λ (other : List T). length other) others ≡ 0
    → MergesBackwards lists items → list ≡ reverse items
one_left {T} lists [] list others p none m = All-head (λ (other : List T). other ≡ []) list others (All-permutation (λ (other : List T). other ≡ []) lists (list ∷ others) p m)
one_left {T} lists (x ∷ earlier) list others p none m =
    let size : List T → ℕ = λ other. length other in
    let end : List T = m.0 ++ x ∷ [] in
    let Either : List T → Type 0 = λ other. (other ≡ []) ⊎ (other ≡ list) in
    let same : IsPermutation (list ∷ others) (end ∷ m.1) = IsPermutation-trans (list ∷ others) lists (end ∷ m.1) (IsPermutation-sym lists (list ∷ others) p) m.2 in
    let all : All Either (list ∷ others) = All-cons Either list others (inr refl) (weaker list others (none_left others none)) in
    let is : end ≡ list = long end list m.0 x refl (All-head Either end m.1 (All-permutation Either (list ∷ others) (end ∷ m.1) same all)) in
    let sums : sum_by size (end ∷ m.1) ≡ sum_by size (list ∷ others) = sum_by-IsPermutation size (list ∷ others) (end ∷ m.1) same in
    let rest : sum_by size m.1 ≡ 0 = omega (arith, sums, sum_by-cons size end m.1, sum_by-cons size list others, ap size is) in
    let before : m.0 ≡ reverse earlier = one_left (m.0 ∷ m.1) earlier m.0 m.1 (IsPermutation-refl (m.0 ∷ m.1)) rest m.3 in
    sym is ∙ ap (λ (l : List T). l ++ x ∷ []) before ∙ sym (reverse-append (x ∷ []) earlier)
  where
    weaker : (l : List T) (ls : List (List T)) → All (λ (other : List T). other ≡ []) ls → All (λ (other : List T). (other ≡ []) ⊎ (other ≡ l)) ls
    weaker l ls h k d in' = inl (h k d in')

    long : (e l front : List T) (y : T) → e ≡ front ++ y ∷ [] → (e ≡ []) ⊎ (e ≡ l) → e ≡ l
    long e l front y is (inl empty) = absurd (omega (arith, ap (λ (o : List T). length o) (sym is ∙ empty), length-append front (y ∷ [])))
    long e l front y is (inr same) = same
