-- The views of a queue's passes, with one of them replaced: their parts, their lists, and that each of them fits.
use Rattle.std.proofs.Common.{◌≡◌, ◌≢◌, refl, sym, ap, ◌∙◌, subst, ℕ, zero, suc, ◌+◌, ◌<◌, ⊎_elim, Bool, true, false, cond, true≢false, List, [], ◌∷◌, ◌++◌, length, set, arith, append_assoc}
use mathlib.Core.Option.{some, some-injective, some-ne-none}
use lib.ListN.{get_elem?}
use Rattle.std.specs.Prelude.{IsPermutation}
use Rattle.std.proofs.lemmas.List.{append-nil, set_comm}
use Rattle.std.proofs.lemmas.List.Concat.{flat_map-append}
use Rattle.std.proofs.lemmas.List.Sums.{sum_by-cons, sum_by_push}
use Rattle.std.proofs.lemmas.List.Sorted.{IsPermutation-refl, IsPermutation-sym, IsPermutation-trans, IsPermutation-append_left, IsPermutation-append_right, IsPermutation-append_comm, length_permutation}
use Rattle.crossbeam_queue.proofs.Lists.{at_set, at_snoc, set_else}
use Rattle.aseba_queues.specs.declared.view.View.{View}
use Rattle.aseba_queues.specs.Views.{first, working, spent, put, noted, owned, lessened, beside, both}
use Rattle.aseba_queues.specs.Holds.{lists_of, parts_of, Fits, Seated}
use Rattle.aseba_queues.specs.Merges.{IsMerge}
use Rattle.aseba_queues.proofs.MergeLemmas.{moved, merge_permuted, merge_put, merge_with_empty}

abbrev pub Each : {T : Type 0} → (ℕ → View T → Type 0) → List (View T) → Type 0
Each {T} F views = (pass : ℕ) (v : View T) → get_elem? views pass ≡ some v → F pass v

-- of views with one replaced, what is so of the new one and of the others
pub each_set : {T : Type 0} (F : ℕ → View T → Type 0) (views : List (View T)) (pass : ℕ) (w : View T) → F pass w → ((other : ℕ) (u : View T) → other ≢ pass → get_elem? views other ≡ some u → F other u) → Each F (set views pass w)
each_set {T} F views pass w mine others j u e = ⊎_elim
    (λ (x : (j ≡ pass) × (w ≡ u)). subst (λ (y : ℕ × View T). F y.0 y.1) (λ i. (sym x.0 i, x.1 i)) mine)
    (λ (x : (j ≢ pass) × (get_elem? views j ≡ some u)). others j u x.0 x.1)
    (at_set views pass j w u e)

-- The lists of the pass with the view v, and the others: with v replaced the others stay.
pub kept : {T : Type 0} (views : List (View T)) (pass : ℕ) (v : View T) → get_elem? views pass ≡ some v
    → (rest : List (List T)) × IsPermutation (lists_of views) (v.many ++ rest) × ((w : View T) → IsPermutation (lists_of (set views pass w)) (w.many ++ rest))
kept [] pass v at = absurd (some-ne-none v (sym at))
kept {T} (u ∷ us) zero v at =
    let P : View T → Type 0 = λ y. IsPermutation (u.many ++ lists_of us) (y.many ++ lists_of us) in
    (lists_of us, subst P (some-injective u v at) (IsPermutation-refl (u.many ++ lists_of us)), λ w. IsPermutation-refl (w.many ++ lists_of us))
kept (u ∷ us) (suc pass) v at =
    let k = kept us pass v at in
    (u.many ++ k.0, moved u.many (lists_of us) v.many k.0 k.1, λ w. moved u.many (lists_of (set us pass w)) w.many k.0 (k.2 w))

pub parts_set : {T : Type 0} (views : List (View T)) (pass : ℕ) (v w : View T) → get_elem? views pass ≡ some v → parts_of (set views pass w) + v.parts ≡ parts_of views + w.parts
parts_set [] pass v w at = absurd (some-ne-none v (sym at))
parts_set {T} (u ∷ us) zero v w at =
    let count : View T → ℕ = λ y. y.parts in
    omega (arith, sum_by-cons count w us, sum_by-cons count u us, ap count (some-injective u v at))
parts_set {T} (u ∷ us) (suc pass) v w at =
    let count : View T → ℕ = λ y. y.parts in
    omega (arith, sum_by-cons count u (set us pass w), sum_by-cons count u us, parts_set us pass v w at)

-- where there are no parts, and what has none keeps no lists, there are no lists
pub no_lists : {T : Type 0} (views : List (View T)) → parts_of views ≡ 0 → Each (λ pass v. v.parts ≡ 0 → v.many ≡ []) views → lists_of views ≡ []
no_lists [] none each = refl
no_lists {T} (u ∷ us) none each =
    let count : View T → ℕ = λ y. y.parts in
    let cons = sum_by-cons count u us in
    let here : u.many ≡ [] = each 0 u refl (omega (arith, none, cons)) in
    let there : lists_of us ≡ [] = no_lists us (omega (arith, none, cons)) (λ pass v at. each (suc pass) v at) in
    ap (λ (l : List (List T)). l ++ lists_of us) here ∙ there

-- a view with the same parts in the place of another
pub seated_set : {T : Type 0} (owner owner' : ℕ) (items items' : List T) (views : List (View T)) (pass : ℕ) (v w : View T) → Seated owner items views → get_elem? views pass ≡ some v → w.parts ≡ v.parts
    → Fits owner' items' pass w → ((other : ℕ) (u : View T) → other ≢ pass → get_elem? views other ≡ some u → Fits owner' items' other u) → Seated owner' items' (set views pass w)
seated_set owner owner' items items' views pass v w seated at same mine others = record {
  parts = omega (arith, parts_set views pass v w at, seated.parts, same);
  each = each_set (Fits owner' items') views pass w mine others;
}

-- a step of a pass that works on the side of the many
pub seated_noted : {T : Type 0} (owner : ℕ) (items : List T) (views : List (View T)) (pass : ℕ) (v : View T) (x : T) → 0 < v.parts → Seated owner items views → get_elem? views pass ≡ some v → Seated owner items (set views pass (noted x v))
seated_noted owner items views pass v x some_part seated at =
    let mine = seated.each pass v at in
    seated_set owner owner items items views pass v (noted x v) seated at refl
    (record { owning = mine.owning; working = mine.working; idle = λ none. absurd (omega arith) })
    (λ other u _ there. seated.each other u there)

-- where one pass owns, no other one does
pub lone : {T : Type 0} (owner : ℕ) (items items' : List T) (pass other : ℕ) (v u : View T) → v.owns ≡ true → other ≢ pass → Fits owner items pass v → Fits owner items other u → (owner' : ℕ) → Fits owner' items' other u
lone owner items items' pass other v u owns apart mine theirs owner' = record {
  owning = λ p. absurd (apart ((theirs.owning p).0 ∙ sym (mine.owning owns).0));
  working = theirs.working;
  idle = theirs.idle;
}

-- a step of the owner
pub seated_owned : {T : Type 0} (owner : ℕ) (items : List T) (views : List (View T)) (pass : ℕ) (v : View T) (x : T) → v.owns ≡ true → Seated owner items views → get_elem? views pass ≡ some v
    → (v.one ≡ items) × Seated owner (items ++ x ∷ []) (set views pass (owned x v))
seated_owned {T} owner items views pass v x owns seated at =
    let mine = seated.each pass v at in
    let is = mine.owning owns in (
      is.1,
      seated_set owner owner items (items ++ x ∷ []) views pass v (owned x v) seated at refl
          (record {
            owning = λ _. (is.0, ap (λ (l : List T). l ++ x ∷ []) is.1);
            working = λ no. absurd (true≢false (sym owns ∙ no));
            idle = λ none. absurd (true≢false (sym owns ∙ (mine.idle none).1));
          })
          (λ other u apart there. lone owner items (items ++ x ∷ []) pass other v u owns apart mine (seated.each other u there) owner),
    )

-- a new pass beside the others
pub seated_split : {T : Type 0} (owner : ℕ) (items : List T) (views : List (View T)) (pass : ℕ) (v : View T) → 1 < v.parts → Seated owner items views → get_elem? views pass ≡ some v
    → Seated owner items (set views pass (lessened v) ++ working [] ∷ [])
seated_split {T} owner items views pass v more seated at =
    let count : View T → ℕ = λ y. y.parts in
    let left : View T = lessened v in
    let right : View T = working [] in
    let vs : List (View T) = set views pass left in
    let mine = seated.each pass v at in
    let each : Each (Fits owner items) vs = each_set (Fits owner items) views pass left
    (record { owning = mine.owning; working = mine.working; idle = λ none. absurd (omega arith) })
    (λ other u _ there. seated.each other u there) in
    let new : Fits owner items (length vs) right = record { owning = λ p. absurd (true≢false (sym p)); working = λ _. refl; idle = λ none. absurd (omega arith) } in
    record {
      parts = omega (arith, sum_by_push count vs right, parts_set views pass v left at, seated.parts);
      each = λ j u e. ⊎_elim (λ there. each j u there) (λ (is : right ≡ u). subst (λ (y : View T). Fits owner items j y) is (anywhere j)) (at_snoc vs right u j e);
    }
  where
    anywhere : (j : ℕ) → Fits owner items j (working [])
    anywhere j = record { owning = λ p. absurd (true≢false (sym p)); working = λ _. refl; idle = λ none. absurd (omega arith) }

-- without parts no owner
not_both : {T : Type 0} (owner : ℕ) (items : List T) (pass other : ℕ) (v w : View T) → w.owns ≡ true → ¬ (other ≡ pass) → Fits owner items pass v → Fits owner items other w → v.one ≡ []
not_both owner items pass other v w owns apart mine theirs = by v.owns refl
  where
    by : (t : Bool) → v.owns ≡ t → v.one ≡ []
    by true p = absurd (apart ((theirs.owning owns).0 ∙ sym (mine.owning p).0))
    by false p = mine.working p

-- of two passes that become one: what stays fits the owner, who is the one that stays where the other one was
fits_both : {T : Type 0} (owner : ℕ) (items : List T) (pass other : ℕ) (v w : View T) → ¬ (other ≡ pass) → Fits owner items pass v → Fits owner items other w
    → (t : Bool) → w.owns ≡ t → Fits (cond t pass owner) items pass (cond t (beside w v) (beside v w))
fits_both {T} owner items pass other v w apart mine theirs true p = record {
  owning = λ _. (refl, ap (λ (l : List T). w.one ++ l) (not_both owner items pass other v w p apart mine theirs) ∙ append-nil w.one ∙ (theirs.owning p).1);
  working = λ no. absurd (true≢false (sym p ∙ no));
  idle = λ none. absurd (true≢false (sym p ∙ (theirs.idle (omega arith)).1));
}
fits_both {T} owner items pass other v w apart mine theirs false p =
    let same : v.one ++ w.one ≡ v.one = ap (λ (l : List T). v.one ++ l) (theirs.working p) ∙ append-nil v.one in
    record {
      owning = λ own. ((mine.owning own).0, same ∙ (mine.owning own).1);
      working = λ no. same ∙ mine.working no;
      idle = λ none.
          let here = mine.idle (omega arith) in
          let there = theirs.idle (omega arith) in
          (ap (λ (l : List (List T)). l ++ w.many) here.0 ∙ there.0, here.1);
    }

-- the passes that stay apart of a join fit the owner too
fits_beside : {T : Type 0} (owner : ℕ) (items : List T) (pass other j : ℕ) (w u : View T) → j ≢ other → Fits owner items other w → Fits owner items j u
    → (t : Bool) → w.owns ≡ t → Fits (cond t pass owner) items j u
fits_beside owner items pass other j w u apart theirs mine true p = lone owner items items other j w u p apart theirs mine pass
fits_beside owner items pass other j w u apart theirs mine false p = mine

parts_both : {T : Type 0} (v w : View T) (t : Bool) → (cond t (beside w v) (beside v w)).parts ≡ v.parts + w.parts
parts_both v w true = omega arith
parts_both v w false = refl

many_both : {T : Type 0} (v w : View T) (t : Bool) → IsPermutation (w.many ++ v.many) (cond t (beside w v) (beside v w)).many
many_both v w true = IsPermutation-refl (w.many ++ v.many)
many_both v w false = IsPermutation-append_comm w.many v.many

-- where the other pass was before the first one got its view
was_there : {T : Type 0} (views : List (View T)) (pass other : ℕ) (b w : View T) → ¬ (other ≡ pass) → get_elem? (set views pass b) other ≡ some w → get_elem? views other ≡ some w
was_there views pass other b w apart at = ⊎_elim (λ x. absurd (apart x.0)) (λ x. x.1) (at_set views pass other b w at)

pub seated_both : {T : Type 0} (owner : ℕ) (items : List T) (views : List (View T)) (pass other : ℕ) (v w : View T) → Seated owner items views → get_elem? views pass ≡ some v → ¬ (other ≡ pass)
    → get_elem? (set views pass (both v w)) other ≡ some w → Seated (cond w.owns pass owner) items (set (set views pass (both v w)) other spent)
seated_both {T} owner items views pass other v w seated at apart at' =
    let b : View T = both v w in
    let vs : List (View T) = set views pass b in
    let there = was_there views pass other b w apart at' in
    let mine = seated.each pass v at in
    let theirs = seated.each other w there in
    let fits : Fits (cond w.owns pass owner) items pass b = fits_both owner items pass other v w apart mine theirs w.owns refl in
    record {
      parts = omega (arith, parts_set vs other w spent at', parts_set views pass v b at, parts_both v w w.owns, seated.parts);
      each = each_set (Fits (cond w.owns pass owner) items) vs other spent
          (record { owning = λ p. absurd (true≢false (sym p)); working = λ _. refl; idle = λ _. (refl, refl) })
          (λ j u far e. ⊎_elim
          (λ (x : (j ≡ pass) × (b ≡ u)). subst (λ (y : ℕ × View T). Fits (cond w.owns pass owner) items y.0 y.1) (λ i. (sym x.0 i, x.1 i)) fits)
          (λ (x : (j ≢ pass) × (get_elem? views j ≡ some u)). fits_beside owner items pass other j w u far theirs (seated.each j u x.1) w.owns refl)
          (at_set views pass j b u e));
    }

-- a join moves lists, and none is lost
pub lists_both : {T : Type 0} (views : List (View T)) (pass other : ℕ) (v w : View T) → get_elem? views pass ≡ some v → ¬ (other ≡ pass) → get_elem? (set views pass (both v w)) other ≡ some w
    → IsPermutation (lists_of views) (lists_of (set (set views pass (both v w)) other spent))
lists_both {T} views pass other v w at apart at' =
    let b : View T = both v w in
    let there = was_there views pass other b w apart at' in
    let back : pass ≢ other = λ e. apart (sym e) in
    let k = kept views other w there in
    let before : List (View T) = set views other spent in
    let k' = kept before pass v (set_else views other pass spent back ∙ at) in
    let final : IsPermutation (lists_of (set before pass b)) (b.many ++ k'.0) = k'.2 b in
    let step : IsPermutation k.0 (v.many ++ k'.0) = IsPermutation-trans k.0 (lists_of before) (v.many ++ k'.0) (IsPermutation-sym (lists_of before) k.0 (k.2 spent)) k'.1 in
    let all : IsPermutation (lists_of views) ((w.many ++ v.many) ++ k'.0) = rw (append_assoc w.many v.many k'.0)
    (IsPermutation-trans (lists_of views) (w.many ++ k.0) (w.many ++ (v.many ++ k'.0)) k.1 (IsPermutation-append_right w.many k.0 (v.many ++ k'.0) step)) in
    let mixed : IsPermutation ((w.many ++ v.many) ++ k'.0) (b.many ++ k'.0) = IsPermutation-append_left k'.0 (w.many ++ v.many) b.many (many_both v w w.owns) in
    let P : List (View T) → Type 0 = λ vs. IsPermutation (lists_of views) (lists_of vs) in
    subst P (set_comm views other pass spent b (λ e. back (sym e)))
    (IsPermutation-trans (lists_of views) (b.many ++ k'.0) (lists_of (set before pass b))
    (IsPermutation-trans (lists_of views) ((w.many ++ v.many) ++ k'.0) (b.many ++ k'.0) all mixed)
    (IsPermutation-sym (lists_of (set before pass b)) (b.many ++ k'.0) final))

-- an item noted by one pass
pub merge_noted : {T : Type 0} (views : List (View T)) (pass : ℕ) (v : View T) (x : T) (items : List T) → get_elem? views pass ≡ some v → IsMerge (lists_of views) items
    → IsMerge (lists_of (set views pass (noted x v))) (items ++ x ∷ [])
merge_noted views pass v x items at m =
    let k = kept views pass v at in
    let w = noted x v in
    merge_permuted (put x v.many ++ k.0) (lists_of (set views pass w)) (items ++ x ∷ []) (IsPermutation-sym (lists_of (set views pass w)) (put x v.many ++ k.0) (k.2 w))
    (merge_put x v.many k.0 items (merge_permuted (lists_of views) (v.many ++ k.0) items k.1 m))

-- a view with the same lists
pub merge_same : {T : Type 0} (views : List (View T)) (pass : ℕ) (v w : View T) (items : List T) → get_elem? views pass ≡ some v → w.many ≡ v.many → IsMerge (lists_of views) items → IsMerge (lists_of (set views pass w)) items
merge_same {T} views pass v w items at same m =
    let k = kept views pass v at in
    let P : List (List T) → Type 0 = λ l. IsPermutation (lists_of (set views pass w)) (l ++ k.0) in
    let now : IsPermutation (lists_of (set views pass w)) (v.many ++ k.0) = subst P same (k.2 w) in
    merge_permuted (lists_of views) (lists_of (set views pass w)) items (IsPermutation-trans (lists_of views) (v.many ++ k.0) (lists_of (set views pass w)) k.1 (IsPermutation-sym (lists_of (set views pass w)) (v.many ++ k.0) now)) m

-- a new pass with an empty list
pub merge_split : {T : Type 0} (views : List (View T)) (pass : ℕ) (v : View T) (items : List T) → get_elem? views pass ≡ some v → IsMerge (lists_of views) items → IsMerge (lists_of (set views pass (lessened v) ++ working [] ∷ [])) items
merge_split {T} views pass v items at m =
    let vs : List (View T) = set views pass (lessened v) in
    let P : List (List T) → Type 0 = λ lists. IsMerge lists items in
    subst P (sym (flat_map-append (λ (y : View T). y.many) vs (working [] ∷ []))) (merge_with_empty (lists_of vs) items (merge_same views pass v (lessened v) items at refl m))

pub merge_both : {T : Type 0} (views : List (View T)) (pass other : ℕ) (v w : View T) (items : List T) → get_elem? views pass ≡ some v → ¬ (other ≡ pass) → get_elem? (set views pass (both v w)) other ≡ some w
    → IsMerge (lists_of views) items → IsMerge (lists_of (set (set views pass (both v w)) other spent)) items
merge_both views pass other v w items at apart at' m =
    merge_permuted (lists_of views) (lists_of (set (set views pass (both v w)) other spent)) items (lists_both views pass other v w at apart at') m

-- the lists of a pass with all parts are all lists
pub merge_whole : {T : Type 0} (owner : ℕ) (mine : List T) (views : List (View T)) (pass : ℕ) (v : View T) (items : List T) → Seated owner mine views → get_elem? views pass ≡ some v → v.parts ≡ 1024 → IsMerge (lists_of views) items → IsMerge v.many items
merge_whole {T} owner mine views pass v items seated at whole m =
    let k = kept views pass v at in
    let bare : List (View T) = set views pass spent in
    let none : parts_of bare ≡ 0 = omega (arith, parts_set views pass v spent at, seated.parts) in
    let Empty : ℕ → View T → Type 0 = λ _ u. u.parts ≡ 0 → u.many ≡ [] in
    let empty : lists_of bare ≡ [] = no_lists bare none (each_set Empty views pass spent (λ _. refl) (λ j u _ there idle. ((seated.each j u there).idle idle).0)) in
    let rest : length k.0 ≡ 0 = length_permutation (lists_of bare) k.0 (k.2 spent) ∙ ap (λ (l : List (List T)). length l) empty in
    let P : List (List T) → Type 0 = λ l. IsPermutation (lists_of views) (v.many ++ l) in
    let now : IsPermutation (lists_of views) (v.many ++ []) = subst P (nothing k.0 rest) k.1 in
    merge_permuted (lists_of views) v.many items (rw (sym (append-nil v.many)) now) m
  where
    nothing : (l : List (List T)) → length l ≡ 0 → l ≡ []
    nothing [] h = refl
    nothing (x ∷ xs) h = absurd (omega arith)

pub seated_first : {T : Type 0} → Seated {T = T} 0 [] (first ∷ [])
seated_first {T} = record { parts = refl; each = begin }
  where
    only : Fits {T = T} 0 [] 0 first
    only = record { owning = λ _. (refl, refl); working = λ _. refl; idle = λ none. absurd (omega arith) }

    begin : (pass : ℕ) (v : View T) → get_elem? (first ∷ []) pass ≡ some v → Fits 0 [] pass v
    begin zero v at = let P : View T → Type 0 = λ u. Fits 0 [] 0 u in subst P (some-injective first v at) only
    begin (suc pass) v at = absurd (some-ne-none v (sym at))
