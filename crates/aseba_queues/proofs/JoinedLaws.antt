-- What follows of merges once all passes are joined.
use Rattle.std.proofs.Common.{◌≡◌, refl, sym, ap, ◌∙◌, subst, ℕ, zero, suc, ◌≢◌, Bool, true, false, cond, List, [], ◌∷◌, ◌++◌, length, map, reverse, get_or, All, filter, arith}
use Rattle.std.specs.Prelude.{IsPermutation}
use Rattle.std.specs.List.{sum_by, AllPass}
use Rattle.std.proofs.lemmas.List.{append-nil, length-append, length-reverse, reverse-append, reverse-reverse}
use Rattle.std.proofs.lemmas.List.Elements.{All-nil, All-cons, All-head, All-tail, All-append, All-same, filter-append}
use Rattle.std.proofs.lemmas.List.Sorted.{All-permutation, IsPermutation-refl, IsPermutation-sym, IsPermutation-trans, IsPermutation-cons, IsPermutation-middle, IsPermutation-map, sum_by-IsPermutation}
use Rattle.std.proofs.lemmas.List.Sums.{sum_by-cons}
use Rattle.aseba_queues.specs.Merges.{MergesBackwards, IsMerge}
use Rattle.aseba_queues.specs.Joined.{IsAlone, TakenIsPushed, PushedIsTaken, SharesMerge, OneIsItself, LengthsAddUp, EachIsSo}
use Rattle.aseba_queues.proofs.MergeLemmas.{permuted, with_empty, one_left}

pub one_is_itself : {T : Type 0} → OneIsItself T
one_is_itself {T} list items m = sym (one_left (list ∷ []) (reverse items) list [] (IsPermutation-refl (list ∷ [])) refl m ∙ reverse-reverse items)

pub pushed_is_taken : {T : Type 0} → PushedIsTaken T
pushed_is_taken {T} v items popped whole one =
    let P : List (List T) → Type 0 = λ lists. IsMerge lists whole.0 in
    let same : whole.0 ≡ popped = one_is_itself popped whole.0 (subst P one whole.2) in
    whole.1 ∙ ap (λ (l : List T). l ++ items) same

filter-reverse : {T : Type 0} (test : T → Bool) (items : List T) → filter test (reverse items) ≡ reverse (filter test items)
filter-reverse test [] = refl
filter-reverse {T} test (x ∷ items) =
    ap (filter test) (reverse-append (x ∷ []) items) ∙ filter-append test (reverse items) (x ∷ []) ∙ by (test x) (filter-reverse test items)
  where
    by : (t : Bool) → filter test (reverse items) ≡ reverse (filter test items) → filter test (reverse items) ++ cond t (x ∷ []) [] ≡ reverse (cond t (x ∷ filter test items) (filter test items))
    by true rest = ap (λ (l : List T). l ++ x ∷ []) rest ∙ sym (reverse-append (x ∷ []) (filter test items))
    by false rest = append-nil (filter test (reverse items)) ∙ rest

shares_back : {T : Type 0} (test : T → Bool) (lists : List (List T)) (items : List T) → MergesBackwards lists items → MergesBackwards (map (filter test) lists) (filter test items)
shares_back {T} test lists [] m = empty lists m
  where
    empty : (ls : List (List T)) → All (λ (list : List T). list ≡ []) ls → All (λ (list : List T). list ≡ []) (map (filter test) ls)
    empty [] h = All-nil (λ (list : List T). list ≡ [])
    empty (l ∷ ls) h = All-cons (λ (list : List T). list ≡ []) (filter test l) (map (filter test) ls) (ap (filter test) (All-head (λ (list : List T). list ≡ []) l ls h)) (empty ls (All-tail (λ (list : List T). list ≡ []) l ls h))
shares_back {T} test lists (x ∷ earlier) m =
    let mapped = IsPermutation-map (filter test) lists ((m.0 ++ x ∷ []) ∷ m.1) m.2 in
    by (test x) (filter-append test m.0 (x ∷ [])) mapped (shares_back test (m.0 ∷ m.1) earlier m.3)
  where
    by : (t : Bool) → filter test (m.0 ++ x ∷ []) ≡ filter test m.0 ++ cond t (x ∷ []) [] → IsPermutation (map (filter test) lists) (filter test (m.0 ++ x ∷ []) ∷ map (filter test) m.1)
        → MergesBackwards (filter test m.0 ∷ map (filter test) m.1) (filter test earlier) → MergesBackwards (map (filter test) lists) (cond t (x ∷ filter test earlier) (filter test earlier))
    by true split p rest =
        let P : List T → Type 0 = λ l. IsPermutation (map (filter test) lists) (l ∷ map (filter test) m.1) in
        (filter test m.0, map (filter test) m.1, subst P split p, rest)
    by false split p rest =
        let P : List T → Type 0 = λ l. IsPermutation (map (filter test) lists) (l ∷ map (filter test) m.1) in
        let p' : IsPermutation (map (filter test) lists) (filter test m.0 ∷ map (filter test) m.1) = subst P (split ∙ append-nil (filter test m.0)) p in
        permuted (filter test m.0 ∷ map (filter test) m.1) (map (filter test) lists) (filter test earlier) (IsPermutation-sym (map (filter test) lists) (filter test m.0 ∷ map (filter test) m.1) p') rest

pub shares_merge : {T : Type 0} → SharesMerge T
shares_merge {T} test lists items m =
    let P : List T → Type 0 = λ l. MergesBackwards (map (filter test) lists) l in
    subst P (filter-reverse test items) (shares_back test lists (reverse items) m)

-- the list with that number in front of lists without items
abbrev Alone : {T : Type 0} → ℕ → List (List T) → Type 0
Alone {T} number lists = (rest : List (List T)) × IsPermutation ([] ∷ lists) (get_or lists number [] ∷ rest) × (sum_by (λ (list : List T). length list) rest ≡ 0)

alone : {T : Type 0} (number : ℕ) (lists : List (List T)) → ((other : ℕ) → other ≢ number → get_or lists other [] ≡ []) → Alone number lists
alone {T} number [] others = let nothing : List T = [] in ([], IsPermutation-refl (nothing ∷ []), refl)
alone {T} zero (list ∷ lists) others =
    let nothing : List T = [] in
    (nothing ∷ lists, IsPermutation-middle (nothing ∷ []) list lists, none lists (λ other. others (suc other) (λ e. absurd (omega arith))))
  where
    none : (ls : List (List T)) → ((other : ℕ) → get_or ls other [] ≡ []) → sum_by (λ (l : List T). length l) ([] ∷ ls) ≡ 0
    none [] h = refl
    none (l ∷ ls) h =
        let size : List T → ℕ = λ l. length l in
        let nothing : List T = [] in
        omega (arith, none ls (λ other. h (suc other)), sum_by-cons size nothing (l ∷ ls), sum_by-cons size l ls, sum_by-cons size nothing ls, ap size (h 0))
alone {T} (suc number) (list ∷ lists) others =
    let size : List T → ℕ = λ l. length l in
    let nothing : List T = [] in
    let this : List T = get_or lists number [] in
    let before = alone number lists (λ other apart. others (suc other) (λ e. apart (omega arith))) in
    let none : list ≡ [] = others 0 (λ e. absurd (omega arith)) in (
      list ∷ before.0,
      IsPermutation-trans (nothing ∷ list ∷ lists) (list ∷ nothing ∷ lists) (this ∷ list ∷ before.0)
          (IsPermutation-middle (nothing ∷ []) list lists)
          (IsPermutation-trans (list ∷ nothing ∷ lists) (list ∷ this ∷ before.0) (this ∷ list ∷ before.0) (IsPermutation-cons list (nothing ∷ lists) (this ∷ before.0) before.1) (IsPermutation-middle (list ∷ []) this before.0)),
      omega (arith, sum_by-cons size list before.0, before.2, ap size none),
    )

get_or-filter : {T : Type 0} (test : T → Bool) (lists : List (List T)) (number : ℕ) → get_or (map (filter test) lists) number [] ≡ filter test (get_or lists number [])
get_or-filter test [] number = refl
get_or-filter test (list ∷ lists) zero = refl
get_or-filter test (list ∷ lists) (suc number) = get_or-filter test lists number

-- of a merge, what passes a test is what passes it in the one list that has such items
pub share_alone : {T : Type 0} (test : T → Bool) (number : ℕ) (lists : List (List T)) (items : List T) → IsMerge lists items → IsAlone T test number lists → filter test items ≡ filter test (get_or lists number [])
share_alone {T} test number lists items m only =
    let mapped : List (List T) = map (filter test) lists in
    let nothing : List T = [] in
    let a = alone number mapped (λ other apart. get_or-filter test lists other ∙ only other apart) in
    let one : get_or mapped number [] ≡ reverse (reverse (filter test items)) = one_left (nothing ∷ mapped) (reverse (filter test items)) (get_or mapped number []) a.0 a.1 a.2
    (with_empty mapped (reverse (filter test items)) (shares_merge test lists items m)) in
    sym (sym (get_or-filter test lists number) ∙ one ∙ reverse-reverse (filter test items))

pub taken_is_pushed : {T : Type 0} → TakenIsPushed T
taken_is_pushed v items test number whole only = share_alone test number v.many (v.one ++ items) whole only

lengths_back : {T : Type 0} (lists : List (List T)) (items : List T) → MergesBackwards lists items → length items ≡ sum_by (λ (list : List T). length list) lists
lengths_back {T} lists [] m = empty lists m
  where
    empty : (ls : List (List T)) → All (λ (list : List T). list ≡ []) ls → 0 ≡ sum_by (λ (list : List T). length list) ls
    empty [] h = refl
    empty (l ∷ ls) h =
        let size : List T → ℕ = λ list. length list in
        omega (arith, sum_by-cons size l ls, ap size (All-head (λ (list : List T). list ≡ []) l ls h), empty ls (All-tail (λ (list : List T). list ≡ []) l ls h))
lengths_back {T} lists (x ∷ earlier) m =
    let size : List T → ℕ = λ list. length list in
    let end : List T = m.0 ++ x ∷ [] in
    omega (
      arith,
      lengths_back (m.0 ∷ m.1) earlier m.3,
      sum_by-IsPermutation size lists (end ∷ m.1) m.2,
      sum_by-cons size end m.1,
      sum_by-cons size m.0 m.1,
      length-append m.0 (x ∷ []),
    )

pub lengths_add_up : {T : Type 0} → LengthsAddUp T
lengths_add_up lists items m = sym (length-reverse items) ∙ lengths_back lists (reverse items) m

each_back : {T : Type 0} (test : T → Bool) (lists : List (List T)) (items : List T) → MergesBackwards lists items → All (AllPass test) lists → AllPass test items
each_back {T} test lists [] m all = All-nil (λ (x : T). test x ≡ true)
each_back {T} test lists (x ∷ earlier) m all =
    let Passes : T → Type 0 = λ y. test y ≡ true in
    let end : List T = m.0 ++ x ∷ [] in
    let now : All (AllPass test) (end ∷ m.1) = All-permutation (AllPass test) lists (end ∷ m.1) m.2 all in
    let here : All Passes end = All-head (AllPass test) end m.1 now in
    All-cons Passes x earlier (last m.0 x here) (each_back test (m.0 ∷ m.1) earlier m.3 (All-cons (AllPass test) m.0 m.1 (front m.0 x here) (All-tail (AllPass test) end m.1 now)))
  where
    front : (l : List T) (y : T) → All (λ (z : T). test z ≡ true) (l ++ y ∷ []) → All (λ (z : T). test z ≡ true) l
    front [] y h = All-nil (λ (z : T). test z ≡ true)
    front (z ∷ l) y h = All-cons (λ (u : T). test u ≡ true) z l (All-head (λ (u : T). test u ≡ true) z (l ++ y ∷ []) h) (front l y (All-tail (λ (u : T). test u ≡ true) z (l ++ y ∷ []) h))

    last : (l : List T) (y : T) → All (λ (z : T). test z ≡ true) (l ++ y ∷ []) → test y ≡ true
    last [] y h = All-head (λ (z : T). test z ≡ true) y [] h
    last (z ∷ l) y h = last l y (All-tail (λ (u : T). test u ≡ true) z (l ++ y ∷ []) h)

pub each_is_so : {T : Type 0} → EachIsSo T
each_is_so {T} test lists items m all =
    let Passes : T → Type 0 = λ y. test y ≡ true in
    let P : List T → Type 0 = λ l. All Passes l in
    subst P (reverse-reverse items) (turned (reverse items) (each_back test lists (reverse items) m all))
  where
    turned : (l : List T) → All (λ (z : T). test z ≡ true) l → All (λ (z : T). test z ≡ true) (reverse l)
    turned [] h = All-nil (λ (z : T). test z ≡ true)
    turned (z ∷ l) h =
        let Passes : T → Type 0 = λ y. test y ≡ true in
        All-same Passes (reverse (z ∷ l)) (reverse l ++ z ∷ []) (reverse-append (z ∷ []) l) (All-append Passes (reverse l) (z ∷ []) (turned l (All-tail Passes z l h)) (All-cons Passes z [] (All-head Passes z l h) (All-nil Passes)))
