-- Values that are put into cells, by the machine and by the core; and where a variable lies for both.
use Rattle.std.proofs.Common.{◌≡◌, ℕ, zero, suc, ◌+◌, ◌-◌, ◌%◌, ◌<◌, ◌≤◌, Bool, true, false, if◌then◌else◌, ℤ, pos, List, [], ◌∷◌, ◌++◌, length, take, drop, slice_index_or, slice_set, Option, Some, None, unwrap_or, refl, sym, ap, ◌∙◌, subst, arith, length-set}
use Rattle.std.proofs.lemmas.List.{length-take, take_all}
use Rattle.std.proofs.lemmas.List.Sums.{sum_by-cons}
use Rattle.std.specs.Prelude.{All, find, option_map, bytes_eq, sum_by}
use Rattle.std.specs.Int.{cast_signed, w16, int_wrap}
use Rattle.aseba_words.specs.Cell.{wrapped}
use Rattle.aseba_tree.specs.Code.{Name, Sized}
use Rattle.aseba_tree.specs.Layout.{Placed, placed_from, address_from}
use Rattle.aseba_tree.specs.CoreStep.{put_from, put_into}
use Rattle.aseba_vm.specs.State.{named}
use Rattle.aseba_vm.specs.Lists.{overwritten}
use Rattle.aseba_codegen.proofs.CellLists.{set-alike}

-- Lists

put_from-tail : {A : Type 0} (x : A) (xs : List A) (at : ℕ) (vs : List A) → put_from (x ∷ xs) (suc at) vs ≡ x ∷ put_from xs at vs
put_from-tail x xs at [] = refl
put_from-tail x xs at (v ∷ vs) = put_from-tail x (slice_set xs at v) (suc at) vs

pub put_from-long : {A : Type 0} (xs : List A) (at : ℕ) (vs : List A) → length (put_from xs at vs) ≡ length xs
put_from-long xs at [] = refl
put_from-long xs at (v ∷ vs) = put_from-long (slice_set xs at v) (suc at) vs ∙ length-set xs at v

pub put_into-long : {A : Type 0} (o : Option (ℕ × ℕ)) (first : ℕ) (vs xs : List A) → length (put_into o first vs xs) ≡ length xs
put_into-long None first vs xs = refl
put_into-long (Some x) first vs xs = put_from-long xs (x.0 + first) (take (x.1 - first) vs)

front-put : {A : Type 0} (vs xs : List A) → length vs ≤ length xs → vs ++ drop (length vs) xs ≡ put_from xs 0 vs
front-put [] xs h = refl
front-put (v ∷ vs) [] h = absurd (omega arith)
front-put (v ∷ vs) (x ∷ xs) h = ap (λ rest. v ∷ rest) (front-put vs xs (omega arith)) ∙ sym (put_from-tail v xs 0 vs)

-- where they fit, values are put one after the other
pub overwritten-put : {A : Type 0} (at : ℕ) (vs xs : List A) → at + length vs ≤ length xs → overwritten at vs xs ≡ put_from xs at vs
overwritten-put zero vs xs h = let e : 0 + length vs ≡ length vs = omega arith in rw e (front-put vs xs (omega arith))
overwritten-put (suc at) [] [] h = absurd (omega arith)
overwritten-put (suc at) (v ∷ vs) [] h = absurd (omega arith)
overwritten-put (suc at) vs (x ∷ xs) h =
    let e : suc at + length vs ≡ suc (at + length vs) = omega arith in
    rw e (ap (λ rest. x ∷ rest) (overwritten-put at vs xs (omega arith)) ∙ sym (put_from-tail x xs at vs))

-- values in two lists leave them alike where they were
pub put_from-alike : {A : Type 0} (vs xs ys : List A) (at i : ℕ) (d : A) → at + length vs ≤ length xs → at + length vs ≤ length ys → slice_index_or xs i d ≡ slice_index_or ys i d
    → slice_index_or (put_from xs at vs) i d ≡ slice_index_or (put_from ys at vs) i d
put_from-alike [] xs ys at i d in_x in_y h = h
put_from-alike (v ∷ vs) xs ys at i d in_x in_y h =
    put_from-alike vs (slice_set xs at v) (slice_set ys at v) (suc at) i d (omega (arith, length-set xs at v)) (omega (arith, length-set ys at v))
    (set-alike xs ys at i v d (omega arith) (omega arith) h)

pub put_into-alike : {A : Type 0} (o : Option (ℕ × ℕ)) (vs xs ys : List A) (i : ℕ) (d : A) → ((x : ℕ × ℕ) → o ≡ Some x → x.0 + x.1 ≤ length xs) → ((x : ℕ × ℕ) → o ≡ Some x → x.0 + x.1 ≤ length ys)
    → slice_index_or xs i d ≡ slice_index_or ys i d → slice_index_or (put_into o 0 vs xs) i d ≡ slice_index_or (put_into o 0 vs ys) i d
put_into-alike None vs xs ys i d in_x in_y h = h
put_into-alike (Some x) vs xs ys i d in_x in_y h =
    let long : length (take (x.1 - 0) vs) ≤ x.1 = omega (arith, length-take (x.1 - 0) vs) in
    let inside : x.0 + x.1 ≤ length xs = in_x x refl in
    let inside_too : x.0 + x.1 ≤ length ys = in_y x refl in
    put_from-alike (take (x.1 - 0) vs) xs ys (x.0 + 0) i d (omega arith) (omega arith) h

-- as many values as a variable has place for
pub put_into-all : {A : Type 0} (x : ℕ × ℕ) (first : ℕ) (vs xs : List A) → first + length vs ≤ x.1 → put_into (Some x) first vs xs ≡ put_from xs (x.0 + first) vs
put_into-all x first vs xs h = ap (put_from xs (x.0 + first)) (take_all (x.1 - first) vs (omega arith))

-- Variables

-- a place and an address are of the same cells
abbrev pub SamePlace : Option Placed → Option (ℕ × ℕ) → Type 0
SamePlace None None = Unit {0}
SamePlace (Some v) (Some x) = (v.start ≡ x.0) × (v.size ≡ x.1)
SamePlace _ _ = ⊥

pub same-place : (variables : List Sized) (name : Name) (base : ℕ) → SamePlace (find (λ v. bytes_eq v.name name) (placed_from base variables)) (address_from base variables name)
same-place [] name base = tt
same-place (v ∷ variables) name base = by_test (bytes_eq v.name name) (same-place variables name (base + v.size))
  where
    by_test : (b : Bool) → SamePlace (find (λ v. bytes_eq v.name name) (placed_from (base + v.size) variables)) (address_from (base + v.size) variables name)
        → SamePlace (if b then Some (record { name = v.name; start = base; size = v.size }) else find (λ v. bytes_eq v.name name) (placed_from (base + v.size) variables))
        (if b then Some (base, v.size) else address_from (base + v.size) variables name)
    by_test true ih = (refl, refl)
    by_test false ih = ih

pub address-size : (variables : List Sized) (name : Name) (base : ℕ) (x : ℕ × ℕ) → All (λ v. 1 ≤ v.size) variables → address_from base variables name ≡ Some x → 1 ≤ x.1
address-size [] name base x all e = cc
address-size (v ∷ variables) name base x all e =
    by_test (bytes_eq v.name name) e (λ h. address-size variables name (base + v.size) x (λ k d below. all (suc k) d (omega arith)) h)
  where
    by_test : (b : Bool) → (if b then Some (base, v.size) else address_from (base + v.size) variables name) ≡ Some x → (address_from (base + v.size) variables name ≡ Some x → 1 ≤ x.1) → 1 ≤ x.1
    by_test true h ih = let same : (base, v.size) ≡ x = cc in subst (λ (y : ℕ × ℕ). 1 ≤ y.1) same (all zero v (omega arith))
    by_test false h ih = ih h

-- a variable lies inside the cells of all
pub address-inside : (variables : List Sized) (name : Name) (base : ℕ) (x : ℕ × ℕ) → address_from base variables name ≡ Some x → x.0 + x.1 ≤ base + sum_by (λ v. v.size) variables
address-inside [] name base x e = cc
address-inside (v ∷ variables) name base x e =
    by_test (bytes_eq v.name name) e (λ h. address-inside variables name (base + v.size) x h)
  where
    sums : sum_by (λ s. s.size) (v ∷ variables) ≡ v.size + sum_by (λ s. s.size) variables
    sums = sum_by-cons (λ (s : Sized). s.size) v variables

    by_test : (b : Bool) → (if b then Some (base, v.size) else address_from (base + v.size) variables name) ≡ Some x
        → (address_from (base + v.size) variables name ≡ Some x → x.0 + x.1 ≤ base + v.size + sum_by (λ s. s.size) variables) → x.0 + x.1 ≤ base + sum_by (λ s. s.size) (v ∷ variables)
    by_test true h ih = let same : (base, v.size) ≡ x = cc in subst (λ (y : ℕ × ℕ). y.0 + y.1 ≤ base + sum_by (λ s. s.size) (v ∷ variables)) same (omega (arith, sums))
    by_test false h ih = let inside = ih h in omega (arith, sums)

-- What an event tells

-- a number of sixteen bits as a cell
pub number-cell : (n : ℕ) → n < 65536 → cast_signed w16 n ≡ wrapped (pos n)
unfolding int_wrap
number-cell n below = let same : n ≡ n % 65536 = omega arith in ap (cast_signed w16) same

take-one : {A : Type 0} (n : ℕ) (x : A) → 1 ≤ n → take n (x ∷ []) ≡ x ∷ []
take-one n x h = take_all n (x ∷ []) (omega arith)

-- a number in a named variable
pub named-put : (o : Option Placed) (a : Option (ℕ × ℕ)) (number : ℕ) (cells : List ℤ) → SamePlace o a → ((x : ℕ × ℕ) → a ≡ Some x → 1 ≤ x.1) → number < 65536
    → named (option_map (λ v. v.start) o) number cells ≡ put_into a 0 (wrapped (pos number) ∷ []) cells
named-put None None number cells same some low = refl
named-put None (Some x) number cells same some low = absurd same
named-put (Some v) None number cells same some low = absurd same
named-put (Some v) (Some x) number cells same some low =
    let size : 1 ≤ x.1 = some x refl in
    let one : put_into (Some x) 0 (wrapped (pos number) ∷ []) cells ≡ slice_set cells (x.0 + 0) (wrapped (pos number)) = put_into-all x 0 (wrapped (pos number) ∷ []) cells (omega arith) in
    let place : v.start ≡ x.0 + 0 = let start : v.start ≡ x.0 = same.0 in omega arith in
    ap (λ at. slice_set cells at (cast_signed w16 number)) place ∙ ap (slice_set cells (x.0 + 0)) (number-cell number low) ∙ sym one

-- arguments in a variable that takes as many as it has cells
pub args-put : (o : Option Placed) (a : Option (ℕ × ℕ)) (args cells : List ℤ) → SamePlace o a → ((x : ℕ × ℕ) → a ≡ Some x → x.0 + x.1 ≤ length cells)
    → overwritten (unwrap_or (option_map (λ v. v.start) o) 0) (take (unwrap_or (option_map (λ v. v.size) o) 0) args) cells ≡ put_into a 0 args cells
args-put None None args cells same inside = overwritten-put 0 [] cells (omega arith)
args-put None (Some x) args cells same inside = absurd same
args-put (Some v) None args cells same inside = absurd same
args-put (Some v) (Some x) args cells same inside =
    let fits : x.0 + x.1 ≤ length cells = inside x refl in
    let start : v.start ≡ x.0 + 0 = let e : v.start ≡ x.0 = same.0 in omega arith in
    let size : v.size ≡ x.1 - 0 = let e : v.size ≡ x.1 = same.1 in omega arith in
    let long : length (take (x.1 - 0) args) ≤ x.1 = omega (arith, length-take (x.1 - 0) args) in
    ap (λ at. overwritten at (take v.size args) cells) start ∙ ap (λ n. overwritten (x.0 + 0) (take n args) cells) size ∙ overwritten-put (x.0 + 0) (take (x.1 - 0) args) cells (omega arith)
