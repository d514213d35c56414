-- Writes from outside, on both sides.
use Rattle.std.proofs.Common.{◌≡◌, refl, sym, ◌∙◌, ap, ℕ, zero, suc, ◌+◌, ◌-◌, ◌≤◌, ◌<◌, true, false, Bool, List, [], ◌∷◌, ◌++◌, arith, Option, Some, None, length, take, append_assoc}
use Rattle.std.specs.Prelude.{if◌then◌else◌, nat_lt, slice_set, bytes_eq}
use Rattle.std.proofs.lemmas.Bool.{ltb-true, ltb-false}
use Rattle.std.proofs.lemmas.List.{set-append_left, set-append_right}
use Rattle.aseba_tree.specs.Arrival.{put_cells}
use Rattle.aseba_tree.specs.Code.{Name, Sized}
use Rattle.aseba_tree.specs.CoreStep.{put_from, put_into}
use Rattle.aseba_tree.specs.Layout.{address_from, address_of}
use Rattle.aseba_tree.specs.Value.{Named, put_cell}
use Rattle.aseba_expand.specs.Expands.{all_cells_of}
use Rattle.aseba_expand.proofs.Cells.{Laid, standing, laid-put}

set-between : {A : Type 0} (pre own post : List A) (i : ℕ) (v : A) → i < length own → slice_set (pre ++ (own ++ post)) (length pre + i) v ≡ pre ++ (slice_set own i v ++ post)
set-between pre own post i v h =
    let up : length pre ≤ length pre + i = omega arith in
    let back : length pre + i - length pre ≡ i = omega arith in
    set-append_right pre (own ++ post) (length pre) (length pre + i) v refl up ∙ ap (λ k. pre ++ slice_set (own ++ post) k v) back ∙ ap (λ l. pre ++ l) (set-append_left own post i v h)

set-beyond : {A : Type 0} (l : List A) (i : ℕ) (v : A) → length l ≤ i → slice_set l i v ≡ l
set-beyond [] i v h = refl
set-beyond (x ∷ xs) zero v h = absurd (omega (arith, h))
set-beyond (x ∷ xs) (suc i) v h = ap (λ l. x ∷ l) (set-beyond xs i v (omega (arith, h)))

-- a cell put into a variable, with cells behind those of all
put-inside : {A : Type 0} (cells : Named A) (ds : List Sized) (tail : List A) (name : Name) (a n i : ℕ) (v : A) → Laid cells ds → address_of ds name ≡ Some (a, n) → i < n
    → slice_set (all_cells_of cells ++ tail) (a + i) v ≡ all_cells_of (put_cell cells name i v) ++ tail
put-inside cells ds tail name a n i v h e less =
    let s = standing cells ds 0 name a n h e in
    let at : a + i ≡ length s.pre + i = omega (arith, s.at) in
    let short : i < length s.own = omega (arith, s.size, less) in
    let whole : all_cells_of cells ++ tail ≡ s.pre ++ (s.own ++ (s.post ++ tail)) =
    ap (λ l. l ++ tail) s.whole ∙ append_assoc s.pre (s.own ++ s.post) tail ∙ ap (λ l. s.pre ++ l) (append_assoc s.own s.post tail) in
    ap (λ l. slice_set l (a + i) v) whole ∙ ap (λ k. slice_set (s.pre ++ (s.own ++ (s.post ++ tail))) k v) at ∙ set-between s.pre s.own (s.post ++ tail) i v short
    ∙ sym (ap (λ l. l ++ tail) (s.put i v) ∙ append_assoc s.pre (slice_set s.own i v ++ s.post) tail ∙ ap (λ l. s.pre ++ l) (append_assoc (slice_set s.own i v) s.post tail))

-- a cell put behind the end of a variable changes nothing
put-outside : {A : Type 0} (cells : Named A) (ds : List Sized) (name : Name) (a n i : ℕ) (v : A) → Laid cells ds → address_of ds name ≡ Some (a, n) → n ≤ i → all_cells_of (put_cell cells name i v) ≡ all_cells_of cells
put-outside cells ds name a n i v h e far =
    let s = standing cells ds 0 name a n h e in
    s.put i v ∙ ap (λ l. s.pre ++ (l ++ s.post)) (set-beyond s.own i v (omega (arith, s.size, far))) ∙ sym s.whole

-- without a variable of the name nothing is put
pub put-nowhere : {A : Type 0} (cells : Named A) (ds : List Sized) (base : ℕ) (name : Name) (i : ℕ) (v : A) → Laid cells ds → address_from base ds name ≡ None → put_cell cells name i v ≡ cells
put-nowhere [] [] base name i v h e = refl
put-nowhere [] (d ∷ ds) base name i v h e = absurd h
put-nowhere (c ∷ cs) [] base name i v h e = absurd h
put-nowhere (c ∷ cs) (d ∷ ds) base name i v h e = rw h.0 (pick (put-nowhere cs ds (base + d.size) name i v h.2) (bytes_eq d.name name) e)
  where
    pick : (address_from (base + d.size) ds name ≡ None → put_cell cs name i v ≡ cs) → (b : Bool) → (if b then Some (base, d.size) else address_from (base + d.size) ds name) ≡ None
        → (if b then (d.name, slice_set c.1 i v) ∷ cs else (d.name, c.1) ∷ put_cell cs name i v) ≡ (d.name, c.1) ∷ cs
    pick deeper true e = cc
    pick deeper false e = ap (λ l. (d.name, c.1) ∷ l) (deeper e)

pub laid-puts : {A : Type 0} (cells : Named A) (ds : List Sized) (name : Name) (i : ℕ) (vs : List A) → Laid cells ds → Laid (put_cells cells name i vs) ds
laid-puts cells ds name i [] h = h
laid-puts cells ds name i (v ∷ vs) h = laid-puts (put_cell cells name i v) ds name (suc i) vs (laid-put cells ds name i v h)

puts-outside : {A : Type 0} (cells : Named A) (ds : List Sized) (name : Name) (a n i : ℕ) (vs : List A) → Laid cells ds → address_of ds name ≡ Some (a, n) → n ≤ i → all_cells_of (put_cells cells name i vs) ≡ all_cells_of cells
puts-outside cells ds name a n i [] h e far = refl
puts-outside cells ds name a n i (v ∷ vs) h e far =
    puts-outside (put_cell cells name i v) ds name a n (suc i) vs (laid-put cells ds name i v h) e (omega (arith, far)) ∙ put-outside cells ds name a n i v h e far

puts-inside : {A : Type 0} (cells : Named A) (ds : List Sized) (tail : List A) (name : Name) (a n i : ℕ) (vs : List A) → Laid cells ds → address_of ds name ≡ Some (a, n)
    → put_from (all_cells_of cells ++ tail) (a + i) (take (n - i) vs) ≡ all_cells_of (put_cells cells name i vs) ++ tail
puts-inside {A} cells ds tail name a n i [] h e = by (n - i)
  where
    by : (k : ℕ) → put_from (all_cells_of cells ++ tail) (a + i) (take k (let l : List A = [] in l)) ≡ all_cells_of cells ++ tail
    by zero = refl
    by (suc k) = refl
puts-inside cells ds tail name a n i (v ∷ vs) h e = pick (nat_lt i n) refl (puts-inside (put_cell cells name i v) ds tail name a n (suc i) vs (laid-put cells ds name i v h) e)
  where
    pick : (b : Bool) → nat_lt i n ≡ b
        → put_from (all_cells_of (put_cell cells name i v) ++ tail) (a + suc i) (take (n - suc i) vs) ≡ all_cells_of (put_cells (put_cell cells name i v) name (suc i) vs) ++ tail
        → put_from (all_cells_of cells ++ tail) (a + i) (take (n - i) (v ∷ vs)) ≡ all_cells_of (put_cells cells name i (v ∷ vs)) ++ tail
    pick true t deeper =
        let less = ltb-true i n t in
        let one : n - i ≡ suc (n - suc i) = omega (arith, less) in
        let up : suc (a + i) ≡ a + suc i = omega arith in
        ap (λ k. put_from (all_cells_of cells ++ tail) (a + i) (take k (v ∷ vs))) one
        ∙ ap (λ l. put_from l (suc (a + i)) (take (n - suc i) vs)) (put-inside cells ds tail name a n i v h e less)
        ∙ ap (λ k. put_from (all_cells_of (put_cell cells name i v) ++ tail) k (take (n - suc i) vs)) up ∙ deeper
    pick false t deeper =
        let far : n ≤ i = ltb-false i n t in
        let none : n - i ≡ 0 = omega (arith, far) in
        ap (λ k. put_from (all_cells_of cells ++ tail) (a + i) (take k (v ∷ vs))) none ∙ ap (λ l. l ++ tail) (sym (puts-outside cells ds name a n i (v ∷ vs) h e far))

puts-nowhere : {A : Type 0} (cells : Named A) (ds : List Sized) (name : Name) (i : ℕ) (vs : List A) → Laid cells ds → address_of ds name ≡ None → put_cells cells name i vs ≡ cells
puts-nowhere cells ds name i [] h e = refl
puts-nowhere cells ds name i (v ∷ vs) h e =
    ap (λ c. put_cells c name (suc i) vs) (put-nowhere cells ds 0 name i v h e) ∙ puts-nowhere cells ds name (suc i) vs h e

-- values put into the variable of a name, as far as it reaches
pub puts-alike : {A : Type 0} (cells : Named A) (ds : List Sized) (tail : List A) (name : Name) (i : ℕ) (vs : List A) → Laid cells ds
    → put_into (address_of ds name) i vs (all_cells_of cells ++ tail) ≡ all_cells_of (put_cells cells name i vs) ++ tail
puts-alike {A} cells ds tail name i vs h = by (address_of ds name) refl
  where
    by : (o : Option (ℕ × ℕ)) → address_of ds name ≡ o → put_into o i vs (all_cells_of cells ++ tail) ≡ all_cells_of (put_cells cells name i vs) ++ tail
    by None e = ap (λ c. all_cells_of c ++ tail) (sym (puts-nowhere cells ds name i vs h e))
    by (Some p) e = puts-inside cells ds tail name p.0 p.1 i vs h e
