-- The cells of named variables, one behind the other: where a variable stands among them.
use Rattle.std.proofs.Common.{◌≡◌, refl, sym, ◌∙◌, ap, ℕ, ◌+◌, Bool, true, false, List, [], ◌∷◌, ◌++◌, arith, Option, Some, None, length, append_assoc, length-append, ◌≤◌, sum_by}
use Rattle.std.specs.Prelude.{if◌then◌else◌, bytes_eq, slice_set}
use Rattle.std.proofs.lemmas.Grind.{common_steps}
use Rattle.std.proofs.lemmas.List.Sums.{sum_by-cons}
use Rattle.aseba_tree.specs.Code.{Name, Sized}
use Rattle.aseba_tree.specs.Elements.{variable_place}
use Rattle.aseba_tree.specs.Layout.{address_from, variables, cells_of_variables}
use Rattle.aseba_tree.specs.State.{Program}
use Rattle.aseba_tree.specs.Value.{Named, cells_of, put_cell}
use Rattle.aseba_expand.specs.Expands.{all_cells_of}

-- the cells are those of the variables, name by name and as many as each has
abbrev pub Laid : {A : Type 0} → Named A → List Sized → Type 0
Laid [] [] = Unit {0}
Laid (v ∷ vs) (d ∷ ds) = (v.0 ≡ d.name) × (length v.1 ≡ d.size) × Laid vs ds
Laid _ _ = ⊥

-- The cells of a variable stand among all cells behind so many, and a cell put into it is put there.
pub record Standing {A : Type 0} (cells : Named A) (name : Name) (base a n : ℕ) : Type 0 where
  pub pre : List A
  pub own : List A
  pub post : List A
  pub whole : all_cells_of cells ≡ pre ++ (own ++ post)
  pub at : base + length pre ≡ a
  pub size : length own ≡ n
  pub found : cells_of cells name ≡ Some own
  pub put : (i : ℕ) (x : A) → all_cells_of (put_cell cells name i x) ≡ pre ++ (slice_set own i x ++ post)

abbrev first_of : Option (ℕ × ℕ) → ℕ
first_of None = 0
first_of (Some p) = p.0

abbrev second_of : Option (ℕ × ℕ) → ℕ
second_of None = 0
second_of (Some p) = p.1

-- a variable stands where its address says
pub standing : {A : Type 0} (cells : Named A) (ds : List Sized) (base : ℕ) (name : Name) (a n : ℕ) → Laid cells ds → address_from base ds name ≡ Some (a, n) → Standing cells name base a n
standing [] [] base name a n h f = cc
standing [] (d ∷ ds) base name a n h f = absurd h
standing (v ∷ vs) [] base name a n h f = absurd h
standing {A} (v ∷ vs) (d ∷ ds) base name a n h f = pick (λ g. standing vs ds (base + d.size) name a n h.2 g) (bytes_eq d.name name) refl f
  where
    pick : (address_from (base + d.size) ds name ≡ Some (a, n) → Standing vs name (base + d.size) a n) → (b : Bool) → bytes_eq d.name name ≡ b
        → (if b then Some (base, d.size) else address_from (base + d.size) ds name) ≡ Some (a, n) → Standing (v ∷ vs) name base a n
    pick deeper true t f =
        let same : bytes_eq v.0 name ≡ true = ap (λ x. bytes_eq x name) h.0 ∙ t in
        record {
          pre = [];
          own = v.1;
          post = all_cells_of vs;
          whole = refl;
          at = omega (arith, ap first_of f);
          size = h.1 ∙ ap second_of f;
          found = rw same refl;
          put = λ i x. rw same refl;
        }
    pick deeper false t f =
        let same : bytes_eq v.0 name ≡ false = ap (λ x. bytes_eq x name) h.0 ∙ t in
        let inner = deeper f in
        record {
          pre = v.1 ++ inner.pre;
          own = inner.own;
          post = inner.post;
          whole = ap (λ l. v.1 ++ l) inner.whole ∙ sym (append_assoc v.1 inner.pre (inner.own ++ inner.post));
          at = omega (arith, inner.at, length-append v.1 inner.pre, h.1);
          size = inner.size;
          found = rw same inner.found;
          put = λ i x. rw same (ap (λ l. v.1 ++ l) (inner.put i x) ∙ sym (append_assoc v.1 inner.pre (slice_set inner.own i x ++ inner.post)));
        }

-- a name without an address has no cells
pub cells-none : {A : Type 0} (cells : Named A) (ds : List Sized) (base : ℕ) (name : Name) → Laid cells ds → address_from base ds name ≡ None → cells_of cells name ≡ None
cells-none [] [] base name h f = refl
cells-none [] (d ∷ ds) base name h f = absurd h
cells-none (v ∷ vs) [] base name h f = absurd h
cells-none (v ∷ vs) (d ∷ ds) base name h f = rw h.0 (pick (cells-none vs ds (base + d.size) name h.2) (bytes_eq d.name name) f)
  where
    pick : (address_from (base + d.size) ds name ≡ None → cells_of vs name ≡ None) → (b : Bool) → (if b then Some (base, d.size) else address_from (base + d.size) ds name) ≡ None
        → (if b then Some v.1 else cells_of vs name) ≡ None
    pick deeper true f = cc
    pick deeper false f = deeper f

-- what is put into a cell leaves the names and the numbers of cells
pub laid-put : {A : Type 0} (cells : Named A) (ds : List Sized) (name : Name) (i : ℕ) (x : A) → Laid cells ds → Laid (put_cell cells name i x) ds
laid-put [] [] name i x h = tt
laid-put [] (d ∷ ds) name i x h = absurd h
laid-put (v ∷ vs) [] name i x h = absurd h
laid-put (v ∷ vs) (d ∷ ds) name i x h = pick (laid-put vs ds name i x h.2) (bytes_eq v.0 name)
  where
    pick : Laid (put_cell vs name i x) ds → (b : Bool) → Laid (if b then (v.0, slice_set v.1 i x) ∷ vs else v ∷ put_cell vs name i x) (d ∷ ds)
    pick deeper true = (h.0, grind (arith, common_steps, h.1), h.2)
    pick deeper false = (h.0, h.1, deeper)

-- a variable ends where all of them do, or before
pub address-inside : (ds : List Sized) (base : ℕ) (name : Name) (a n : ℕ) → address_from base ds name ≡ Some (a, n) → a + n ≤ base + sum_by (λ v. v.size) ds
address-inside [] base name a n e = cc
address-inside (d ∷ ds) base name a n e = pick (address-inside ds (base + d.size) name a n) (bytes_eq d.name name) e
  where
    pick : (address_from (base + d.size) ds name ≡ Some (a, n) → a + n ≤ base + d.size + sum_by (λ v. v.size) ds) → (b : Bool) → (if b then Some (base, d.size) else address_from (base + d.size) ds name) ≡ Some (a, n)
        → a + n ≤ base + sum_by (λ v. v.size) (d ∷ ds)
    pick deeper true e = let start : base ≡ a = ap first_of e in let long : d.size ≡ n = ap second_of e in omega (arith, start, long, sum_by-cons (λ (v : Sized). v.size) d ds)
    pick deeper false e = let far = deeper e in omega (arith, far, sum_by-cons (λ (v : Sized). v.size) d ds)

pub place-below : (program : Program) (name : Name) (a n : ℕ) → variable_place program name ≡ Some (a, n) → a + n ≤ cells_of_variables program
place-below program name a n e = let far = address-inside (variables program) 0 name a n e in omega (arith, far)
