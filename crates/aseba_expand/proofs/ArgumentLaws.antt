-- The arguments of a native on both sides: a source's own cells stand where its variables do, and its fresh cells stand in temporaries, one argument behind the other.
use Rattle.std.proofs.Common.{◌≡◌, refl, sym, ◌∙◌, ap, subst, ℕ, zero, suc, ◌+◌, ◌<◌, ◌≤◌, true, false, Bool, ℤ, pos, List, [], ◌∷◌, arith, Option, Some, None, length, ◌≢◌, slice_get, slice_set, slice_index_or, nat_eq, length-set, get_or-set_same, get_or-set_other, eqb-true}
use Rattle.std.proofs.lemmas.Bool.{eqb-false}
use Rattle.std.proofs.lemmas.List.{get_or-append-add}
use Rattle.aseba_tree.specs.Code.{Name}
use Rattle.aseba_tree.specs.Elements.{variable_place}
use Rattle.aseba_tree.specs.Layout.{variables, cells_of_variables}
use Rattle.aseba_tree.specs.Numbers.{source_room}
use Rattle.aseba_tree.specs.State.{Program}
use Rattle.aseba_tree.specs.Step.{Argument, own, fresh, Store, argument_cell, get, put_argument, put_in}
use Rattle.aseba_expand.specs.Expands.{all_cells_of}
use Rattle.aseba_expand.proofs.Cells.{Laid, laid-put}
use Rattle.aseba_expand.proofs.Kept.{laid-length, set-room}
use Rattle.aseba_expand.proofs.StoreLaws.{place_of}
use Rattle.aseba_expand.proofs.Values.{with_room, reading}

-- an argument has so many of a variable's cells from a place on, where the first has an address
pub record OwnHere (program : Program) (n address : ℕ) (name : Name) (place : ℕ) : Type 0 where
  pub base : ℕ
  pub size : ℕ
  pub found : variable_place program name ≡ Some (base, size)
  pub start : address ≡ base + place
  pub inside : place + n ≤ size

-- an argument has so many fresh cells, which stand in the temporaries from one on, where that one has an address
pub record FreshHere (program : Program) (j n address : ℕ) (vs temporaries : List ℤ) : Type 0 where
  pub start : address ≡ cells_of_variables program + j
  pub long : length vs ≡ n
  pub room : j + n ≤ length temporaries
  pub reads : (i : ℕ) → i < n → slice_index_or temporaries (j + i) (pos 0) ≡ slice_index_or vs i (pos 0)

-- arguments of so many cells with these addresses, the fresh ones among the temporaries from one on
abbrev pub Stands : Program → (j : ℕ) → (counts addresses : List ℕ) → List Argument → (temporaries : List ℤ) → Type 0
Stands program j [] [] [] temporaries = Unit {0}
Stands program j (n ∷ ns) (a ∷ starts) (own name place ∷ args) temporaries = OwnHere program n a name place × Stands program j ns starts args temporaries
Stands program j (n ∷ ns) (a ∷ starts) (fresh vs ∷ args) temporaries = FreshHere program j n a vs temporaries × Stands program (j + n) ns starts args temporaries
Stands program j _ _ _ temporaries = ⊥

pub stands-length : (program : Program) (j : ℕ) (ns starts : List ℕ) (args : List Argument) (temporaries : List ℤ) → Stands program j ns starts args temporaries → (length args ≡ length starts) × (length ns ≡ length starts)
stands-length program j [] [] [] temporaries h = (refl, refl)
stands-length program j (n ∷ ns) (a ∷ starts) (own name place ∷ args) temporaries h = let rest = stands-length program j ns starts args temporaries h.1 in (ap suc rest.0, ap suc rest.1)
stands-length program j (n ∷ ns) (a ∷ starts) (fresh vs ∷ args) temporaries h = let rest = stands-length program (j + n) ns starts args temporaries h.1 in (ap suc rest.0, ap suc rest.1)
stands-length program j _ _ _ temporaries h = absurd h

-- a temporary in front of them all may change
untouched : (program : Program) (j : ℕ) (ns starts : List ℕ) (args : List Argument) (temporaries : List ℤ) (p : ℕ) (v : ℤ) → p < j → Stands program j ns starts args temporaries
    → Stands program j ns starts args (slice_set temporaries p v)
untouched program j [] [] [] temporaries p v low h = tt
untouched program j (n ∷ ns) (a ∷ starts) (own name place ∷ args) temporaries p v low h = (h.0, untouched program j ns starts args temporaries p v low h.1)
untouched program j (n ∷ ns) (a ∷ starts) (fresh vs ∷ args) temporaries p v low h = (
  record {
    start = (h.0).start;
    long = (h.0).long;
    room = omega (arith, (h.0).room, length-set temporaries p v);
    reads = λ i less. get_or-set_other temporaries p (j + i) v (pos 0) (let ne : j + i ≢ p = omega (arith, low) in ne) ∙ (h.0).reads i less;
  },
  untouched program (j + n) ns starts args temporaries p v (omega (arith, low)) h.1,
)
untouched program j _ _ _ temporaries p v low h = absurd h

-- where the argument of a number stands
pub data Located (program : Program) (j : ℕ) (ns starts : List ℕ) (args : List Argument) (temporaries : List ℤ) (r q m : ℕ) : Type 0 where
  own_at : (name : Name) (place : ℕ) → slice_get args r ≡ Some (own name place) → OwnHere program m q name place → Located program j ns starts args temporaries r q m
  fresh_at : (vs : List ℤ) (o : ℕ) → slice_get args r ≡ Some (fresh vs) → j ≤ o → FreshHere program o m q vs temporaries
      → ((k : ℕ) (v : ℤ) → k < m → Stands program j ns starts (slice_set args r (fresh (slice_set vs k v))) (slice_set temporaries (o + k) v)) → Located program j ns starts args temporaries r q m

-- a fresh cell that is stored, and what it then reads
stored-fresh : (program : Program) (j n a : ℕ) (vs temporaries : List ℤ) (k : ℕ) (v : ℤ) → k < n → FreshHere program j n a vs temporaries → FreshHere program j n a (slice_set vs k v) (slice_set temporaries (j + k) v)
stored-fresh program j n a vs temporaries k v less h = record {
  start = h.start;
  long = length-set vs k v ∙ h.long;
  room = omega (arith, h.room, length-set temporaries (j + k) v);
  reads = λ i small. by i small (nat_eq i k) refl;
}
  where
    by : (i : ℕ) → i < n → (b : Bool) → nat_eq i k ≡ b → slice_index_or (slice_set temporaries (j + k) v) (j + i) (pos 0) ≡ slice_index_or (slice_set vs k v) i (pos 0)
    by i small true e =
        let same : i ≡ k = eqb-true i k e in
        rw same (get_or-set_same temporaries (j + k) v (pos 0) (let room : j + k < length temporaries = omega (arith, h.room, less) in room)
        ∙ sym (get_or-set_same vs k v (pos 0) (let short : k < length vs = omega (arith, h.long, less) in short)))
    by i small false e =
        let apart : i ≢ k = eqb-false i k e in
        let apart_too : j + i ≢ j + k = omega (arith, apart) in
        get_or-set_other temporaries (j + k) (j + i) v (pos 0) apart_too ∙ h.reads i small ∙ sym (get_or-set_other vs k i v (pos 0) apart)

-- the number in an option, else another
abbrev number_in : ℕ → Option ℕ → ℕ
number_in other None = other
number_in other (Some n) = n

pub located : (program : Program) (j : ℕ) (ns starts : List ℕ) (args : List Argument) (temporaries : List ℤ) (r q m : ℕ) → Stands program j ns starts args temporaries → slice_get starts r ≡ Some q → slice_get ns r ≡ Some m
    → Located program j ns starts args temporaries r q m
located program j [] [] [] temporaries r q m h e f = cc
located program j (n ∷ ns) (a ∷ starts) (own name place ∷ args) temporaries zero q m h e f =
    let at : a ≡ q = ap (number_in q) e in
    let count : n ≡ m = ap (number_in m) f in
    own_at name place refl (subst (λ x. OwnHere program m x name place) at (subst (λ x. OwnHere program x a name place) count h.0))
located program j (n ∷ ns) (a ∷ starts) (fresh vs ∷ args) temporaries zero q m h e f =
    let at : a ≡ q = ap (number_in q) e in
    let count : n ≡ m = ap (number_in m) f in
    fresh_at vs j refl (omega arith) (subst (λ x. FreshHere program j m x vs temporaries) at (subst (λ x. FreshHere program j x a vs temporaries) count h.0))
    (λ k v less. let small : k < n = omega (arith, less, count) in (stored-fresh program j n a vs temporaries k v small h.0, untouched program (j + n) ns starts args temporaries (j + k) v (omega (arith, small)) h.1))
located program j (n ∷ ns) (a ∷ starts) (own name place ∷ args) temporaries (suc r) q m h e f = by (located program j ns starts args temporaries r q m h.1 e f)
  where
    by : Located program j ns starts args temporaries r q m → Located program j (n ∷ ns) (a ∷ starts) (own name place ∷ args) temporaries (suc r) q m
    by (own_at other there found here) = own_at other there found here
    by (fresh_at vs o found up here keeps) = fresh_at vs o found up here (λ k v less. (h.0, keeps k v less))
located program j (n ∷ ns) (a ∷ starts) (fresh ws ∷ args) temporaries (suc r) q m h e f = by (located program (j + n) ns starts args temporaries r q m h.1 e f)
  where
    by : Located program (j + n) ns starts args temporaries r q m → Located program j (n ∷ ns) (a ∷ starts) (fresh ws ∷ args) temporaries (suc r) q m
    by (own_at other there found here) = own_at other there found here
    by (fresh_at vs o found up here keeps) = fresh_at vs o found (omega (arith, up)) here (λ k v less. (
      record {
        start = (h.0).start;
        long = (h.0).long;
        room = omega (arith, (h.0).room, length-set temporaries (o + k) v);
        reads = λ i small. get_or-set_other temporaries (o + k) (j + i) v (pos 0) (let ne : j + i ≢ o + k = omega (arith, up, small) in ne) ∙ (h.0).reads i small;
      },
      keeps k v less,
    ))
located program j _ _ _ temporaries r q m h e f = absurd h

-- Stores

-- The source's store, and the cells of the element form: those of the variables are the same, and the fresh arguments stand in temporaries.
pub record SameStore (program : Program) (ns starts : List ℕ) (store : Store) (cells : List ℤ) : Type 0 where
  pub temporaries : List ℤ
  pub is : cells ≡ with_room store.0 temporaries
  pub laid : Laid store.0 (variables program)
  pub long : length temporaries ≡ source_room program
  pub stands : Stands program 0 ns starts store.1 temporaries

-- the argument of a number has an address, and so many cells at least
abbrev pub Covers : (ns starts : List ℕ) → (n r q : ℕ) → Type 0
Covers ns starts n r q = (m : ℕ) × (slice_get starts r ≡ Some q) × (slice_get ns r ≡ Some m) × (n ≤ m)

abbrev pub look : List ℤ → (address k : ℕ) → ℤ
look cells address k = slice_index_or cells (address + k) (pos 0)

abbrev pub set_at : List ℤ → (address k : ℕ) → ℤ → List ℤ
set_at cells address k v = slice_set cells (address + k) v

pub reads-alike : (program : Program) (ns starts : List ℕ) (n r q : ℕ) → Covers ns starts n r q → (store : Store) (cells : List ℤ) → SameStore program ns starts store cells → (k : ℕ) → k < n → get store r k ≡ look cells q k
reads-alike program ns starts n r q c store cells h k less = by (located program 0 ns starts store.1 h.temporaries r q c.0 h.stands c.1 c.2)
  where
    by : Located program 0 ns starts store.1 h.temporaries r q c.0 → get store r k ≡ look cells q k
    by (own_at name place found here) =
        let w = reading program store.0 h.temporaries name here.base here.size h.laid here.found in
        let at : here.base + (place + k) ≡ q + k = omega (arith, here.start) in
        let short : place + k < here.size = omega (arith, here.inside, less, c.3) in
        ap (argument_cell store.0 k) found ∙ rw w.found (sym (w.reads (place + k) short)) ∙ ap (λ i. slice_index_or (with_room store.0 h.temporaries) i (pos 0)) at ∙ ap (λ l. slice_index_or l (q + k) (pos 0)) (sym h.is)
    by (fresh_at vs o found up here keeps) =
        let long = laid-length store.0 (variables program) h.laid in
        let at : length (all_cells_of store.0) + (o + k) ≡ q + k = omega (arith, here.start, long) in
        ap (argument_cell store.0 k) found ∙ sym (here.reads k (omega (arith, less, c.3))) ∙ sym (get_or-append-add (all_cells_of store.0) h.temporaries (o + k) (pos 0))
        ∙ ap (λ i. slice_index_or (with_room store.0 h.temporaries) i (pos 0)) at ∙ ap (λ l. slice_index_or l (q + k) (pos 0)) (sym h.is)

pub stores-alike : (program : Program) (ns starts : List ℕ) (n r q : ℕ) → Covers ns starts n r q → (store : Store) (cells : List ℤ) → SameStore program ns starts store cells → (k : ℕ) → k < n → (v : ℤ)
    → SameStore program ns starts (put_in store r k v) (set_at cells q k v)
stores-alike program ns starts n r q c store cells h k less v = by (located program 0 ns starts store.1 h.temporaries r q c.0 h.stands c.1 c.2)
  where
    by : Located program 0 ns starts store.1 h.temporaries r q c.0 → SameStore program ns starts (put_in store r k v) (set_at cells q k v)
    by (own_at name place found here) =
        let at : here.base + (place + k) ≡ q + k = omega (arith, here.start) in
        let short : place + k < here.size = omega (arith, here.inside, less, c.3) in
        let p = place_of program store.0 h.temporaries name here.base here.size (place + k) h.laid here.found short in
        subst (λ o. SameStore program ns starts (put_argument store r k v o) (set_at cells q k v)) (sym found) (record {
          temporaries = h.temporaries;
          is = ap (λ l. slice_set l (q + k) v) h.is ∙ ap (λ i. slice_set (with_room store.0 h.temporaries) i v) (sym at) ∙ p.sets v;
          laid = laid-put store.0 (variables program) name (place + k) v h.laid;
          long = h.long;
          stands = h.stands;
        })
    by (fresh_at vs o found up here keeps) =
        let at : cells_of_variables program + (o + k) ≡ q + k = omega (arith, here.start) in
        subst (λ a. SameStore program ns starts (put_argument store r k v a) (set_at cells q k v)) (sym found) (record {
          temporaries = slice_set h.temporaries (o + k) v;
          is = ap (λ l. slice_set l (q + k) v) h.is ∙ ap (λ i. slice_set (with_room store.0 h.temporaries) i v) (sym at) ∙ set-room program store.0 h.temporaries (o + k) v h.laid;
          laid = h.laid;
          long = length-set h.temporaries (o + k) v ∙ h.long;
          stands = keeps k v (omega (arith, less, c.3));
        })
