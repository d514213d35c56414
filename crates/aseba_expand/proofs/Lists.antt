-- Lists that are walked: the next element, and two lists that end where one of them does.
use Rattle.std.proofs.Common.{◌≡◌, refl, sym, ◌∙◌, ap, ◌⊎◌, inl, inr, ℕ, zero, suc, ◌+◌, ◌-◌, ◌<◌, List, [], ◌∷◌, ◌++◌, length, drop, drop-cons, add-one, get_or, map, arith, append_assoc}
use Rattle.std.specs.Prelude.{Option, Some, None, Result, Ok, Err, IfOk}
use Rattle.std.proofs.lemmas.List.{map-append}
use Rattle.std.specs.List.{range_with_len}
use Rattle.aseba_words.specs.declared.operators.Binary.{Binary}
use Rattle.aseba_tree.specs.CoreExpr.{CoreExpr, cell, into}
use Rattle.aseba_tree.specs.Elements.{paired_elements, range_elements}
use Rattle.aseba_expand.specs.Listed.{listed_moved, store_of}
use Rattle.aseba_expand.specs.Made.{cells_from}
use Rattle.aseba_expand.specs.Plain.{start_in}

pub next_item : {X : Type 0} (xs : List X) (i : ℕ) (x : X) → i < length xs → x ≡ get_or xs i x → drop i xs ≡ x ∷ drop (i + 1) xs
next_item xs i x h e = rw add-one (drop-cons xs i x h ∙ ap (λ y. y ∷ drop (suc i) xs) (sym e))

emptied : {X : Type 0} (xs : List X) → length xs ≡ 0 → xs ≡ []
emptied [] e = refl
emptied (x ∷ xs) e = cc

-- what pairs come of two lists of which one has ended
pub none-paired : {X : Type 0} (op : Binary) (v : X → CoreExpr) (ls rs : List X) → (length ls ≡ 0) ⊎ (length rs ≡ 0) → paired_elements op (map v ls) (map v rs) ≡ []
none-paired {X} op v ls rs (inl e) = rw (emptied ls e) refl
none-paired {X} op v ls rs (inr e) = ended ls (emptied rs e)
  where
    ended : (xs : List X) → rs ≡ [] → paired_elements op (map v xs) (map v rs) ≡ []
    ended [] e = refl
    ended (x ∷ xs) e = rw e refl

-- numbers from one on: the first, and then the others
pub next-number : (start count : ℕ) → 0 < count → range_with_len start count ≡ start ∷ range_with_len (start + 1) (count - 1)
next-number start zero h = absurd (let no : ⊥ = omega arith in no)
next-number start (suc n) h = let e : suc n - 1 ≡ n = omega arith in ap (λ k. start ∷ range_with_len (start + 1) k) (sym e)

-- of two iterators one has no more elements
pub one-ended : {A B : Type 0} {a b i j : ℕ} {S : A → ℕ} {T : B → ℕ} → a ≡ i → b ≡ j → ((x : A) × (a ≡ 0 × S x ≡ 0)) ⊎ ((x : B) × (b ≡ 0 × T x ≡ 0)) → (i ≡ 0) ⊎ (j ≡ 0)
one-ended e f (inl h) = inl (sym e ∙ h.1.0)
one-ended e f (inr h) = inr (sym f ∙ h.1.0)

-- what follows for an answer
pub onward : {A E : Type 0} (r : Result A E) (P Q : A → Type 0) → ((a : A) → P a → Q a) → IfOk r P → IfOk r Q
onward (Ok a) P Q f h = f a h
onward (Err e) P Q f h = tt

-- cells from an address on, by their places in a variable
cells-from : (start first count : ℕ) → map cell (range_with_len (start + first) count) ≡ map (λ i. cell (start + i)) (range_with_len first count)
cells-from start first zero = refl
cells-from start first (suc n) =
    let next : start + first + 1 ≡ start + (first + 1) = omega arith in
    ap (λ m. cell (start + first) ∷ map cell (range_with_len m n)) next ∙ ap (λ es. cell (start + first) ∷ es) (cells-from start (first + 1) n)

pub range-made : (o : Option (ℕ × ℕ)) (v : ℕ × ℕ) (first last : ℕ) → Some v ≡ o → cells_from (start_in o + first) (last + 1 - first) ≡ range_elements o first last
range-made None v first last e = cc
range-made (Some w) v first last e = cells-from w.0 first (last + 1 - first)

pub next_cells : (start size n : ℕ) → n < size → cells_from (start + n) (size - n) ≡ cell (start + n) ∷ cells_from (start + (n + 1)) (size - (n + 1))
next_cells start size n h =
    let more : size - n - 1 ≡ size - (n + 1) = omega arith in
    let next : start + n + 1 ≡ start + (n + 1) = omega arith in
    ap (map cell) (next-number (start + n) (size - n) (omega arith)) ∙ (λ i. cell (start + n) ∷ cells_from (next i) (more i))

-- the store of the next temporary into its cell, and then the others
pub moved_next : (line from start size n : ℕ) → n < size → listed_moved line (from + n) (range_with_len (start + n) (size - n))
    ≡ store_of line (into (start + n)) (cell (from + n)) ∷ listed_moved line (from + (n + 1)) (range_with_len (start + (n + 1)) (size - (n + 1)))
moved_next line from start size n h =
    let more : size - n - 1 ≡ size - (n + 1) = omega arith in
    let to : start + n + 1 ≡ start + (n + 1) = omega arith in
    let next : suc (from + n) ≡ from + (n + 1) = omega arith in
    ap (listed_moved line (from + n)) (next-number (start + n) (size - n) (omega arith))
    ∙ (λ i. store_of line (into (start + n)) (cell (from + n)) ∷ listed_moved line (next i) (range_with_len (to i) (more i)))

-- one more was made, and what is left to make is one less
pub told-next : {Y : Type 0} (made before : List Y) (y : Y) (rest left all : List Y) → made ≡ before ++ y ∷ [] → left ≡ y ∷ rest → before ++ left ≡ all → made ++ rest ≡ all
told-next made before y rest left all e f g = ap (λ m. m ++ rest) e ∙ append_assoc before (y ∷ []) rest ∙ ap (λ m. before ++ m) (sym f) ∙ g

pub mapped-next : {X Y : Type 0} (v : X → Y) (made before : List X) (x : X) → made ≡ before ++ x ∷ [] → map v made ≡ map v before ++ v x ∷ []
mapped-next v made before x e = ap (map v) e ∙ map-append v before (x ∷ [])
