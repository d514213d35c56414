-- A native does the same on two stores that show it the same cells, so a call in a program's source and the machine's call of its code agree.
use Rattle.std.proofs.Common.{◌≡◌, ℕ, zero, suc, ◌+◌, ◌<◌, ◌≤◌, Bool, List, [], ◌∷◌, length, map, Option, Some, None, MatchOption, ℤ, ◌+ℤ◌, ◌-ℤ◌, ◌*ℤ◌, int_div, refl, sym, ap, ◌∙◌, subst, arith}
use Rattle.std.specs.List.{range_with_len}
use Rattle.std.specs.Int.{int_min, int_max}
use Rattle.aseba_words.specs.Cell.{wrapped, divided}
use Rattle.aseba_words.specs.declared.native.Native.{Native}
use Rattle.aseba_words.specs.declared.native.Native.TheVariants.{Copy, Fill, AddScalar, Add, Sub, Mul, Div, Min, Max, Clamp, Dot, MulDiv, Stat, ArgBounds}
use Rattle.aseba_words.specs.Natives.{sizes, param_cells, native_numbered, clamped, product_sum, shifted, least, greatest, mean, first_place, each, stored, cells_of, run_native, numbered_run, native_run}

ap2 : {A B C : Type 0} (f : A → B → C) {a a' : A} {b b' : B} → a ≡ a' → b ≡ b' → f a b ≡ f a' b'
ap2 f {a} {a'} {b} {b'} p q = ap (λ x. f x b) p ∙ ap (λ y. f a' y) q

ap3 : {A B C D : Type 0} (f : A → B → C → D) {a a' : A} {b b' : B} {c c' : C} → a ≡ a' → b ≡ b' → c ≡ c' → f a b c ≡ f a' b' c'
ap3 f {a} {a'} {b} {b'} {c} {c'} p q r = ap2 (λ x y. f x y c) p q ∙ ap (λ z. f a' b' z) r

-- `Covers n r q` says that the stores that are `Same` have n cells in common, which are those of r on one side and those of q on the other.
module _ {S R T Q : Type 0}
    (get : S → R → ℕ → ℤ) (put : S → R → ℕ → ℤ → S)
    (look : T → Q → ℕ → ℤ) (set : T → Q → ℕ → ℤ → T)
    (Same : S → T → Type 0) (Covers : ℕ → R → Q → Type 0)
    (reads : (n : ℕ) (r : R) (q : Q) → Covers n r q → (s : S) (t : T) → Same s t → (k : ℕ) → k < n → get s r k ≡ look t q k)
    (stores : (n : ℕ) (r : R) (q : Q) → Covers n r q → (s : S) (t : T) → Same s t → (k : ℕ) → k < n → (v : ℤ) → Same (put s r k v) (set t q k v)) where
  abbrev pub Alike : Bool × S → Bool × T → Type 0
  Alike a b = (a.0 ≡ b.0) × Same a.1 b.1

  -- the parameters of a call, of these sizes, cover one another
  abbrev pub AllCover : ℕ → List ℤ → List R → List Q → Type 0
  AllCover len [] [] [] = Unit {0}
  AllCover len (size ∷ sizes) (r ∷ rs) (q ∷ qs) = Covers (param_cells len size) r q × AllCover len sizes rs qs
  AllCover len _ _ _ = ⊥

  lengths : (len : ℕ) (params : List ℤ) (rs : List R) (qs : List Q) → AllCover len params rs qs → (length rs ≡ length params) × (length qs ≡ length params)
  lengths len [] [] [] c = (refl, refl)
  lengths len (size ∷ params) (r ∷ rs) (q ∷ qs) c = let l = lengths len params rs qs c.1 in (ap suc l.0, ap suc l.1)
  lengths len _ _ _ c = absurd c

  cells-alike : (total : ℕ) (r : R) (q : Q) → Covers total r q → (s : S) (t : T) → Same s t → (n i : ℕ) → i + n ≤ total → map (get s r) (range_with_len i n) ≡ map (look t q) (range_with_len i n)
  cells-alike total r q c s t h zero i le = refl
  cells-alike total r q c s t h (suc n) i le =
      ap2 ◌∷◌ (reads total r q c s t h i (omega arith)) (cells-alike total r q c s t h n (i + 1) (omega arith))

  stored-alike : (total : ℕ) (r : R) (q : Q) → Covers total r q → (s : S) (t : T) → Same s t → (k : ℕ) → k < total
      → (go : S → Bool × S) (on : T → Bool × T) → ((s' : S) (t' : T) → Same s' t' → Alike (go s') (on t'))
      → (v : Option ℤ) → Alike (stored get put v r k s go) (stored look set v q k t on)
  stored-alike total r q c s t h k lt go on rest None = (refl, h)
  stored-alike total r q c s t h k lt go on rest (Some v) = rest (put s r k v) (set t q k v) (stores total r q c s t h k lt v)

  module _ (total : ℕ) (r : R) (q : Q) (c : Covers total r q) (value : S → ℕ → Option ℤ) (amount : T → ℕ → Option ℤ)
      (same : (s : S) (t : T) → Same s t → (k : ℕ) → k < total → value s k ≡ amount t k) where
    each-alike : (left k : ℕ) → k + left ≤ total → (s : S) (t : T) → Same s t → Alike (each get put r value left k s) (each look set q amount left k t)
    each-alike zero k le s t h = (refl, h)
    each-alike (suc left) k le s t h =
        subst (λ o. Alike (stored get put o r k s (each get put r value left (k + 1))) (each look set q amount (suc left) k t))
        (sym (same s t h k (omega arith)))
        (stored-alike total r q c s t h k (omega arith) (each get put r value left (k + 1)) (each look set q amount left (k + 1)) (each-alike left (k + 1) (omega arith)) (amount t k))

  all_cells : (len : ℕ) (r : R) (q : Q) → Covers len r q → (s : S) (t : T) → Same s t → cells_of get put s r len ≡ cells_of look set t q len
  all_cells len r q c s t h = cells-alike len r q c s t h len 0 (omega arith)

  pub run-alike : (native : Native) (rs : List R) (qs : List Q) (len : ℕ) → AllCover len (sizes native) rs qs → (s : S) (t : T) → Same s t → Alike (run_native get put native rs len s) (run_native look set native qs len t)
  run-alike Copy (d ∷ a ∷ []) (d' ∷ a' ∷ []) len c s t h =
      each-alike len d d' c.0 _ _ (λ s t h k lt. ap Some (reads len a a' c.1.0 s t h k lt)) len 0 (omega arith) s t h
  run-alike Fill (d ∷ a ∷ []) (d' ∷ a' ∷ []) len c s t h =
      each-alike len d d' c.0 _ _ (λ s t h k lt. ap Some (reads 1 a a' c.1.0 s t h 0 (omega arith))) len 0 (omega arith) s t h
  run-alike AddScalar (d ∷ a ∷ b ∷ []) (d' ∷ a' ∷ b' ∷ []) len c s t h =
      each-alike len d d' c.0 _ _ (λ s t h k lt. ap2 (λ x y. Some (wrapped (x +ℤ y))) (reads len a a' c.1.0 s t h k lt) (reads 1 b b' c.1.1.0 s t h 0 (omega arith))) len 0 (omega arith) s t h
  run-alike Add (d ∷ a ∷ b ∷ []) (d' ∷ a' ∷ b' ∷ []) len c s t h =
      each-alike len d d' c.0 _ _ (λ s t h k lt. ap2 (λ x y. Some (wrapped (x +ℤ y))) (reads len a a' c.1.0 s t h k lt) (reads len b b' c.1.1.0 s t h k lt)) len 0 (omega arith) s t h
  run-alike Sub (d ∷ a ∷ b ∷ []) (d' ∷ a' ∷ b' ∷ []) len c s t h =
      each-alike len d d' c.0 _ _ (λ s t h k lt. ap2 (λ x y. Some (wrapped (x -ℤ y))) (reads len a a' c.1.0 s t h k lt) (reads len b b' c.1.1.0 s t h k lt)) len 0 (omega arith) s t h
  run-alike Mul (d ∷ a ∷ b ∷ []) (d' ∷ a' ∷ b' ∷ []) len c s t h =
      each-alike len d d' c.0 _ _ (λ s t h k lt. ap2 (λ x y. Some (wrapped (x *ℤ y))) (reads len a a' c.1.0 s t h k lt) (reads len b b' c.1.1.0 s t h k lt)) len 0 (omega arith) s t h
  run-alike Div (d ∷ a ∷ b ∷ []) (d' ∷ a' ∷ b' ∷ []) len c s t h =
      each-alike len d d' c.0 _ _ (λ s t h k lt. ap2 (λ x y. divided y (int_div x y)) (reads len a a' c.1.0 s t h k lt) (reads len b b' c.1.1.0 s t h k lt)) len 0 (omega arith) s t h
  run-alike Min (d ∷ a ∷ b ∷ []) (d' ∷ a' ∷ b' ∷ []) len c s t h =
      each-alike len d d' c.0 _ _ (λ s t h k lt. ap2 (λ x y. Some (int_min x y)) (reads len a a' c.1.0 s t h k lt) (reads len b b' c.1.1.0 s t h k lt)) len 0 (omega arith) s t h
  run-alike Max (d ∷ a ∷ b ∷ []) (d' ∷ a' ∷ b' ∷ []) len c s t h =
      each-alike len d d' c.0 _ _ (λ s t h k lt. ap2 (λ x y. Some (int_max x y)) (reads len a a' c.1.0 s t h k lt) (reads len b b' c.1.1.0 s t h k lt)) len 0 (omega arith) s t h
  run-alike Clamp (d ∷ a ∷ b ∷ e ∷ []) (d' ∷ a' ∷ b' ∷ e' ∷ []) len c s t h =
      each-alike len d d' c.0 _ _ (λ s t h k lt. ap3 (λ x y z. Some (clamped y z x)) (reads len a a' c.1.0 s t h k lt) (reads len b b' c.1.1.0 s t h k lt) (reads len e e' c.1.1.1.0 s t h k lt)) len 0 (omega arith) s t h
  run-alike MulDiv (d ∷ a ∷ b ∷ e ∷ []) (d' ∷ a' ∷ b' ∷ e' ∷ []) len c s t h =
      each-alike len d d' c.0 _ _ (λ s t h k lt. ap3 (λ x y z. divided z (int_div (x *ℤ y) z)) (reads len a a' c.1.0 s t h k lt) (reads len b b' c.1.1.0 s t h k lt) (reads len e e' c.1.1.1.0 s t h k lt)) len 0 (omega arith) s t h
  run-alike Dot (d ∷ a ∷ b ∷ e ∷ []) (d' ∷ a' ∷ b' ∷ e' ∷ []) len c s t h =
      let v = ap3 (λ xs ys z. wrapped (shifted (product_sum xs ys) z)) (all_cells len a a' c.1.0 s t h) (all_cells len b b' c.1.1.0 s t h) (reads 1 e e' c.1.1.1.0 s t h 0 (omega arith)) in
      (refl, subst (λ x. Same (put s d 0 x) (set t d' 0 (wrapped (shifted (product_sum (cells_of look set t a' len) (cells_of look set t b' len)) (look t e' 0))))) (sym v) (stores 1 d d' c.0 s t h 0 (omega arith) _))
  run-alike Stat (a ∷ x ∷ y ∷ z ∷ []) (a' ∷ x' ∷ y' ∷ z' ∷ []) len c s t h =
      let ys = cells_of look set t a' len in (
        refl,
        subst (λ xs. Same (put (put (put s x 0 (least xs)) y 0 (greatest xs)) z 0 (mean xs)) (set (set (set t x' 0 (least ys)) y' 0 (greatest ys)) z' 0 (mean ys)))
            (sym (all_cells len a a' c.0 s t h))
            (stores 1 z z' c.1.1.1.0 _ _ (stores 1 y y' c.1.1.0 _ _ (stores 1 x x' c.1.0 s t h 0 (omega arith) _) 0 (omega arith) _) 0 (omega arith) _),
      )
  run-alike ArgBounds (a ∷ x ∷ y ∷ []) (a' ∷ x' ∷ y' ∷ []) len c s t h =
      let ys = cells_of look set t a' len in (
        refl,
        subst (λ xs. Same (put (put s x 0 (first_place (least xs) xs)) y 0 (first_place (greatest xs) xs)) (set (set t x' 0 (first_place (least ys) ys)) y' 0 (first_place (greatest ys) ys)))
            (sym (all_cells len a a' c.0 s t h))
            (stores 1 y y' c.1.1.0 _ _ (stores 1 x x' c.1.0 s t h 0 (omega arith) _) 0 (omega arith) _),
      )
  run-alike native rs qs len c s t h = let l = lengths len (sizes native) rs qs c in absurd (omega arith)

  -- the same by a native's number, with the parameters that it has
  pub native-alike : (id : ℕ) (rs : List R) (qs : List Q) (len : ℕ) → MatchOption (native_numbered id) (Unit {0}) (λ native. AllCover len (sizes native) rs qs) → (s : S) (t : T) → Same s t → Alike (native_run get put id rs len s) (native_run look set id qs len t)
  native-alike id rs qs len c s t h = by_native (native_numbered id) c
    where
      by_native : (o : Option Native) → MatchOption o (Unit {0}) (λ native. AllCover len (sizes native) rs qs) → Alike (numbered_run get put o rs len s) (numbered_run look set o qs len t)
      by_native None c = (refl, h)
      by_native (Some native) c = run-alike native rs qs len c s t h
