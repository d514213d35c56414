-- Expressions have the same value where they read the same cells.
use Rattle.std.proofs.Common.{◌≡◌, ℕ, zero, suc, ◌+◌, ◌-◌, ◌<◌, ◌≤◌, inl, inr, ◌&&◌, ◌||◌, Bool, true, false, nat_lt, ℤ, pos, negsuc, List, length, take, drop, slice_index_or, slice_range, Ok, Err, refl, sym, ap, ◌∙◌, subst, arith, true≢false, ltb-true, lt-ltb, leb-true, length-drop, length-take-le, get_or-take, get_or-drop, ext_get_or}
use Rattle.std.specs.List.{list_all, range_with_len}
use Rattle.std.specs.Int.{w16}
use Rattle.std.specs.Int.RustNames.{FitsSigned}
use Rattle.aseba_tree.specs.Value.{Element, and_then, place_among, unary_element}
use Rattle.aseba_tree.specs.CoreExpr.{CoreExpr, fixed, cell, indirect, prefix, infix_of, CoreTarget, into, into_index, core_value, target_address}
use Rattle.aseba_tree.specs.Core.{Core}
use Rattle.aseba_tree.specs.CoreShape.{is_readable, is_readable_range, is_indexed, is_good_expr, is_good_target}
use Rattle.aseba_tree.specs.Value.{is_cell}
use Rattle.aseba_tree.specs.CoreCells.{has_cells}
use Rattle.aseba_codegen.proofs.Exprs.{Sits, place-cases}

pub and-left : (a b : Bool) → (a && b) ≡ true → a ≡ true
and-left true b h = refl
and-left false b h = h

pub and-right : (a b : Bool) → (a && b) ≡ true → b ≡ true
and-right true b h = h
and-right false b h = absurd (true≢false (sym h))

pub and-both : (a b : Bool) → a ≡ true → b ≡ true → (a && b) ≡ true
and-both a b h g = rw (h, g) refl

pub or-left : (a b : Bool) → a ≡ true → (a || b) ≡ true
or-left a b h = rw h refl

module _ (core : Core) where
  -- cells that are the same where a statement may read them
  abbrev pub Alike : List ℕ → List ℤ → List ℤ → Type 0
  Alike kept xs ys = (a : ℕ) → is_readable core kept a ≡ true → slice_index_or xs a (pos 0) ≡ slice_index_or ys a (pos 0)

  pub readable-below : (kept : List ℕ) (a : ℕ) → a < core.cells → is_readable core kept a ≡ true
  readable-below kept a below =
      let first : nat_lt a (core.cells + core.room) ≡ true = lt-ltb _ _ (omega arith) in
      let second : nat_lt a core.cells ≡ true = lt-ltb _ _ below in
      rw (first, second) refl

  pub readable-inside : (kept : List ℕ) (a : ℕ) → is_readable core kept a ≡ true → a < core.cells + core.room
  readable-inside kept a h = ltb-true _ _ (and-left _ _ h)

  indexed-alike : (kept : List ℕ) (xs ys : List ℤ) (base size : ℕ) (e : Element) → is_indexed core base size ≡ true → Alike kept xs ys
      → and_then e (λ i. and_then (place_among size i) (λ place. Ok (slice_index_or xs (base + place) (pos 0))))
      ≡ and_then e (λ i. and_then (place_among size i) (λ place. Ok (slice_index_or ys (base + place) (pos 0))))
  indexed-alike kept xs ys base size (Err s) inside alike = refl
  indexed-alike kept xs ys base size (Ok i) inside alike =
      let reach : base + size ≤ core.cells = leb-true _ _ inside in
      elim (place-cases size i) [
        | inl c ↦
            let small : c.0 < size = c.3 in
            let same : slice_index_or xs (base + c.0) (pos 0) ≡ slice_index_or ys (base + c.0) (pos 0) = alike (base + c.0) (readable-below kept (base + c.0) (omega arith)) in
            rw (c.1) (ap Ok same)
        | inr c ↦ rw (c.0) refl
      ]

  pub value-alike : (kept : List ℕ) (xs ys : List ℤ) (e : CoreExpr) → is_good_expr core kept e ≡ true → Alike kept xs ys → core_value xs e ≡ core_value ys e
  value-alike kept xs ys (fixed v) good alike = refl
  value-alike kept xs ys (cell a) good alike = ap Ok (alike a good)
  value-alike kept xs ys (indirect base size i) good alike =
      let same : core_value xs i ≡ core_value ys i = value-alike kept xs ys i (and-right _ _ good) alike in
      ap (λ (e : Element). and_then e (λ i. and_then (place_among size i) (λ place. Ok (slice_index_or xs (base + place) (pos 0))))) same
      ∙ indexed-alike kept xs ys base size (core_value ys i) (and-left _ _ good) alike
  value-alike kept xs ys (prefix op e) good alike = ap (unary_element op) (value-alike kept xs ys e good alike)
  value-alike kept xs ys (infix_of op l r) good alike =
      let left : core_value xs l ≡ core_value ys l = value-alike kept xs ys l (and-left _ _ good) alike in
      let right : core_value xs r ≡ core_value ys r = value-alike kept xs ys r (and-right _ _ good) alike in
      rw (left, right) refl

  pub address-alike : (kept : List ℕ) (xs ys : List ℤ) (t : CoreTarget) → is_good_target core kept t ≡ true → Alike kept xs ys → target_address xs t ≡ target_address ys t
  address-alike kept xs ys (into a) good alike = refl
  address-alike kept xs ys (into_index base size i) good alike =
      ap (λ (e : Element). and_then e (λ i. and_then (place_among size i) (λ place. Ok (base + place)))) (value-alike kept xs ys i (and-right _ _ good) alike)

  pub cell-fits : (v : ℤ) → is_cell v ≡ true → FitsSigned w16 v
  cell-fits (pos n) h = record { sfits = ltb-true n 32768 h }
  cell-fits (negsuc n) h = record { sfits = ltb-true n 32768 h }

  pub sits : (kept : List ℕ) (many : ℕ) (e : CoreExpr) → core.cells + core.room ≤ many → many ≤ 4096 → is_good_expr core kept e ≡ true → has_cells e ≡ true → Sits many e
  sits kept many (fixed v) fits few good numbers = cell-fits v numbers
  sits kept many (cell a) fits few good numbers = let inside : a < core.cells + core.room = readable-inside kept a good in omega arith
  sits kept many (indirect base size i) fits few good numbers =
      let reach : base + size ≤ core.cells = leb-true _ _ (and-left _ _ good) in
      let some_size : 0 < size = ltb-true _ _ (and-left _ _ numbers) in
      (omega arith, omega arith, sits kept many i fits few (and-right _ _ good) (and-right _ _ numbers))
  sits kept many (prefix op e) fits few good numbers = sits kept many e fits few good numbers
  sits kept many (infix_of op l r) fits few good numbers =
      (sits kept many l fits few (and-left _ _ good) (and-left _ _ numbers), sits kept many r fits few (and-right _ _ good) (and-right _ _ numbers))

  -- each address of a range is readable
  pub range-readable : (kept : List ℕ) (a n k : ℕ) → list_all (is_readable core kept) (range_with_len a n) ≡ true → k < n → is_readable core kept (a + k) ≡ true
  range-readable kept a zero k h below = absurd (omega arith)
  range-readable kept a (suc n) zero h below = let e : a ≡ a + 0 = omega arith in subst (λ i. is_readable core kept i ≡ true) e (and-left _ _ h)
  range-readable kept a (suc n) (suc k) h below =
      let e : a + 1 + k ≡ a + suc k = omega arith in
      subst (λ i. is_readable core kept i ≡ true) e (range-readable kept (a + 1) n k (and-right _ _ h) (omega arith))

  pub range-alike : (kept : List ℕ) (xs ys : List ℤ) (a n : ℕ) → is_readable_range core kept a n ≡ true → Alike kept xs ys → core.cells + core.room ≤ length xs → core.cells + core.room ≤ length ys
      → take n (drop a xs) ≡ slice_range ys a (a + n)
  range-alike kept xs ys a n good alike long_x long_y =
      let inside : a + n ≤ core.cells + core.room = leb-true _ _ (and-left _ _ good) in
      let count : a + n - a ≡ n = omega arith in
      let long : length (take n (drop a xs)) ≡ n = length-take-le n (drop a xs) (omega (arith, length-drop a xs)) in
      let long_too : length (take n (drop a ys)) ≡ n = length-take-le n (drop a ys) (omega (arith, length-drop a ys)) in
      let same : take n (drop a xs) ≡ take n (drop a ys) =
      ext_get_or (pos 0) (take n (drop a xs)) (take n (drop a ys)) (long ∙ sym long_too)
      (λ i below. let small : i < n = omega arith in
      get_or-take n (drop a xs) i (pos 0) small ∙ get_or-drop a xs i (pos 0) ∙ alike (a + i) (range-readable kept a n i (and-right _ _ good) small)
      ∙ sym (get_or-take n (drop a ys) i (pos 0) small ∙ get_or-drop a ys i (pos 0))) in
      same ∙ ap (λ k. take k (drop a ys)) (sym count)
