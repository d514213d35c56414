-- A known native does in the machine's cells what it does in the core's, where these are the same as far as they may be read.
use Rattle.std.proofs.Common.{◌≡◌, ℕ, zero, suc, ◌+◌, ◌<◌, ◌≤◌, ◌&&◌, ◌||◌, Bool, true, false, if◌then◌else◌, nat_lt, nat_le, ℤ, pos, negsuc, List, [], ◌∷◌, length, take, drop, slice_index_or, slice_set, Option, Some, None, MatchOption, refl, sym, ap, ◌∙◌, subst, arith, true≢false, ltb-true, le-leb, leb-true, eqb-true, eq-eqb, length-set}
use Rattle.std.specs.List.{list_all}
use Rattle.std.specs.Prelude.{slice_index, option_map, unwrap_or, nat_eq, unsigned_abs}
use Rattle.std.specs.Ordering.{int_eq}
use Rattle.aseba_words.specs.declared.native.Native.{Native}
use Rattle.aseba_words.specs.declared.native.Native.TheVariants.{Copy, Fill, AddScalar, Dot}
use Rattle.aseba_words.specs.Natives.{template, sizes, native_numbered, native_params, has_template, param_cells, native_run}
use Rattle.aseba_natives.specs.Call.{arg_count, cell, with_cell, addresses, call_len, is_valid_len, all_inside, fit_option, is_call, called}
use Rattle.aseba_natives.proofs.Alike.{AllCover, native-alike}
use Rattle.aseba_tree.specs.Templates.{templates, cells_of_param}
use Rattle.aseba_tree.specs.Core.{Core}
use Rattle.aseba_tree.specs.CoreShape.{is_readable, are_readable_params, is_good_call}
use Rattle.aseba_tree.specs.CoreStep.{core_native}
use Rattle.aseba_codegen.proofs.Values.{and-left, and-right, and-both, Alike, readable-inside, range-readable}
use Rattle.aseba_codegen.proofs.CellLists.{set-alike}
use Rattle.aseba_codegen.proofs.NativeValues.{AllShort}

-- a parameter with a size of its own, or of the one template that there is
abbrev pub is_plain : ℤ → Bool
is_plain (pos n) = true
is_plain (negsuc zero) = true
is_plain (negsuc (suc n)) = false

-- parameters of which some are templates, and all of these one
pub record HasOneTemplate (params : List ℤ) : Type 0 where
  pub opens : templates [] params ≡ template ∷ []
  pub plain : list_all is_plain params ≡ true
  pub has : has_template params ≡ true

each-has : (native : Native) → HasOneTemplate (sizes native)
each-has Copy = record { opens = refl; plain = refl; has = refl }
each-has Fill = record { opens = refl; plain = refl; has = refl }
each-has AddScalar = record { opens = refl; plain = refl; has = refl }
each-has Dot = record { opens = refl; plain = refl; has = refl }
each-has native = record { opens = refl; plain = refl; has = refl }

-- the parameters of a native are so
pub known-has : (id : ℕ) (params : List ℤ) → native_params id ≡ Some params → HasOneTemplate params
known-has id params = by_native (native_numbered id)
  where
    by_native : (o : Option Native) → option_map sizes o ≡ Some params → HasOneTemplate params
    by_native None e = cc
    by_native (Some native) e = let same : sizes native ≡ params = cc in subst HasOneTemplate same (each-has native)

-- the one number behind others
last-is : (n : ℕ) (vs : List ℕ) → length vs ≡ n + 1 → drop n vs ≡ slice_index vs n ∷ []
last-is n [] e = absurd (omega arith)
last-is zero (v ∷ []) e = refl
last-is zero (v ∷ w ∷ vs) e = absurd (omega arith)
last-is (suc n) (v ∷ vs) e = last-is n vs (omega arith)

-- where all parameters are inside, the length is no more than the cells
length-inside : (many len : ℕ) (params : List ℤ) (starts : List ℕ) → has_template params ≡ true → all_inside many len params starts ≡ true → len ≤ many
length-inside many len [] starts has inside = absurd (true≢false (sym has))
length-inside many len (p ∷ ps) [] has inside = absurd (true≢false (sym inside))
length-inside many len (p ∷ ps) (a ∷ starts) has inside =
    by_size (int_eq p template) refl (λ rest. length-inside many len ps starts rest (and-right (nat_le (a + param_cells len p) many) (all_inside many len ps starts) inside))
  where
    by_size : (b : Bool) → int_eq p template ≡ b → (has_template ps ≡ true → len ≤ many) → len ≤ many
    by_size true e further =
        let cells : param_cells len p ≡ len = ap (λ (b : Bool). if b then len else unsigned_abs p) e in
        let reach : a + param_cells len p ≤ many = leb-true _ _ (and-left (nat_le (a + param_cells len p) many) (all_inside many len ps starts) inside) in
        omega arith
    by_size false e further = further (sym (ap (λ (b : Bool). b || has_template ps) e) ∙ has)

module _ (core : Core) (kept : List ℕ) where
  -- a parameter at one and the same place, whose cells may be read
  abbrev pub Covers : ℕ → ℕ → ℕ → Type 0
  Covers n r q = (r ≡ q) × ((k : ℕ) → k < n → is_readable core kept (r + k) ≡ true)

  -- cells that are the same where they may be read, and how many there are
  pub record Shares (many few : ℕ) (xs ys : List ℤ) : Type 0 where
    pub alike : Alike core kept xs ys
    pub long : length xs ≡ many
    pub core_long : length ys ≡ few

  module _ (many few : ℕ) (in_many : core.cells + core.room ≤ many) (in_few : core.cells + core.room ≤ few) where
    shares-reads : (n r q : ℕ) → Covers n r q → (xs ys : List ℤ) → Shares many few xs ys → (k : ℕ) → k < n → cell xs r k ≡ cell ys q k
    shares-reads n r q c xs ys h k below = h.alike (r + k) (c.1 k below) ∙ ap (λ a. slice_index_or ys (a + k) (pos 0)) c.0

    shares-stores : (n r q : ℕ) → Covers n r q → (xs ys : List ℤ) → Shares many few xs ys → (k : ℕ) → k < n → (v : ℤ) → Shares many few (with_cell xs r k v) (with_cell ys q k v)
    shares-stores n r q c xs ys h k below v =
        let inside : r + k < core.cells + core.room = readable-inside core kept (r + k) (c.1 k below) in
        let long = h.long in
        let core_long = h.core_long in
        subst (λ a. Shares many few (with_cell xs r k v) (slice_set ys (a + k) v)) c.0 (record {
          alike = λ i readable. set-alike xs ys (r + k) i v (pos 0) (omega arith) (omega arith) (h.alike i readable);
          long = length-set xs (r + k) v ∙ h.long;
          core_long = length-set ys (r + k) v ∙ h.core_long;
        })

    -- readable parameters cover themselves
    covers-all : (len : ℕ) (params : List ℤ) (values : List ℕ) → list_all is_plain params ≡ true → are_readable_params core kept (template ∷ []) (len ∷ []) params values ≡ true → length params ≤ length values
        → AllCover cell with_cell cell with_cell (Shares many few) Covers shares-reads shares-stores len params (take (length params) values) (take (length params) values)
    covers-all len [] values plain readable long = tt
    covers-all len (p ∷ ps) [] plain readable long = absurd (omega arith)
    covers-all len (pos n ∷ ps) (a ∷ values) plain readable long =
        ((refl, λ k below. range-readable core kept a n k (and-right _ _ (and-left _ _ readable)) below), covers-all len ps values plain (and-right _ _ readable) (omega arith))
    covers-all len (negsuc zero ∷ ps) (a ∷ values) plain readable long =
        ((refl, λ k below. range-readable core kept a len k (and-right _ _ (and-left _ _ readable)) below), covers-all len ps values plain (and-right _ _ readable) (omega arith))
    covers-all len (negsuc (suc n) ∷ ps) (a ∷ values) plain readable long = absurd (true≢false (sym plain))

  -- and lie among the cells
  inside-all : (many : ℕ) → core.cells + core.room ≤ many → (len : ℕ) (params : List ℤ) (values : List ℕ) → list_all is_plain params ≡ true
      → are_readable_params core kept (template ∷ []) (len ∷ []) params values ≡ true → length params ≤ length values → all_inside many len params (take (length params) values) ≡ true
  inside-all many enough len [] values plain readable long = refl
  inside-all many enough len (p ∷ ps) [] plain readable long = absurd (omega arith)
  inside-all many enough len (pos n ∷ ps) (a ∷ values) plain readable long =
      let reach : a + n ≤ core.cells + core.room = leb-true _ _ (and-left _ _ (and-left _ _ readable)) in
      and-both _ _ (le-leb _ _ (omega arith)) (inside-all many enough len ps values plain (and-right _ _ readable) (omega arith))
  inside-all many enough len (negsuc zero ∷ ps) (a ∷ values) plain readable long =
      let reach : a + len ≤ core.cells + core.room = leb-true _ _ (and-left _ _ (and-left _ _ readable)) in
      and-both _ _ (le-leb _ _ (omega arith)) (inside-all many enough len ps values plain (and-right _ _ readable) (omega arith))
  inside-all many enough len (negsuc (suc n) ∷ ps) (a ∷ values) plain readable long = absurd (true≢false (sym plain))

  -- what a call of a known native has: an address for each parameter and then a length, with which all of them may be read
  pub record Argued (params : List ℤ) (values : List ℕ) : Type 0 where
    pub many : length values ≡ length params + 1
    pub some : 0 < slice_index values (length params)
    pub readable : are_readable_params core kept (template ∷ []) (slice_index values (length params) ∷ []) params values ≡ true

  -- the numbers of such a call have sixteen bits
  short-all : core.cells + core.room ≤ 4096 → (len : ℕ) (params : List ℤ) (values : List ℕ) → list_all is_plain params ≡ true → are_readable_params core kept (template ∷ []) (len ∷ []) params values ≡ true
      → length values ≡ length params + 1 → slice_index values (length params) < 65536 → AllShort values
  short-all low len [] [] plain readable long last = absurd (omega arith)
  short-all low len [] (v ∷ []) plain readable long last = (last, tt)
  short-all low len [] (v ∷ w ∷ values) plain readable long last = absurd (omega arith)
  short-all low len (p ∷ ps) [] plain readable long last = absurd (omega arith)
  short-all low len (p ∷ ps) (a ∷ values) plain readable long last =
      let reach : a + cells_of_param (template ∷ []) (len ∷ []) p ≤ core.cells + core.room = leb-true _ _ (and-left _ _ (and-left _ _ readable)) in
      (omega arith, short-all low len ps values (and-right _ _ plain) (and-right _ _ readable) (omega arith) last)

  argued : (params : List ℤ) (values : List ℕ) → HasOneTemplate params → is_good_call core kept (Some params) values ≡ true → Argued params values
  argued params values has good =
      let count : Bool = nat_eq (length values) (length params + length (templates [] params)) in
      let lengths : List ℕ = drop (length params) values in
      let some : Bool = list_all (nat_lt 0) lengths in
      let all : Bool = are_readable_params core kept (templates [] params) lengths params values in
      let front : (count && some) ≡ true = and-left (count && some) all good in
      let opened : length (templates [] params) ≡ 1 = ap length has.opens in
      let many : length values ≡ length params + 1 = let e = eqb-true (length values) (length params + length (templates [] params)) (and-left count some front) in omega arith in
      let last : lengths ≡ slice_index values (length params) ∷ [] = last-is (length params) values many in
      record {
        many = many;
        some = ltb-true _ _ (and-left _ _ (subst (λ xs. list_all (nat_lt 0) xs ≡ true) last (and-right count some front)));
        readable = subst (λ xs. are_readable_params core kept (template ∷ []) xs params values ≡ true) last
            (subst (λ ts. are_readable_params core kept ts lengths params values ≡ true) has.opens (and-right (count && some) all good));
      }

  -- a call fits the machine, stops on both sides or on none, and leaves the cells alike
  pub record CalledAlike (many few id : ℕ) (values : List ℕ) (xs ys : List ℤ) : Type 0 where
    pub count : option_map arg_count (native_params id) ≡ Some (length values)
    pub short : AllShort values
    pub fits : is_call many id values ≡ true
    pub stops : (called id values xs).0 ≡ (core_native id values ys).0
    pub shares : Shares many few (called id values xs).1 (core_native id values ys).1

  module _ (many few : ℕ) (in_many : core.cells + core.room ≤ many) (in_few : core.cells + core.room ≤ few) (low : core.cells + core.room ≤ 4096) where
    module _ (id : ℕ) (params : List ℤ) (values : List ℕ) (known : native_params id ≡ Some params) (has : HasOneTemplate params) where
      abbrev starts : List ℕ
      starts = take (length params) values

      abbrev len : ℕ
      len = slice_index values (length params)

      -- parameters of these sizes cover themselves at the call's addresses
      abbrev Covering : List ℤ → Type 0
      Covering ps = AllCover cell with_cell cell with_cell (Shares many few) Covers (shares-reads many few in_many in_few) (shares-stores many few in_many in_few) len ps starts starts

      len-inside : Argued params values → len ≤ core.cells + core.room
      len-inside a =
          let long = a.many in
          length-inside (core.cells + core.room) len params starts has.has (inside-all (core.cells + core.room) (omega arith) len params values has.plain a.readable (omega arith))

      call-short : Argued params values → AllShort values
      call-short a = let within : len ≤ core.cells + core.room = len-inside a in short-all low len params values has.plain a.readable a.many (omega arith)

      call-fits : Argued params values → is_call many id values ≡ true
      call-fits a =
          let long = a.many in
          let fits : (is_template : Bool) → Bool = λ is_template. nat_eq (length values) (length params + (if is_template then 1 else 0)) && is_valid_len (if is_template then len else 1) && all_inside many (if is_template then len else 1) params starts in
          let inside : all_inside many len params starts ≡ true = inside-all many in_many len params values has.plain a.readable (omega arith) in
          let within : len ≤ core.cells + core.room = len-inside a in
          let valid : is_valid_len len ≡ true = and-both (nat_le 1 len) (nat_le len 4096) (le-leb 1 len a.some) (le-leb len 4096 (omega arith)) in
          let counted : nat_eq (length values) (length params + 1) ≡ true = eq-eqb _ _ long in
          ap (λ o. fit_option many o values) known ∙ ap fits has.has ∙ and-both _ _ (and-both _ _ counted valid) inside

      called-is : (xs : List ℤ) → called id values xs ≡ native_run cell with_cell id starts len xs
      called-is xs =
          ap (λ (o : Option (List ℤ)). native_run cell with_cell id (addresses (unwrap_or o []) values) (call_len (unwrap_or o []) values) xs) known
          ∙ ap (λ (is_template : Bool). native_run cell with_cell id starts (if is_template then len else 1) xs) has.has

      core_native-is : (ys : List ℤ) → core_native id values ys ≡ native_run cell with_cell id starts len ys
      core_native-is ys = ap (λ (o : Option (List ℤ)). native_run cell with_cell id (take (length (unwrap_or o [])) values) (slice_index_or values (length (unwrap_or o [])) 0) ys) known

      runs-alike : Argued params values → (xs ys : List ℤ) → Shares many few xs ys
          → ((native_run cell with_cell id starts len xs).0 ≡ (native_run cell with_cell id starts len ys).0) × Shares many few (native_run cell with_cell id starts len xs).1 (native_run cell with_cell id starts len ys).1
      runs-alike a xs ys h =
          let long = a.many in
          native-alike cell with_cell cell with_cell (Shares many few) Covers (shares-reads many few in_many in_few) (shares-stores many few in_many in_few) id starts starts len
          (by_native (native_numbered id) known (covers-all many few in_many in_few len params values has.plain a.readable (omega arith))) xs ys h
        where
          by_native : (o : Option Native) → option_map sizes o ≡ Some params → Covering params → MatchOption o (Unit {0}) (λ native. Covering (sizes native))
          by_native None e c = tt
          by_native (Some native) e c = let same : params ≡ sizes native = cc in subst Covering same c

    pub call-alike : (id : ℕ) (params : List ℤ) (values : List ℕ) (xs ys : List ℤ) → native_params id ≡ Some params → is_good_call core kept (Some params) values ≡ true → Shares many few xs ys
        → CalledAlike many few id values xs ys
    call-alike id params values xs ys known good h =
        let has : HasOneTemplate params = known-has id params known in
        let a : Argued params values = argued params values has good in
        let both = runs-alike id params values known has a xs ys h in
        record {
          count = ap (option_map arg_count) known ∙ ap (λ (is_template : Bool). Some (length params + (if is_template then 1 else 0))) has.has ∙ ap Some (sym a.many);
          short = call-short id params values known has a;
          fits = call-fits id params values known has a;
          stops = ap (λ (r : Bool × List ℤ). r.0) (called-is id params values known has xs) ∙ both.0 ∙ sym (ap (λ (r : Bool × List ℤ). r.0) (core_native-is id params values known has ys));
          shares = subst (λ (r : Bool × List ℤ). Shares many few r.1 (core_native id values ys).1) (sym (called-is id params values known has xs))
              (subst (λ (r : Bool × List ℤ). Shares many few (native_run cell with_cell id (take (length params) values) (slice_index values (length params)) xs).1 r.1) (sym (core_native-is id params values known has ys)) both.1);
        }
