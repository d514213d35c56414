-- A native stops exactly where a divisor is 0 when the cells before it have been stored.
use Rattle.std.proofs.Common.{◌≡◌, ℕ, zero, suc, ◌+◌, ◌<◌, Bool, true, false, List, [], ◌∷◌, length, if◌then◌else◌, Option, Some, None, IsSomeAnd, ℤ, pos, ◌*ℤ◌, int_div, refl, sym, ap, ◌∙◌, subst, arith}
use Rattle.std.proofs.lemmas.Int.{ints}
use Rattle.aseba_words.specs.Cell.{divided}
use Rattle.aseba_words.specs.declared.native.Native.{Native}
use Rattle.aseba_words.specs.declared.native.Native.TheVariants.{Copy, Fill, AddScalar, Add, Sub, Mul, Div, Min, Max, Clamp, Dot, MulDiv, Stat, ArgBounds}
use Rattle.aseba_words.specs.Natives.{each, stored, run_native, numbered_run, native_numbered}
use Rattle.aseba_natives.specs.Call.{cell, with_cell, divisors, is_call, called, end_of, call_end, EndCause, addresses, params_of, call_len}
use Rattle.aseba_natives.specs.declared.end.NativeEnd.TheVariants.{BadCall}

-- a quotient is missing exactly where the divisor is 0
none-from_zero : (b v : ℤ) → b ≡ pos 0 → divided b v ≡ None
none-from_zero b v e = grind (arith, ints)

zero-from_none : (b v : ℤ) → divided b v ≡ None → b ≡ pos 0
zero-from_none b v e = grind (arith, ints)

module _ (dest : ℕ) (value : List ℤ → ℕ → Option ℤ) where
  abbrev go : ℕ → ℕ → List ℤ → Bool × List ℤ
  go n j cells = each cell with_cell dest value n j cells

  abbrev go_with : Option ℤ → ℕ → ℕ → List ℤ → Bool × List ℤ
  go_with o n j cells = stored cell with_cell o dest j cells (go n (j + 1))

  -- of the cells from j on, the one at `place` is the first without a value
  abbrev StopsAt : ℕ → List ℤ → ℕ → Type 0
  StopsAt j cells place = ((go place j cells).0 ≡ false) × (value (go place j cells).1 (j + place) ≡ None)

  later : (j : ℕ) (cells : List ℤ) (v : ℤ) (k : ℕ) → value cells j ≡ Some v → StopsAt (j + 1) (with_cell cells dest j v) k → StopsAt j cells (suc k)
  later j cells v k e h =
      let same = ap (λ o. go_with o k j cells) e in
      let next : j + 1 + k ≡ j + suc k = omega arith in
      (ap (λ r. r.0) same ∙ h.0, subst (λ i. value (go (suc k) j cells).1 i ≡ None) next (ap (λ r. value r.1 (j + 1 + k)) same ∙ h.1))

  earlier : (j : ℕ) (cells : List ℤ) (v : ℤ) (k : ℕ) → value cells j ≡ Some v → StopsAt j cells (suc k) → StopsAt (j + 1) (with_cell cells dest j v) k
  earlier j cells v k e h =
      let same = ap (λ o. go_with o k j cells) e in
      let next : j + suc k ≡ j + 1 + k = omega arith in
      (ap (λ r. r.0) (sym same) ∙ h.0, subst (λ i. value (go k (j + 1) (with_cell cells dest j v)).1 i ≡ None) next (ap (λ r. value r.1 (j + suc k)) (sym same) ∙ h.1))

  first_place : (left j : ℕ) (cells : List ℤ)
      → ((next : List ℤ) → (go left (j + 1) next).0 ≡ true → (k : ℕ) × (k < left) × StopsAt (j + 1) next k)
      → (o : Option ℤ) → value cells j ≡ o → (go (suc left) j cells).0 ≡ true → (k : ℕ) × (k < suc left) × StopsAt j cells k
  first_place left j cells ih None e h =
      let here : j ≡ j + 0 = omega arith in
      (0, omega arith, (refl, subst (λ i. value cells i ≡ None) here e))
  first_place left j cells ih (Some v) e h =
      let r = ih (with_cell cells dest j v) (ap (λ o. (go_with o left j cells).0) (sym e) ∙ h) in
      (suc r.0, omega arith, later j cells v r.0 e r.2)

  pub stop-place : (n j : ℕ) (cells : List ℤ) → (go n j cells).0 ≡ true → (k : ℕ) × (k < n) × StopsAt j cells k
  stop-place zero j cells h = cc
  stop-place (suc left) j cells h = first_place left j cells (stop-place left (j + 1)) (value cells j) refl h

  go_on : (left j : ℕ) (cells : List ℤ) (k : ℕ)
      → ((next : List ℤ) → k < left → StopsAt (j + 1) next k → (go left (j + 1) next).0 ≡ true)
      → (o : Option ℤ) → value cells j ≡ o → suc k < suc left → StopsAt j cells (suc k) → (go (suc left) j cells).0 ≡ true
  go_on left j cells k ih None e lt h = let stopped : (go (suc k) j cells).0 ≡ true = ap (λ o. (go_with o k j cells).0) e in cc
  go_on left j cells k ih (Some v) e lt h =
      ap (λ o. (go_with o left j cells).0) e ∙ ih (with_cell cells dest j v) (omega arith) (earlier j cells v k e h)

  pub stopped-at : (n j : ℕ) (cells : List ℤ) (k : ℕ) → k < n → StopsAt j cells k → (go n j cells).0 ≡ true
  stopped-at zero j cells k lt h = absurd (omega arith)
  stopped-at (suc left) j cells zero lt h =
      let here : j + 0 ≡ j = omega arith in
      ap (λ o. (go_with o left j cells).0) (subst (λ i. value cells i ≡ None) here h.1)
  stopped-at (suc left) j cells (suc k) lt h = go_on left j cells k (λ next. stopped-at left (j + 1) next k) (value cells j) refl lt h

  -- what always has a value never stops
  pub never-stops : ((t : List ℤ) (k : ℕ) → (v : ℤ) × (value t k ≡ Some v)) → (n j : ℕ) (cells : List ℤ) → (go n j cells).0 ≡ false
  never-stops f zero j cells = refl
  never-stops f (suc left) j cells =
      let w = f cells j in ap (λ o. (go_with o left j cells).0) w.1 ∙ never-stops f left (j + 1) (with_cell cells dest j w.0)

-- a divisor of this native is 0 when the cells before it have been stored
abbrev pub MeetsZero : Option Native → List ℕ → ℕ → List ℤ → Type 0
MeetsZero o starts len cells =
    IsSomeAnd (divisors o starts) (λ at. (k : ℕ) × (k < len) × ((numbered_run cell with_cell o starts k cells).0 ≡ false) × (cell (numbered_run cell with_cell o starts k cells).1 at k ≡ pos 0))

-- what divides by nothing runs to its end
finishes : (native : Native) (starts : List ℕ) (len : ℕ) (cells : List ℤ) → divisors (Some native) starts ≡ None → (run_native cell with_cell native starts len cells).0 ≡ false
finishes Copy (dest ∷ a ∷ []) len cells e = never-stops dest _ (λ t k. (_, refl)) len 0 cells
finishes Fill (dest ∷ a ∷ []) len cells e = never-stops dest _ (λ t k. (_, refl)) len 0 cells
finishes AddScalar (dest ∷ a ∷ b ∷ []) len cells e = never-stops dest _ (λ t k. (_, refl)) len 0 cells
finishes Add (dest ∷ a ∷ b ∷ []) len cells e = never-stops dest _ (λ t k. (_, refl)) len 0 cells
finishes Sub (dest ∷ a ∷ b ∷ []) len cells e = never-stops dest _ (λ t k. (_, refl)) len 0 cells
finishes Mul (dest ∷ a ∷ b ∷ []) len cells e = never-stops dest _ (λ t k. (_, refl)) len 0 cells
finishes Min (dest ∷ a ∷ b ∷ []) len cells e = never-stops dest _ (λ t k. (_, refl)) len 0 cells
finishes Max (dest ∷ a ∷ b ∷ []) len cells e = never-stops dest _ (λ t k. (_, refl)) len 0 cells
finishes Clamp (dest ∷ a ∷ b ∷ d ∷ []) len cells e = never-stops dest _ (λ t k. (_, refl)) len 0 cells
finishes Div (dest ∷ a ∷ b ∷ []) len cells e = cc
finishes MulDiv (dest ∷ a ∷ b ∷ d ∷ []) len cells e = cc
finishes Dot (dest ∷ a ∷ b ∷ shift ∷ []) len cells e = refl
finishes Stat (src ∷ min ∷ max ∷ middle ∷ []) len cells e = refl
finishes ArgBounds (src ∷ argmin ∷ argmax ∷ []) len cells e = refl
finishes _ _ len cells e = refl

meets-zero : (native : Native) (starts : List ℕ) (len : ℕ) (cells : List ℤ) → (run_native cell with_cell native starts len cells).0 ≡ true → MeetsZero (Some native) starts len cells
meets-zero Div (dest ∷ a ∷ b ∷ []) len cells h =
    let value : List ℤ → ℕ → Option ℤ = λ t k. divided (cell t b k) (int_div (cell t a k) (cell t b k)) in
    let r = stop-place dest value len 0 cells h in
    (r.0, r.1, r.2.0, subst (λ i. cell (go dest value r.0 0 cells).1 b i ≡ pos 0) (omega arith) (zero-from_none _ _ r.2.1))
meets-zero MulDiv (dest ∷ a ∷ b ∷ d ∷ []) len cells h =
    let value : List ℤ → ℕ → Option ℤ = λ t k. divided (cell t d k) (int_div (cell t a k *ℤ cell t b k) (cell t d k)) in
    let r = stop-place dest value len 0 cells h in
    (r.0, r.1, r.2.0, subst (λ i. cell (go dest value r.0 0 cells).1 d i ≡ pos 0) (omega arith) (zero-from_none _ _ r.2.1))
meets-zero native starts len cells h = let e = finishes native starts len cells refl in cc

stops : (native : Native) (starts : List ℕ) (len : ℕ) (cells : List ℤ) → MeetsZero (Some native) starts len cells → (run_native cell with_cell native starts len cells).0 ≡ true
stops Div (dest ∷ a ∷ b ∷ []) len cells r =
    let value : List ℤ → ℕ → Option ℤ = λ t k. divided (cell t b k) (int_div (cell t a k) (cell t b k)) in
    stopped-at dest value len 0 cells r.0 r.1 (r.2, subst (λ i. value (go dest value r.0 0 cells).1 i ≡ None) (omega arith) (none-from_zero _ _ r.3))
stops MulDiv (dest ∷ a ∷ b ∷ d ∷ []) len cells r =
    let value : List ℤ → ℕ → Option ℤ = λ t k. divided (cell t d k) (int_div (cell t a k *ℤ cell t b k) (cell t d k)) in
    stopped-at dest value len 0 cells r.0 r.1 (r.2, subst (λ i. value (go dest value r.0 0 cells).1 i ≡ None) (omega arith) (none-from_zero _ _ r.3))
stops _ _ len cells r = absurd r

meets : (o : Option Native) (starts : List ℕ) (len : ℕ) (cells : List ℤ) → (numbered_run cell with_cell o starts len cells).0 ≡ true → MeetsZero o starts len cells
meets None starts len cells h = cc
meets (Some native) starts len cells h = meets-zero native starts len cells h

stopped : (o : Option Native) (starts : List ℕ) (len : ℕ) (cells : List ℤ) → MeetsZero o starts len cells → (numbered_run cell with_cell o starts len cells).0 ≡ true
stopped None starts len cells h = absurd h
stopped (Some native) starts len cells h = stops native starts len cells h

module _ (id : ℕ) (args : List ℕ) (cells : List ℤ) where
  cause : (good stop : Bool) → is_call (length cells) id args ≡ good → (called id args cells).0 ≡ stop → EndCause (if good then end_of stop else BadCall) id args cells
  cause false stop e f = e
  cause true true e f = (e, meets (native_numbered id) (addresses (params_of id) args) (call_len (params_of id) args) cells f)
  cause true false e f =
      (e, λ h. let g = stopped (native_numbered id) (addresses (params_of id) args) (call_len (params_of id) args) cells h in cc)

  -- how a call ends tells its cause
  pub end-cause : EndCause (call_end id args cells) id args cells
  end-cause = cause (is_call (length cells) id args) (called id args cells).0 refl refl
