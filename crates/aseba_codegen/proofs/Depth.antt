-- Where no part leads to itself, what a call of a part takes is enough for its statements.
use Rattle.std.proofs.Common.{◌≡◌, ℕ, zero, suc, ◌+◌, ◌-◌, ◌<◌, ◌≤◌, ◌⊎◌, inl, inr, ◌||◌, not, Bool, true, false, nat_lt, List, [], ◌∷◌, ◌++◌, length, slice_get, Option, Some, None, refl, sym, ap, ◌∙◌, subst, arith, true≢false, eqb, eqb-true, eq-eqb, ltb-true}
use Rattle.std.proofs.lemmas.Bool.{ltb-false}
use Rattle.std.proofs.lemmas.Option.{slice_get_past}
use Rattle.std.proofs.lemmas.List.Folds.{list_any-append}
use Rattle.std.proofs.lemmas.Map.Keys.{IsDistinct-cons}
use Rattle.std.proofs.lemmas.Map.Steps.{length-le_from_distinct_below}
use Rattle.std.specs.Prelude.{nat_eq, option_map, unwrap_or}
use Rattle.std.specs.List.{list_any, list_all, range_with_len, IsDistinct, AllByRecursion}
use Rattle.aseba_tree.specs.Core.{CoreStmt, core_stmt, CoreForm, store, branch, on_edge, loop, send, enter, use_native, go_back, CoreStmts, no_core, core_stmts, CorePart, Core}
use Rattle.aseba_tree.specs.CoreNumbers.{core_stmt_depth, core_form_depth, core_list_depth, core_body, core_sub_depth}
use Rattle.aseba_tree.specs.CoreShape.{stands_in, entered_by, entered_by_form, entered_by_list, entered_from, leads_to, has_no_cycle}
use Rattle.aseba_codegen.proofs.Values.{and-left, and-right, or-left}

-- Tests

or-right : (a b : Bool) → b ≡ true → (a || b) ≡ true
or-right true b h = refl
or-right false b h = h

or-cases : (a b : Bool) → (a || b) ≡ true → (a ≡ true) ⊎ (b ≡ true)
or-cases true b h = inl refl
or-cases false b h = inr h

not-true : (b : Bool) → not b ≡ true → b ≡ true → ⊥
not-true true h e = true≢false (sym h)
not-true false h e = true≢false (sym e)

not-both : (b : Bool) → (b ≡ true → ⊥) → b ≡ false
not-both true h = absurd (h refl)
not-both false h = refl

left-stands : (xs ys : List ℕ) (n : ℕ) → stands_in xs n ≡ true → stands_in (xs ++ ys) n ≡ true
left-stands xs ys n h = list_any-append (nat_eq n) xs ys ∙ or-left (stands_in xs n) (stands_in ys n) h

right-stands : (xs ys : List ℕ) (n : ℕ) → stands_in ys n ≡ true → stands_in (xs ++ ys) n ≡ true
right-stands xs ys n h = list_any-append (nat_eq n) xs ys ∙ or-right (stands_in xs n) (stands_in ys n) h

-- what stands in a list and passes a test
any-passes : (test : ℕ → Bool) (ns : List ℕ) (n : ℕ) → stands_in ns n ≡ true → test n ≡ true → list_any test ns ≡ true
any-passes test [] n h passes = h
any-passes test (x ∷ ns) n h passes = elim (or-cases (nat_eq n x) (stands_in ns n) h) [
  | inl e ↦ or-left (test x) (list_any test ns) (ap test (sym (eqb-true n x e)) ∙ passes)
  | inr e ↦ or-right (test x) (list_any test ns) (any-passes test ns n e passes)
]

any-more : (test other : ℕ → Bool) (ns : List ℕ) → ((n : ℕ) → test n ≡ true → other n ≡ true) → list_any test ns ≡ true → list_any other ns ≡ true
any-more test other [] h passes = passes
any-more test other (x ∷ ns) h passes = elim (or-cases (test x) (list_any test ns) passes) [
  | inl e ↦ or-left (other x) (list_any other ns) (h x e)
  | inr e ↦ or-right (other x) (list_any other ns) (any-more test other ns h e)
]

all-differ : (n : ℕ) (ns : List ℕ) → stands_in ns n ≡ false → AllByRecursion (λ x. eqb n x ≡ false) ns
all-differ n [] h = tt
all-differ n (x ∷ ns) h = by_test (nat_eq n x) (stands_in ns n) h (all-differ n ns)
  where
    by_test : (a b : Bool) → (a || b) ≡ false → (b ≡ false → AllByRecursion (λ x. eqb n x ≡ false) ns) → (a ≡ false) × AllByRecursion (λ x. eqb n x ≡ false) ns
    by_test true b h ih = absurd (true≢false h)
    by_test false b h ih = (refl, ih h)

pub all-in-range : (test : ℕ → Bool) (a n k : ℕ) → list_all test (range_with_len a n) ≡ true → k < n → test (a + k) ≡ true
all-in-range test a zero k h below = absurd (omega arith)
all-in-range test a (suc n) zero h below = let e : a ≡ a + 0 = omega arith in subst (λ i. test i ≡ true) e (and-left _ _ h)
all-in-range test a (suc n) (suc k) h below =
    let e : a + 1 + k ≡ a + suc k = omega arith in
    subst (λ i. test i ≡ true) e (all-in-range test (a + 1) n k (and-right _ _ h) (omega arith))

-- Depth

-- what each of these takes is no more
abbrev NoDeeper : (f g : ℕ → ℕ) → List ℕ → Type 0
NoDeeper f g ns = (n : ℕ) → stands_in ns n ≡ true → f n ≤ g n

-- statements are no deeper where the subroutines that they call aren't
mutual
  stmt-deeper : (f g : ℕ → ℕ) (s : CoreStmt) → NoDeeper f g (entered_by s) → core_stmt_depth f s ≤ core_stmt_depth g s
  stmt-deeper f g (core_stmt line form) h = form-deeper f g form h

  form-deeper : (f g : ℕ → ℕ) (form : CoreForm) → NoDeeper f g (entered_by_form form) → core_form_depth f form ≤ core_form_depth g form
  form-deeper f g (store t e) h = omega arith
  form-deeper f g (branch c body other) h =
      let first : core_list_depth f body ≤ core_list_depth g body = list-deeper f g body (λ n e. h n (left-stands (entered_by_list body) (entered_by_list other) n e)) in
      let second : core_list_depth f other ≤ core_list_depth g other = list-deeper f g other (λ n e. h n (right-stands (entered_by_list body) (entered_by_list other) n e)) in
      omega arith
  form-deeper f g (on_edge c body) h = let inner : core_list_depth f body ≤ core_list_depth g body = list-deeper f g body h in omega arith
  form-deeper f g (loop c body) h = let inner : core_list_depth f body ≤ core_list_depth g body = list-deeper f g body h in omega arith
  form-deeper f g (send event address count) h = omega arith
  form-deeper f g (enter which) h = let callee : f which ≤ g which = h which (or-left _ _ (eq-eqb which which refl)) in omega arith
  form-deeper f g (use_native id values) h = omega arith
  form-deeper f g go_back h = omega arith

  list-deeper : (f g : ℕ → ℕ) (ss : CoreStmts) → NoDeeper f g (entered_by_list ss) → core_list_depth f ss ≤ core_list_depth g ss
  list-deeper f g no_core h = omega arith
  list-deeper f g (core_stmts s ss) h =
      let first : core_stmt_depth f s ≤ core_stmt_depth g s = stmt-deeper f g s (λ n e. h n (left-stands (entered_by s) (entered_by_list ss) n e)) in
      let rest : core_list_depth f ss ≤ core_list_depth g ss = list-deeper f g ss (λ n e. h n (right-stands (entered_by s) (entered_by_list ss) n e)) in
      omega arith

module _ (core : Core) where
  abbrev many : ℕ
  many = length core.parts

  -- the calls of a part are those of its statements
  calls-are : (which : ℕ) → entered_by_list (core_body core which) ≡ entered_from core which
  calls-are which = by_part (slice_get core.parts which)
    where
      by_part : (o : Option CorePart) → entered_by_list (unwrap_or (option_map (λ part. part.body) o) no_core) ≡ unwrap_or (option_map (λ part. entered_by_list part.body) o) []
      by_part None = refl
      by_part (Some part) = refl

  -- Ways

  leads-once : (n from to : ℕ) → stands_in (entered_from core from) to ≡ true → leads_to core (suc n) from to ≡ true
  leads-once n from to h =
      any-passes (λ which. nat_eq which to || leads_to core n which to) (entered_from core from) to h (or-left _ _ (eq-eqb to to refl))

  leads-more : (n from to : ℕ) → leads_to core n from to ≡ true → leads_to core (suc n) from to ≡ true
  leads-more zero from to h = absurd (true≢false (sym h))
  leads-more (suc n) from to h =
      any-more (λ which. nat_eq which to || leads_to core n which to) (λ which. nat_eq which to || leads_to core (suc n) which to) (entered_from core from)
      (λ x e. elim (or-cases (nat_eq x to) (leads_to core n x to) e) [
        | inl here ↦ or-left (nat_eq x to) (leads_to core (suc n) x to) here
        | inr later ↦ or-right (nat_eq x to) (leads_to core (suc n) x to) (leads-more n x to later)
      ]) h

  leads-longer : (n more from to : ℕ) → leads_to core n from to ≡ true → leads_to core (n + more) from to ≡ true
  leads-longer n zero from to h = let e : n ≡ n + 0 = omega arith in subst (λ k. leads_to core k from to ≡ true) e h
  leads-longer n (suc more) from to h =
      let e : suc (n + more) ≡ n + suc more = omega arith in
      subst (λ k. leads_to core k from to ≡ true) e (leads-more (n + more) from to (leads-longer n more from to h))

  -- with a call behind it
  leads-on : (n from middle to : ℕ) → leads_to core n from middle ≡ true → stands_in (entered_from core middle) to ≡ true → leads_to core (suc n) from to ≡ true
  leads-on zero from middle to h call = absurd (true≢false (sym h))
  leads-on (suc n) from middle to h call =
      any-more (λ which. nat_eq which middle || leads_to core n which middle) (λ which. nat_eq which to || leads_to core (suc n) which to) (entered_from core from)
      (λ x e. elim (or-cases (nat_eq x middle) (leads_to core n x middle) e) [
        | inl same ↦ or-right (nat_eq x to) (leads_to core (suc n) x to) (leads-once n x to (subst (λ k. stands_in (entered_from core k) to ≡ true) (sym (eqb-true x middle same)) call))
        | inr later ↦ or-right (nat_eq x to) (leads_to core (suc n) x to) (leads-on n x middle to later call)
      ]) h

  -- parts, no two of them the same, each of which leads to this one
  record Callers (before : List ℕ) (which : ℕ) : Type 0 where
    apart : IsDistinct eqb before
    inside : (n : ℕ) → list_any (eqb n) before ≡ true → n < many
    lead : (n : ℕ) → stands_in before n ≡ true → leads_to core (length before) n which ≡ true

  few-callers : (before : List ℕ) (which : ℕ) → Callers before which → which < many → stands_in before which ≡ false → length before + 1 ≤ many
  few-callers before which c inside new =
      let apart : IsDistinct eqb (which ∷ before) = IsDistinct-cons eqb which before (all-differ which before new) c.apart in
      let all_inside : (n : ℕ) → list_any (eqb n) (which ∷ before) ≡ true → n < many = λ n e. elim (or-cases (eqb n which) (list_any (eqb n) before) e) [
        | inl same ↦ subst (λ k. k < many) (sym (eqb-true n which same)) inside
        | inr earlier ↦ c.inside n earlier
      ] in
      let few : length (which ∷ before) ≤ many = length-le_from_distinct_below (which ∷ before) many apart all_inside in
      omega arith

  -- one more, by a call of the part
  more-callers : (before : List ℕ) (which callee : ℕ) → Callers before which → which < many → stands_in before which ≡ false → stands_in (entered_from core which) callee ≡ true → Callers (which ∷ before) callee
  more-callers before which callee c inside new call = record {
    apart = IsDistinct-cons eqb which before (all-differ which before new) c.apart;
    inside = λ n e. elim (or-cases (eqb n which) (list_any (eqb n) before) e) [
      | inl same ↦ subst (λ k. k < many) (sym (eqb-true n which same)) inside
      | inr earlier ↦ c.inside n earlier
    ];
    lead = λ n e. elim (or-cases (nat_eq n which) (stands_in before n) e) [
      | inl same ↦ subst (λ k. leads_to core (suc (length before)) k callee ≡ true) (sym (eqb-true n which same)) (leads-once (length before) which callee call)
      | inr earlier ↦ leads-on (length before) n which callee (c.lead n earlier) call
    ];
  }

  no-way-back : has_no_cycle core ≡ true → (n which : ℕ) → n ≤ many → which < many → leads_to core n which which ≡ true → ⊥
  no-way-back ends n which few inside h =
      let place : 0 + which ≡ which = omega arith in
      let none : not (leads_to core many which which) ≡ true = subst (λ k. not (leads_to core many k k) ≡ true) place (all-in-range (λ k. not (leads_to core many k k)) 0 many which ends inside) in
      let more : n + (many - n) ≡ many = omega arith in
      not-true (leads_to core many which which) none (subst (λ k. leads_to core k which which ≡ true) more (leads-longer n (many - n) which which h))

  -- a part that isn't there takes nothing
  past-depth : (n which : ℕ) (subs : ℕ → ℕ) → many ≤ which → core_list_depth subs (core_body core which) ≡ 0
  past-depth n which subs past = ap (λ o. core_list_depth subs (unwrap_or (option_map (λ part. part.body) o) no_core)) (slice_get_past core.parts which past)

  callee-deep : (n which : ℕ) → (which < many → core_list_depth (core_sub_depth core n) (core_body core which) ≤ core_sub_depth core n which)
      → core_sub_depth core (suc n) which ≤ core_sub_depth core n which
  callee-deep n which h = by_test (nat_lt which many) refl
    where
      by_test : (b : Bool) → nat_lt which many ≡ b → core_list_depth (core_sub_depth core n) (core_body core which) ≤ core_sub_depth core n which
      by_test true e = h (ltb-true which many e)
      by_test false e = let past : many ≤ which = ltb-false which many e in omega (arith, past-depth n which (core_sub_depth core n) past)

  deep-from : has_no_cycle core ≡ true → (n : ℕ) (before : List ℕ) (which : ℕ) → many ≤ length before + n → Callers before which → which < many → stands_in before which ≡ false
      → core_list_depth (core_sub_depth core n) (core_body core which) ≤ core_sub_depth core n which
  deep-from ends zero before which long c inside new = let few : length before + 1 ≤ many = few-callers before which c inside new in absurd (omega arith)
  deep-from ends (suc n) before which long c inside new =
      let few : length before + 1 ≤ many = few-callers before which c inside new in
      list-deeper (core_sub_depth core (suc n)) (core_sub_depth core n) (core_body core which)
      (λ callee h.
      let call : stands_in (entered_from core which) callee ≡ true = subst (λ ns. stands_in ns callee ≡ true) (calls-are which) h in
      let more : Callers (which ∷ before) callee = more-callers before which callee c inside new call in
      callee-deep n callee
      (λ callee_inside.
      let fresh : stands_in (which ∷ before) callee ≡ false = not-both (stands_in (which ∷ before) callee) (λ again. no-way-back ends (suc (length before)) callee (omega arith) callee_inside (more.lead callee again)) in
      deep-from ends n (which ∷ before) callee (omega arith) more callee_inside fresh))

  -- a call of a part has room for its statements
  pub deep : has_no_cycle core ≡ true → (which : ℕ) → which < many → core_list_depth (core_sub_depth core many) (core_body core which) ≤ core_sub_depth core many which
  unfolding IsDistinct
  deep ends which inside =
      let none : Callers [] which = record { apart = tt; inside = λ n e. absurd (true≢false (sym e)); lead = λ n e. absurd (true≢false (sym e)) } in
      deep-from ends many [] which (omega arith) none inside refl
