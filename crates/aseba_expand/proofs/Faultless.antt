-- An expression without a fault is grounded.
use Rattle.std.proofs.Common.{◌≡◌, refl, sym, ◌∙◌, ap, ℕ, ◌≤◌, ◌<◌, Bool, true, false, not, ◌||◌, ℤ, pos, negsuc, List, [], ◌∷◌, ◌++◌, arith, Option, Some, None, is_some, length, nat_lt}
use Rattle.std.specs.Prelude.{option_and_then, IsSome, unwrap_or}
use Rattle.std.proofs.lemmas.Bool.{ltb-false, ltb-true}
use Rattle.aseba_tree.specs.Code.{Name, Place, Expr, expr, Form, number, whole, index, range, items, one, two, Exprs, no_exprs, exprs}
use Rattle.aseba_tree.specs.Value.{as_place, constant}
use Rattle.aseba_tree.specs.State.{Program}
use Rattle.aseba_tree.specs.CoreExpr.{CoreExpr}
use Rattle.aseba_tree.specs.Spells.{first_of}
use Rattle.aseba_tree.specs.Sizes.{Known, variable_of, constant_value, is_constant, size_of, variable_size}
use Rattle.aseba_tree.specs.Faults.{fault_if, unknown, not_constant, index_out, unknown_variable, index_outside, backwards, constant_place, bad_range, bad_index, zero_divisions, expr_faults, form_faults, list_faults, bad_operand, bad_operands}
use Rattle.aseba_tree.specs.Elements.{variable_place, elements_of}
use Rattle.aseba_tree.specs.Shape.{is_filled, is_filled_form, are_filled, is_some_exprs}
use Rattle.aseba_tree.specs.SoundLaws.{HasCells}
use Rattle.aseba_tree.proofs.SizeLaws.{EachKnown, nil_left, nil_right, no_fault, not_false, both_left, both_right, place_value, expr_is_good}
use Rattle.aseba_tree.proofs.ConstantLaws.{constant_is_value}
use Rattle.aseba_tree.proofs.ElementLaws.{laid_scope, expr_is_long}
use Rattle.aseba_expand.specs.Plain.{bound}
use Rattle.aseba_expand.proofs.Ready.{IsFilled, IsThere, Reaches, Grounded, GroundedForm, GroundedList}
use Rattle.aseba_check.proofs.NumbersExprs.{IsSame, same-place}

pub is_there : (place : Place) (k : Option Known) (p : Option (ℕ × ℕ)) → IsSame k p → fault_if (not (is_some k)) place unknown ≡ [] → IsThere p
is_there place None p h e = cc
is_there place (Some k) None h e = absurd h
is_there place (Some k) (Some p) h e = tt

long-filled : (n : Option ℕ) (es : List CoreExpr) → n ≡ Some (length es) → HasCells n → IsFilled es
long-filled None es e h = absurd h
long-filled (Some n) [] e h = absurd (let none : n ≡ 0 = ap (λ o. unwrap_or o 0) e in omega (arith, none, h))
long-filled (Some n) (x ∷ es) e h = tt

-- an element for each cell, of which there is one at least
pub filled : (program : Program) → EachKnown (laid_scope program).variables → (e : Expr) → is_filled e ≡ true → expr_faults (laid_scope program) e ≡ [] → IsFilled (elements_of program e)
filled program h e f k = long-filled (size_of (laid_scope program) e) (elements_of program e) (expr_is_long program h e f k) (expr_is_good (laid_scope program) h e f k).has_cells

-- the number that a bound without a fault has
pub bound-value : (program : Program) → EachKnown (laid_scope program).variables → (c : Expr) → is_filled c ≡ true → expr_faults (laid_scope program) c ≡ [] → constant_place (laid_scope program) c ≡ [] → IsSome (constant_value (laid_scope program) c)
bound-value program h c f e k =
    let scope = laid_scope program in
    place_value (is_constant scope c) (zero_divisions scope c) _ _ (constant_value scope c) (size_of scope c) (record { place = first_of c; rule = not_constant }) refl (expr_is_good scope h c f e) refl k

or-right : (a b : Bool) → (a || b) ≡ false → b ≡ false
or-right true b e = cc
or-right false b e = e

range-inside : (place : Place) (k : Option Known) (p : Option (ℕ × ℕ)) (c d : Option ℤ) → IsSame k p → fault_if (not (is_some k)) place unknown ≡ [] → IsSome c → IsSome d
    → index_outside place (option_and_then (λ v. v.size) k) c ≡ [] → index_outside place (option_and_then (λ v. v.size) k) d ≡ [] → backwards place (option_and_then (λ v. v.size) k) c d ≡ []
    → (m n : ℤ) → ((v : ℤ) → c ≡ Some v → m ≡ v) → ((v : ℤ) → d ≡ Some v → n ≡ v) → Reaches p (as_place n) × (as_place m ≤ as_place n)
range-inside place None p c d h u hc hd oc od b m n vc vd = cc
range-inside place (Some k) None c d h u hc hd oc od b m n vc vd = absurd h
range-inside place (Some k) (Some p) None d h u hc hd oc od b m n vc vd = cc
range-inside place (Some k) (Some p) (Some c) None h u hc hd oc od b m n vc vd = cc
range-inside place (Some k) (Some p) (Some c) (Some d) h u hc hd oc od b m n vc vd =
    of c d (ap (λ size. index_outside place size (Some c)) (sym h) ∙ oc) (ap (λ size. index_outside place size (Some d)) (sym h) ∙ od) (ap (λ size. backwards place size (Some c) (Some d)) (sym h) ∙ b) (vc c refl) (vd d refl)
  where
    of : (c d : ℤ) → index_outside place (Some p.1) (Some c) ≡ [] → index_outside place (Some p.1) (Some d) ≡ [] → backwards place (Some p.1) (Some c) (Some d) ≡ [] → m ≡ c → n ≡ d → (as_place n < p.1) × (as_place m ≤ as_place n)
    of (negsuc i) d oc od b em en = let wrong = no_fault true place (index_out (pos p.1) (negsuc i)) oc in cc
    of (pos i) (negsuc j) oc od b em en = let wrong = no_fault true place (index_out (pos p.1) (negsuc j)) od in cc
    of (pos i) (pos j) oc od b em en =
        let forward : i ≤ j = ltb-false j i (no_fault (nat_lt j i) place (index_out (pos p.1) (pos j)) b) in
        let inside : j < p.1 = ltb-true j p.1 (not_false (nat_lt j p.1) (or-right (nat_lt j 0) (not (nat_lt j p.1)) (no_fault (nat_lt j 0 || not (nat_lt j p.1)) place (index_out (pos p.1) (pos j)) od))) in
        rw (em, en) (inside, forward)

pub range-good : (program : Program) → EachKnown (laid_scope program).variables → (place : Place) (name : Name) (c d : Expr) → is_filled c ≡ true → is_filled d ≡ true → form_faults (laid_scope program) place (range name c d) ≡ []
    → Reaches (variable_place program name) (bound program d) × (bound program c ≤ bound program d)
range-good program h place name c d fc fd e =
    let scope = laid_scope program in
    let before = unknown_variable scope place name ++ expr_faults scope c in
    let parts = nil_left (before ++ expr_faults scope d) (bad_range scope place name c d) e in
    let bad = nil_right (before ++ expr_faults scope d) (bad_range scope place name c d) e in
    let first = nil_left before (expr_faults scope d) parts in
    let with_d = nil_left _ _ bad in
    let with_c = nil_left _ _ with_d in
    let places = nil_left (constant_place scope c ++ constant_place scope d) _ with_c in
    range-inside place (variable_of scope name) (variable_place program name) (constant_value scope c) (constant_value scope d) (same-place program name) (nil_left (unknown_variable scope place name) _ first)
    (bound-value program h c fc (nil_right (unknown_variable scope place name) _ first) (nil_left (constant_place scope c) _ places))
    (bound-value program h d fd (nil_right before _ parts) (nil_right (constant_place scope c) _ places))
    (nil_right (constant_place scope c ++ constant_place scope d) _ with_c) (nil_right _ (index_outside place (variable_size scope name) (constant_value scope d)) with_d) (nil_right _ (backwards place (variable_size scope name) (constant_value scope c) (constant_value scope d)) bad)
    (constant program.project.consts c) (constant program.project.consts d) (λ v. constant_is_value scope c v) (λ v. constant_is_value scope d v)

mutual
  -- an expression without a fault is grounded
  pub grounded : (program : Program) → EachKnown (laid_scope program).variables → (e : Expr) → is_filled e ≡ true → expr_faults (laid_scope program) e ≡ [] → Grounded program e
  grounded program h (expr first place form) f e = form-grounded program h place form f e

  form-grounded : (program : Program) → EachKnown (laid_scope program).variables → (place : Place) (form : Form) → is_filled_form form ≡ true → form_faults (laid_scope program) place form ≡ [] → GroundedForm program form
  form-grounded program h place (number v) f e = tt
  form-grounded program h place (whole name) f e = tt
  form-grounded program h place (index name i) f e =
      let scope = laid_scope program in
      let parts = nil_left (unknown_variable scope place name ++ expr_faults scope i) (bad_index scope place name i) e in
      let own = nil_right (unknown_variable scope place name) (expr_faults scope i) parts in
      (is_there place (variable_of scope name) (variable_place program name) (same-place program name) (nil_left (unknown_variable scope place name) _ parts), filled program h i f own, grounded program h i f own)
  form-grounded program h place (range name c d) f e = range-good program h place name c d (both_left (is_filled c) (is_filled d) f) (both_right (is_filled c) (is_filled d) f) e
  form-grounded program h place (items es) f e = list-grounded program h es (both_right (is_some_exprs es) _ f) e
  form-grounded program h place (one op i) f e = grounded program h i f (nil_left (expr_faults (laid_scope program) i) (bad_operand (laid_scope program) op i) e)
  form-grounded program h place (two op l r) f e =
      let scope = laid_scope program in
      let operands = nil_left (expr_faults scope l ++ expr_faults scope r) (bad_operands scope place op l r) e in
      (grounded program h l (both_left (is_filled l) (is_filled r) f) (nil_left (expr_faults scope l) (expr_faults scope r) operands), grounded program h r (both_right (is_filled l) (is_filled r) f) (nil_right (expr_faults scope l) (expr_faults scope r) operands))

  pub list-grounded : (program : Program) → EachKnown (laid_scope program).variables → (es : Exprs) → are_filled es ≡ true → list_faults (laid_scope program) es ≡ [] → GroundedList program es
  list-grounded program h no_exprs f e = tt
  list-grounded program h (exprs i es) f e =
      (grounded program h i (both_left (is_filled i) _ f) (nil_left (expr_faults (laid_scope program) i) _ e), list-grounded program h es (both_right (is_filled i) _ f) (nil_right (expr_faults (laid_scope program) i) _ e))
