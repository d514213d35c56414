-- A target without a fault names the cells that are assigned to it.
use Rattle.std.proofs.Common.{◌≡◌, refl, sym, ◌∙◌, subst, ℕ, ◌+◌, ◌≤◌, true, if◌then◌else◌, List, [], ◌∷◌, ◌++◌, arith, Option, Some, None, length}
use Rattle.std.specs.List.{list_all, range_with_len}
use Rattle.std.proofs.lemmas.List.{length-map}
use Rattle.std.proofs.lemmas.List.FromFn.{length-range_with_len}
use Rattle.aseba_tree.specs.Code.{Name, Place, Expr, Part, all, at, span}
use Rattle.aseba_tree.specs.Value.{from_to}
use Rattle.aseba_tree.specs.State.{Program}
use Rattle.aseba_tree.specs.Step.{target_expr, part_form}
use Rattle.aseba_tree.specs.CoreExpr.{CoreExpr, cell}
use Rattle.aseba_tree.specs.Sizes.{variable_of, constant_value, is_constant, variable_size}
use Rattle.aseba_tree.specs.Faults.{not_one_cell, unknown_variable, index_outside, zero_divisions, expr_faults, part_faults}
use Rattle.aseba_tree.specs.Shape.{is_filled, part_exprs}
use Rattle.aseba_tree.specs.Elements.{variable_place, elements_of, target_index}
use Rattle.aseba_tree.specs.Numbers.{assigned_room, source_room}
use Rattle.aseba_tree.proofs.SizeLaws.{EachKnown, nil_left, nil_right, both_left, both_right}
use Rattle.aseba_tree.proofs.ElementLaws.{laid_scope}
use Rattle.aseba_expand.specs.Plain.{bound}
use Rattle.aseba_expand.proofs.Ready.{IsThere, Reaches, IsAlone, IsSized, HasRoom, ReadyPart}
use Rattle.aseba_expand.proofs.Faultless.{is_there, grounded, range-good}
use Rattle.aseba_check.proofs.NumbersExprs.{same-place, form-many, expr-one}
use Rattle.aseba_check.proofs.NumbersStatements.{part-good, part-filled}

nil-append : {A : Type 0} (xs ys : List A) → xs ≡ [] → ys ≡ [] → xs ++ ys ≡ []
nil-append xs ys e f = rw (e, f) refl

first-filled : (e : Expr) (es : List Expr) → list_all is_filled (e ∷ es) ≡ true → is_filled e ≡ true
first-filled e es h = both_left (is_filled e) _ h

-- one element

pub alone : (es : List CoreExpr) → length es ≡ 1 → IsAlone es
alone [] e = absurd (omega (arith, e))
alone (x ∷ []) e = tt
alone (x ∷ y ∷ es) e = absurd (omega (arith, e))

pub one-alone : (program : Program) → EachKnown (laid_scope program).variables → (i : Expr) → is_filled i ≡ true → expr_faults (laid_scope program) i ≡ [] → not_one_cell (laid_scope program) i ≡ [] → IsAlone (elements_of program i)
one-alone program h i f e n = alone (elements_of program i) (expr-one program h i f e n)

has-room : (program : Program) (es : List CoreExpr) → 1 ≤ length es → assigned_room None es ≤ source_room program → HasRoom program es
has-room program [] h r = absurd (omega (arith, h))
has-room program (x ∷ []) h r = tt
has-room program (x ∷ y ∷ es) h r = r

-- what is assigned to a target without a fault, where it is as many cells
pub part-ready : (program : Program) → EachKnown (laid_scope program).variables → (place : Place) (name : Name) (part : Part) (es : List CoreExpr) → list_all is_filled (part_exprs part) ≡ true
    → unknown_variable (laid_scope program) place name ++ part_faults (laid_scope program) place name part ≡ []
    → length es ≡ length (elements_of program (target_expr (record { place = place; name = name; part = part }))) → assigned_room (target_index program part) es ≤ source_room program
    → ReadyPart program name part es
part-ready program h place name all es f e same room =
    let scope = laid_scope program in
    by (variable_place program name) refl (is_there place (variable_of scope name) (variable_place program name) (same-place program name) (nil_left (unknown_variable scope place name) _ e))
  where
    one : 1 ≤ length es
    one = let long = form-many program h place (part_form name all) refl (part-good (laid_scope program) place name all e) in omega (arith, long, same)

    by : (p : Option (ℕ × ℕ)) → variable_place program name ≡ p → IsThere p → IsSized (variable_place program name) (length es) × HasRoom program es
    by None q t = absurd t
    by (Some p) q t =
        let count : length (elements_of program (target_expr (record { place = place; name = name; part = all }))) ≡ p.1 = rw q (length-map (range_with_len p.0 p.1) cell ∙ length-range_with_len p.0 p.1) in
        (rw q (sym count ∙ sym same), has-room program es one room)
part-ready program h place name (at i) es f e same room =
    let scope = laid_scope program in
    let p = nil_right (unknown_variable scope place name) _ e in
    let own = nil_left (expr_faults scope i) _ p in
    let bad = nil_right (expr_faults scope i) _ p in
    let fi = first-filled i [] f in (
      is_there place (variable_of scope name) (variable_place program name) (same-place program name) (nil_left (unknown_variable scope place name) _ e),
      grounded program h i fi own,
      one-alone program h i fi own (nil_right (if is_constant scope i then zero_divisions scope i else []) _ (nil_left _ (index_outside place (variable_size scope name) (constant_value scope i)) bad)),
      alone es same,
    )
part-ready program h place name (span c d) es f e same room =
    let good = range-good program h place name c d (first-filled c (d ∷ []) f) (first-filled d [] (both_right (is_filled c) _ f)) (part-good (laid_scope program) place name (span c d) e) in
    by (variable_place program name) refl good.0
  where
    one : 1 ≤ length es
    one = let long = form-many program h place (part_form name (span c d)) (part-filled name (span c d) f) (part-good (laid_scope program) place name (span c d) e) in omega (arith, long, same)

    by : (p : Option (ℕ × ℕ)) → variable_place program name ≡ p → Reaches (variable_place program name) (bound program d) → Reaches (variable_place program name) (bound program d) × (length (from_to (bound program c) (bound program d)) ≡ length es) × HasRoom program es
    by None q r = absurd (subst (λ o. Reaches o (bound program d)) q r)
    by (Some p) q r =
        let count : length (elements_of program (target_expr (record { place = place; name = name; part = span c d }))) ≡ length (from_to (bound program c) (bound program d)) = rw q (length-map (from_to (bound program c) (bound program d)) (λ i. cell (p.0 + i))) in
        (r, sym count ∙ sym same, has-room program es one room)
