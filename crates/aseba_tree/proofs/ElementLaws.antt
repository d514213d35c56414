-- The element form of an expression without a fault has as many elements as the expression has cells.
use Rattle.std.proofs.Common.{◌≡◌, refl, sym, ◌∙◌, ap, subst, ℕ, zero, suc, ◌+◌, ◌-◌, ◌≤◌, Bool, true, false, not, ◌||◌, if◌then◌else◌, ℤ, pos, negsuc, List, [], ◌∷◌, ◌++◌, arith, Option, Some, None, is_some, length, nat_lt}
use Rattle.std.specs.Prelude.{cond, nat_eq, ◌-ℤ◌, unsigned_abs, find, option_map, option_and_then, unwrap_or, bytes_eq, map, IsSome, IsTrue}
use Rattle.std.proofs.lemmas.Bool.{ltb-false, ltb-true, eqb-true}
use Rattle.std.proofs.lemmas.List.{length-map, length-append}
use Rattle.std.proofs.lemmas.List.FromFn.{length-map-range_with_len}
use Rattle.aseba_words.specs.declared.operators.Unary.{Unary}
use Rattle.aseba_words.specs.declared.operators.Unary.TheVariants.{Minus, Abs, BitNot, Not}
use Rattle.aseba_words.specs.declared.operators.Binary.{Binary}
use Rattle.aseba_tree.specs.Code.{Name, Place, Expr, expr, Form, number, whole, index, range, items, one, two, Exprs, no_exprs, exprs, Const, Sized}
use Rattle.aseba_tree.specs.Value.{as_place, constant}
use Rattle.aseba_tree.specs.State.{Program}
use Rattle.aseba_tree.specs.CoreExpr.{CoreExpr, cell, prefix}
use Rattle.aseba_tree.specs.Layout.{address_from, variables}
use Rattle.aseba_tree.specs.Spells.{first_of}
use Rattle.aseba_tree.specs.Sizes.{Known, Scope, variable_of, constant_value, is_constant, is_of_one_cell, common_size, added_size, range_size, name_size, unary_size, size_of, form_size, list_size, variable_size}
use Rattle.aseba_tree.specs.Faults.{first_scope, world_of, fault_if, unknown, not_constant, not_scalar, bad_size, index_out, is_more_than_one, unknown_variable, is_known, index_outside, backwards, constant_place, bad_range, zero_divisions, sizes_differ, expr_faults, form_faults, list_faults, bad_operand, bad_operands}
use Rattle.aseba_tree.specs.Elements.{variable_place, named_elements, range_elements, paired_elements, elements_of, elements_of_form, elements_of_list}
use Rattle.aseba_tree.specs.Shape.{is_filled, is_filled_form, are_filled, is_some_exprs}
use Rattle.aseba_tree.specs.SoundLaws.{HasCells, SoundHasElements}
use Rattle.aseba_tree.proofs.SizeLaws.{EachKnown, nil_left, nil_right, no_fault, not_false, both_left, both_right, one_cell, place_value, operand_fault, expr_is_good}
use Rattle.aseba_tree.proofs.ConstantLaws.{known, same_consts, constant_is_value, sound_is_laid_out}
use Rattle.aseba_tree.proofs.SoundProofs.{sound_variables}

-- a variable is known with the size of the place that it has
abbrev IsSame : Option Known → Option (ℕ × ℕ) → Type 0
IsSame None None = Unit {0}
IsSame None (Some p) = ⊥
IsSame (Some k) None = ⊥
IsSame (Some k) (Some p) = k.size ≡ Some p.1

place_of_known : (vs : List Sized) (base : ℕ) (name : Name) → IsSame (find (λ v. bytes_eq v.name name) (map known vs)) (address_from base vs name)
place_of_known [] base name = tt
place_of_known (v ∷ vs) base name = pick (bytes_eq v.name name) (place_of_known vs (base + v.size) name)
  where
    pick : (b : Bool) → IsSame (find (λ v. bytes_eq v.name name) (map known vs)) (address_from (base + v.size) vs name)
        → IsSame (cond b (Some (known v)) (find (λ v. bytes_eq v.name name) (map known vs))) (if b then Some (base, v.size) else address_from (base + v.size) vs name)
    pick true h = refl
    pick false h = h

named_length : (k : Option Known) (p : Option (ℕ × ℕ)) (c : Option Const) → IsSame k p → (is_some k || is_some (option_map (λ c. c.value) c)) ≡ true
    → name_size k (option_map (λ c. c.value) c) ≡ Some (length (named_elements p c))
named_length (Some k) (Some p) c h e = h ∙ ap Some (sym (length-map-range_with_len cell p.0 p.1))
named_length (Some k) None c h e = absurd h
named_length None (Some p) c h e = absurd h
named_length None None (Some c) h e = refl
named_length None None None h e = cc

-- Ranges

distance : (m n : ℕ) → m ≤ n → unsigned_abs (pos n -ℤ pos m) ≡ n - m
distance zero n h = omega arith
distance (suc k) n h = below (nat_lt n (suc k)) refl
  where
    below : (b : Bool) → nat_lt n (suc k) ≡ b → unsigned_abs (cond b (negsuc (suc k - suc n)) (pos (n - suc k))) ≡ n - suc k
    below true e = absurd (let less = ltb-true n (suc k) e in omega (arith, less, h))
    below false e = refl

range_is_long : (place : Place) (size : ℕ) (p : ℕ × ℕ) (c d : ℤ) → index_outside place (Some size) (Some c) ≡ [] → index_outside place (Some size) (Some d) ≡ [] → backwards place (Some size) (Some c) (Some d) ≡ []
    → range_size (Some c) (Some d) ≡ Some (length (range_elements (Some p) (as_place c) (as_place d)))
range_is_long place size p (negsuc m) d oc od b = let wrong = no_fault true place (index_out (pos size) (negsuc m)) oc in cc
range_is_long place size p (pos m) (negsuc n) oc od b = let wrong = no_fault true place (index_out (pos size) (negsuc n)) od in cc
range_is_long place size p (pos m) (pos n) oc od b = counted (nat_lt n m) (no_fault (nat_lt n m) place (index_out (pos size) (pos n)) b)
  where
    forward : m ≤ n
    forward = ltb-false n m (no_fault (nat_lt n m) place (index_out (pos size) (pos n)) b)

    long : unsigned_abs (pos n -ℤ pos m) + 1 ≡ length (range_elements (Some p) m n)
    long = let apart = distance m n forward in let all = length-map-range_with_len (λ i. cell (p.0 + i)) m (n + 1 - m) in omega (arith, apart, all, forward)

    counted : (x : Bool) → x ≡ false → (if x then None else Some (unsigned_abs (pos n -ℤ pos m) + 1)) ≡ Some (length (range_elements (Some p) m n))
    counted true e = cc
    counted false e = ap Some long

-- the same where the ends are known to have values
range_length : (place : Place) (k : Option Known) (p : Option (ℕ × ℕ)) (c d : Option ℤ) → IsSame k p → fault_if (not (is_some k)) place unknown ≡ [] → IsSome c → IsSome d
    → index_outside place (option_and_then (λ v. v.size) k) c ≡ [] → index_outside place (option_and_then (λ v. v.size) k) d ≡ [] → backwards place (option_and_then (λ v. v.size) k) c d ≡ []
    → (m n : ℤ) → ((v : ℤ) → c ≡ Some v → m ≡ v) → ((v : ℤ) → d ≡ Some v → n ≡ v) → range_size c d ≡ Some (length (range_elements p (as_place m) (as_place n)))
range_length place None p c d h u hc hd oc od b m n vc vd = cc
range_length place (Some k) None c d h u hc hd oc od b m n vc vd = absurd h
range_length place (Some k) (Some p) None d h u hc hd oc od b m n vc vd = cc
range_length place (Some k) (Some p) (Some c) None h u hc hd oc od b m n vc vd = cc
range_length place (Some k) (Some p) (Some c) (Some d) h u hc hd oc od b m n vc vd =
    range_is_long place p.1 p c d (ap (λ size. index_outside place size (Some c)) (sym h) ∙ oc) (ap (λ size. index_outside place size (Some d)) (sym h) ∙ od) (ap (λ size. backwards place size (Some c) (Some d)) (sym h) ∙ b)
    ∙ ap (λ i. Some (length (range_elements (Some p) (as_place i) (as_place d)))) (sym (vc c refl)) ∙ ap (λ i. Some (length (range_elements (Some p) (as_place m) (as_place i)))) (sym (vd d refl))

-- Operators

paired_length : (op : Binary) (ls rs : List CoreExpr) → length ls ≡ length rs → length (paired_elements op ls rs) ≡ length ls
paired_length op [] rs e = refl
paired_length op (l ∷ ls) [] e = cc
paired_length op (l ∷ ls) (r ∷ rs) e = ap suc (paired_length op ls rs (omega (arith, e)))

-- the number that a size is
counted : (n m : ℕ) → Some n ≡ Some m → n ≡ m
counted n m e = ap (λ o. unwrap_or o 0) e

unary_length : (op : Unary) (size : Option ℕ) (es : List CoreExpr) → size ≡ Some (length es) → (op ≡ Not → size ≡ Some 1) → unary_size op size ≡ Some (length (map (prefix op) es))
unary_length Minus size es e h = e ∙ ap Some (sym (length-map es (prefix Minus)))
unary_length Abs size es e h = e ∙ ap Some (sym (length-map es (prefix Abs)))
unary_length BitNot size es e h = e ∙ ap Some (sym (length-map es (prefix BitNot)))
unary_length Not size es e h = sym (h refl) ∙ e ∙ ap Some (sym (length-map es (prefix Not)))

equal_length : (op : Binary) (place : Place) (n m : ℕ) (ls rs : List CoreExpr) → n ≡ length ls → m ≡ length rs → sizes_differ bad_size place (Some n) (Some m) ≡ [] → common_size (Some n) (Some m) ≡ Some (length (paired_elements op ls rs))
equal_length op place n m ls rs p q e = same (nat_eq n m) refl (not_false (nat_eq n m) (no_fault (not (nat_eq n m)) place (bad_size (pos n) (pos m)) e))
  where
    same : (b : Bool) → nat_eq n m ≡ b → b ≡ true → (if b then Some n else None) ≡ Some (length (paired_elements op ls rs))
    same true e t = ap Some (p ∙ sym (paired_length op ls rs (sym p ∙ eqb-true n m e ∙ q)))
    same false e t = cc

binary_length : (op : Binary) (b : Bool) (place pl pr : Place) (sl sr : Option ℕ) (ls rs : List CoreExpr) → sl ≡ Some (length ls) → sr ≡ Some (length rs) → HasCells sl → HasCells sr
    → (if b then fault_if (is_more_than_one sl) pl not_scalar ++ fault_if (is_more_than_one sr) pr not_scalar else sizes_differ bad_size place sl sr) ≡ []
    → (if b then Some 1 else common_size sl sr) ≡ Some (length (paired_elements op ls rs))
binary_length op b place pl pr None sr ls rs p q h k e = absurd h
binary_length op b place pl pr (Some n) None ls rs p q h k e = absurd k
binary_length op true place pl pr (Some n) (Some m) ls rs p q h k e =
    let left = one_cell (Some n) h (no_fault (is_more_than_one (Some n)) pl not_scalar (nil_left _ _ e)) in
    let right = one_cell (Some m) k (no_fault (is_more_than_one (Some m)) pr not_scalar (nil_right (fault_if (is_more_than_one (Some n)) pl not_scalar) _ e)) in
    sym left ∙ p ∙ ap Some (sym (paired_length op ls rs (counted (length ls) (length rs) (sym p ∙ left ∙ sym right ∙ q))))
binary_length op false place pl pr (Some n) (Some m) ls rs p q h k e = equal_length op place n m ls rs (counted n (length ls) p) (counted m (length rs) q) e

added_length : (l r : Option ℕ) (ls rs : List CoreExpr) → l ≡ Some (length ls) → r ≡ Some (length rs) → added_size l r ≡ Some (length (ls ++ rs))
added_length l r ls rs p q = ap (λ o. added_size o r) p ∙ ap (added_size (Some (length ls))) q ∙ ap Some (sym (length-append ls rs))

-- what is known where all variables are, as they are laid out
abbrev pub laid_scope : Program → Scope
laid_scope program = record { consts = program.project.consts; variables = map known (variables program) }

abbrev IsLong : Option ℕ → List CoreExpr → Type 0
IsLong size es = size ≡ Some (length es)

range_is_long_enough : (program : Program) → EachKnown (laid_scope program).variables → (place : Place) (name : Name) (c d : Expr) → is_filled c ≡ true → is_filled d ≡ true → form_faults (laid_scope program) place (range name c d) ≡ []
    → IsLong (form_size (laid_scope program) (range name c d)) (elements_of_form program (range name c d))
range_is_long_enough program h place name c d fc fd e =
    let scope = laid_scope program in
    let before = unknown_variable scope place name ++ expr_faults scope c in
    let parts = nil_left (before ++ expr_faults scope d) (bad_range scope place name c d) e in
    let bad = nil_right (before ++ expr_faults scope d) (bad_range scope place name c d) e in
    let first = nil_left before (expr_faults scope d) parts in
    let with_d = nil_left _ _ bad in
    let with_c = nil_left _ _ with_d in
    let places = nil_left (constant_place scope c ++ constant_place scope d) _ with_c in
    range_length place (variable_of scope name) (variable_place program name) (constant_value scope c) (constant_value scope d) (place_of_known (variables program) 0 name) (nil_left (unknown_variable scope place name) _ first)
    (place_value (is_constant scope c) (zero_divisions scope c) _ _ (constant_value scope c) (size_of scope c) (record { place = first_of c; rule = not_constant }) refl
    (expr_is_good scope h c fc (nil_right (unknown_variable scope place name) _ first)) refl (nil_left (constant_place scope c) _ places))
    (place_value (is_constant scope d) (zero_divisions scope d) _ _ (constant_value scope d) (size_of scope d) (record { place = first_of d; rule = not_constant }) refl
    (expr_is_good scope h d fd (nil_right before _ parts)) refl (nil_right (constant_place scope c) _ places))
    (nil_right (constant_place scope c ++ constant_place scope d) _ with_c) (nil_right _ (index_outside place (variable_size scope name) (constant_value scope d)) with_d) (nil_right _ (backwards place (variable_size scope name) (constant_value scope c) (constant_value scope d)) bad)
    (constant program.project.consts c) (constant program.project.consts d) (λ v. constant_is_value scope c v) (λ v. constant_is_value scope d v)

-- an expression without a fault has as many elements as cells
mutual
  pub expr_is_long : (program : Program) → EachKnown (laid_scope program).variables → (e : Expr) → is_filled e ≡ true → expr_faults (laid_scope program) e ≡ [] → IsLong (size_of (laid_scope program) e) (elements_of program e)
  expr_is_long program h (expr first place form) f e = form_is_long program h place form f e

  form_is_long : (program : Program) → EachKnown (laid_scope program).variables → (place : Place) (form : Form) → is_filled_form form ≡ true → form_faults (laid_scope program) place form ≡ []
      → IsLong (form_size (laid_scope program) form) (elements_of_form program form)
  form_is_long program h place (number v) f e = refl
  form_is_long program h place (whole name) f e = named_length (variable_of (laid_scope program) name) (variable_place program name) (find (λ c. bytes_eq c.name name) program.project.consts)
      (place_of_known (variables program) 0 name) (not_false (is_known (laid_scope program) name) (no_fault (not (is_known (laid_scope program) name)) place unknown e))
  form_is_long program h place (index name i) f e = refl
  form_is_long program h place (range name c d) f e = range_is_long_enough program h place name c d (both_left (is_filled c) (is_filled d) f) (both_right (is_filled c) (is_filled d) f) e
  form_is_long program h place (items es) f e = list_is_long program h es (both_right (is_some_exprs es) _ f) e
  form_is_long program h place (one op i) f e =
      let scope = laid_scope program in
      let own = nil_left (expr_faults scope i) (bad_operand scope op i) e in
      unary_length op (size_of scope i) (elements_of program i) (expr_is_long program h i f own)
      (λ q. one_cell (size_of scope i) (expr_is_good scope h i f own).has_cells (no_fault (is_more_than_one (size_of scope i)) (first_of i) not_scalar (operand_fault scope op i (nil_right (expr_faults scope i) _ e) q)))
  form_is_long program h place (two op l r) f e =
      let scope = laid_scope program in
      let fl = both_left (is_filled l) (is_filled r) f in
      let fr = both_right (is_filled l) (is_filled r) f in
      let operands = nil_left (expr_faults scope l ++ expr_faults scope r) (bad_operands scope place op l r) e in
      let el = nil_left (expr_faults scope l) (expr_faults scope r) operands in
      let er = nil_right (expr_faults scope l) (expr_faults scope r) operands in
      binary_length op (is_of_one_cell op) place (first_of l) (first_of r) (size_of scope l) (size_of scope r) (elements_of program l) (elements_of program r) (expr_is_long program h l fl el) (expr_is_long program h r fr er)
      (expr_is_good scope h l fl el).has_cells (expr_is_good scope h r fr er).has_cells (nil_right (expr_faults scope l ++ expr_faults scope r) (bad_operands scope place op l r) e)

  list_is_long : (program : Program) → EachKnown (laid_scope program).variables → (es : Exprs) → are_filled es ≡ true → list_faults (laid_scope program) es ≡ [] → IsLong (list_size (laid_scope program) es) (elements_of_list program es)
  list_is_long program h no_exprs f e = refl
  list_is_long program h (exprs i es) f e = added_length (size_of (laid_scope program) i) (list_size (laid_scope program) es) (elements_of program i) (elements_of_list program es)
      (expr_is_long program h i (both_left (is_filled i) _ f) (nil_left (expr_faults (laid_scope program) i) _ e)) (list_is_long program h es (both_right (is_filled i) _ f) (nil_right (expr_faults (laid_scope program) i) _ e))

-- what a sound source knows behind its declarations is what is laid out
scope_is_laid : (program : Program) → (world_of program).scope.variables ≡ map known (variables program) → (world_of program).scope ≡ laid_scope program
scope_is_laid program e = λ i. record { consts = same_consts (first_scope program.project) program.source.vars i; variables = e i }

pub sound_has_elements : (program : Program) → SoundHasElements program
sound_has_elements program tree node sound =
    let laid = sound_is_laid_out program tree node sound in
    let known_cells = (sound_variables program tree node sound).1 in
    subst (λ scope. (e : Expr) → IsTrue (is_filled e) → expr_faults scope e ≡ [] → size_of scope e ≡ Some (length (elements_of program e))) (sym (scope_is_laid program laid))
    (expr_is_long program (subst EachKnown laid known_cells))
