-- What is counted of an expression without a fault is what its elements take.
use Rattle.std.proofs.Common.{◌≡◌, refl, sym, ◌∙◌, ap, subst, ℕ, ◌+◌, ◌-◌, ◌≤◌, Bool, true, false, cond, if◌then◌else◌, ℤ, pos, negsuc, List, [], ◌∷◌, ◌++◌, length, map, Option, Some, None, arith, nat_lt, append_assoc}
use Rattle.std.specs.Prelude.{◌-ℤ◌, unsigned_abs, not, ◌||◌, nat_eq, int_lt, is_some, find, bytes_eq, unwrap_or, option_map, option_and_then, IfSome}
use Rattle.std.specs.List.{range_with_len}
use Rattle.std.proofs.lemmas.Bool.{eqb-true, ltb-true, ltb-false}
use Rattle.std.proofs.lemmas.List.{length-map, append-nil}
use Rattle.std.proofs.lemmas.Int.{ints}
use Rattle.std.proofs.lemmas.List.FromFn.{length-range_with_len}
use Rattle.aseba_words.specs.declared.operators.Binary.{Binary}
use Rattle.aseba_tree.specs.declared.pos.Pos.{Pos}
use Rattle.aseba_tree.specs.Code.{Name, Place, Expr, expr, Form, number, whole, index, range, items, one, two, Exprs, no_exprs, exprs, Const, Sized}
use Rattle.aseba_tree.specs.State.{Program}
use Rattle.aseba_tree.specs.Value.{as_place, from_to, constant}
use Rattle.aseba_tree.specs.CoreExpr.{CoreExpr, cell}
use Rattle.aseba_tree.specs.Layout.{address_from, variables}
use Rattle.aseba_tree.specs.Sizes.{Known, Scope, variable_of, constant_of, constant_value, constant_form, is_of_one_cell, range_size, size_of, variable_size, unary_constant, binary_constant}
use Rattle.aseba_tree.specs.Spells.{first_of}
use Rattle.aseba_tree.specs.Faults.{fault_if, unknown, not_scalar, bad_size, index_out, is_more_than_one, unknown_variable, index_outside, constant_place, bad_index, bad_range, sizes_differ, bad_operand, bad_operands, not_one_cell, expr_faults, form_faults, list_faults}
use Rattle.aseba_tree.specs.Elements.{variable_place, named_elements, indexed_element, range_elements, elements_of, elements_of_form, elements_of_list}
use Rattle.aseba_tree.specs.Shape.{is_filled, is_filled_form, are_filled, is_some_exprs}
use Rattle.aseba_tree.specs.SoundLaws.{HasCells}
use Rattle.aseba_tree.proofs.SizeLaws.{EachKnown, nil_left, nil_right, no_fault, not_false, both_left, both_right, one_cell, expr_is_good}
use Rattle.aseba_tree.proofs.ConstantLaws.{known}
use Rattle.aseba_tree.proofs.ElementLaws.{laid_scope, expr_is_long}
use Rattle.aseba_check.specs.declared.facts.Facts.{Facts}
use Rattle.aseba_check.specs.declared.facts.Meaning.{Meaning}
use Rattle.aseba_check.specs.Told.{pos_of, joined as joined_facts, name_facts, facts_of, form_facts, list_facts, items_facts}
use Rattle.aseba_check.specs.Counted.{cells_counted, name_counted, index_counted, joined, prefix_counted, infix_counted, range_counted, counted_of, form_counted, list_counted}
use Rattle.aseba_check.proofs.ExprTies.{Describes, meaning_of}
use Rattle.aseba_check.proofs.NumbersHeld.{counted, number-is, cells-are, index-is, joined-is, prefix-is, infix-is}

-- Values

plain-value : (v : Option Known) (c : Option ℤ) (first at : Place) → (name_facts (pos_of first) (pos_of at) (meaning_of v c)).value ≡ (if is_some v then None else c)
plain-value (Some v) c first at = refl
plain-value None (Some c) first at = refl
plain-value None None first at = refl

-- the value that is known behind two expressions of a list
list-value : (names : Name → Option Meaning) (first : Pos) (before : Facts) (e : Expr) (es : Exprs) → (items_facts first (list_facts names (Some before) (exprs e es))).value ≡ None
list-value names first before e no_exprs = refl
list-value names first before e (exprs d es) = list-value names first (joined_facts (Some before) (facts_of names e)) d es

mutual
  pub value-is : (names : Name → Option Meaning) (scope : Scope) → Describes names scope → (e : Expr) → (facts_of names e).value ≡ constant_value scope e
  value-is names scope w (expr first place form) = form-value names scope w first place form

  form-value : (names : Name → Option Meaning) (scope : Scope) → Describes names scope → (first place : Place) (form : Form) → (form_facts names (pos_of first) (pos_of place) form).value ≡ constant_form scope form
  form-value names scope w first place (number v) = refl
  form-value names scope w first place (whole name) = rw (w.means name) (plain-value (variable_of scope name) (constant_of scope name) first place)
  form-value names scope w first place (index name e) = refl
  form-value names scope w first place (range name c d) = refl
  form-value names scope w first place (items no_exprs) = refl
  form-value names scope w first place (items (exprs e no_exprs)) = value-is names scope w e
  form-value names scope w first place (items (exprs e (exprs d es))) = list-value names (pos_of first) (facts_of names e) d es
  form-value names scope w first place (one op e) = ap (unary_constant op) (value-is names scope w e)
  form-value names scope w first place (two op l r) = ap (λ a. binary_constant op a (facts_of names r).value) (value-is names scope w l) ∙ ap (binary_constant op (constant_value scope l)) (value-is names scope w r)

-- Names and ranges

-- a variable is known with the size of the place that it has
abbrev pub IsSame : Option Known → Option (ℕ × ℕ) → Type 0
IsSame None None = Unit {0}
IsSame None (Some p) = ⊥
IsSame (Some k) None = ⊥
IsSame (Some k) (Some p) = k.size ≡ Some p.1

place-of-known : (vs : List Sized) (base : ℕ) (name : Name) → IsSame (find (λ v. bytes_eq v.name name) (map known vs)) (address_from base vs name)
place-of-known [] base name = tt
place-of-known (v ∷ vs) base name = pick (bytes_eq v.name name) (place-of-known vs (base + v.size) name)
  where
    pick : (b : Bool) → IsSame (find (λ v. bytes_eq v.name name) (map known vs)) (address_from (base + v.size) vs name)
        → IsSame (cond b (Some (known v)) (find (λ v. bytes_eq v.name name) (map known vs))) (if b then Some (base, v.size) else address_from (base + v.size) vs name)
    pick true h = refl
    pick false h = h

pub same-place : (program : Program) (name : Name) → IsSame (variable_of (laid_scope program) name) (variable_place program name)
same-place program name = place-of-known (variables program) 0 name

has-some : (size : Option ℕ) (es : List CoreExpr) → size ≡ Some (length es) → HasCells size → 1 ≤ length es
has-some None es e h = absurd h
has-some (Some n) es e h = let same : n ≡ length es = ap (λ o. unwrap_or o 0) e in omega (arith, h, same)

named-is : (k : Option Known) (p : Option (ℕ × ℕ)) (c : Option Const) → IsSame k p → IfSome (option_and_then (λ v. v.size) k) (λ n. n ≤ 65536) → 1 ≤ length (named_elements p c) → name_counted (meaning_of k (option_map (λ c. c.value) c)) ≡ counted (named_elements p c)
named-is (Some k) (Some p) c h small many =
    let fits : p.1 ≤ 65536 = subst (λ (o : Option ℕ). IfSome o (λ n. n ≤ 65536)) h small in
    let long = length-range_with_len p.0 p.1 in
    let long-map = length-map (range_with_len p.0 p.1) cell in
    ap (λ size. cells_counted (unwrap_or size 0)) h ∙ cells-are (λ n. n) (range_with_len p.0 p.1) p.1 long (omega (arith, many, long, long-map)) fits
named-is (Some k) None c h small many = absurd h
named-is None (Some p) c h small many = absurd h
named-is None None (Some c) h small many = number-is c.value
named-is None None None h small many = absurd (omega arith)

or-right : (a b : Bool) → (a || b) ≡ false → b ≡ false
or-right true b e = cc
or-right false b e = e

-- a range inside a variable is no longer than it
inside-small : (place : Place) (size L : ℕ) (c d : ℤ) → size ≤ 65536 → index_outside place (Some size) (Some c) ≡ [] → index_outside place (Some size) (Some d) ≡ [] → range_size (Some c) (Some d) ≡ Some L → L ≤ 65536
inside-small place size L (negsuc m) d small oc od e = let wrong = no_fault true place (index_out (pos size) (negsuc m)) oc in cc
inside-small place size L (pos m) (negsuc n) small oc od e = let wrong = no_fault true place (index_out (pos size) (negsuc n)) od in cc
inside-small place size L (pos m) (pos n) small oc od e = chosen (nat_lt n m) refl e
  where
    below : nat_lt n size ≡ true
    below = not_false (nat_lt n size) (or-right (int_lt (pos n) (pos 0)) (not (nat_lt n size)) (no_fault (int_lt (pos n) (pos 0) || not (nat_lt n size)) place (index_out (pos size) (pos n)) od))

    distance : m ≤ n → unsigned_abs (pos n -ℤ pos m) ≤ n
    distance h = omega (arith, ints)

    chosen : (b : Bool) → nat_lt n m ≡ b → (if b then None else Some (unsigned_abs (pos n -ℤ pos m) + 1)) ≡ Some L → L ≤ 65536
    chosen true q r = cc
    chosen false q r =
        let ahead = ltb-false n m q in let less = ltb-true n size below in let near = distance ahead in let same : unsigned_abs (pos n -ℤ pos m) + 1 ≡ L = ap (λ o. unwrap_or o 0) r in omega (arith, small, less, near, same)

range-small : (place : Place) (k : Option Known) (p : Option (ℕ × ℕ)) (c d : Option ℤ) (L : ℕ) → IsSame k p → fault_if (not (is_some k)) place unknown ≡ [] → IfSome (option_and_then (λ v. v.size) k) (λ n. n ≤ 65536)
    → index_outside place (option_and_then (λ v. v.size) k) c ≡ [] → index_outside place (option_and_then (λ v. v.size) k) d ≡ [] → range_size c d ≡ Some L → L ≤ 65536
range-small place None p c d L h u small oc od e = cc
range-small place (Some k) None c d L h u small oc od e = absurd h
range-small place (Some k) (Some p) None d L h u small oc od e = cc
range-small place (Some k) (Some p) (Some c) None L h u small oc od e = cc
range-small place (Some k) (Some p) (Some c) (Some d) L h u small oc od e =
    let fits : p.1 ≤ 65536 = subst (λ (o : Option ℕ). IfSome o (λ n. n ≤ 65536)) h small in
    inside-small place p.1 L c d fits (ap (λ size. index_outside place size (Some c)) (sym h) ∙ oc) (ap (λ size. index_outside place size (Some d)) (sym h) ∙ od) e

ranged-is : (p : Option (ℕ × ℕ)) (m n : ℕ) (size : Option ℕ) → size ≡ Some (length (range_elements p m n)) → 1 ≤ length (range_elements p m n) → length (range_elements p m n) ≤ 65536
    → cells_counted (unwrap_or size 0) ≡ counted (range_elements p m n)
ranged-is None m n size e many small = absurd (omega arith)
ranged-is (Some v) m n size e many small =
    let long = length-map (from_to m n) (λ i. cell (v.0 + i)) in
    ap (λ s. cells_counted (unwrap_or s 0)) e ∙ cells-are (λ i. v.0 + i) (from_to m n) (length (range_elements (Some v) m n)) (sym long) many small

indexed-is : (place : Place) (k : Option Known) (p : Option (ℕ × ℕ)) (es : List CoreExpr) → IsSame k p → fault_if (not (is_some k)) place unknown ≡ [] → length es ≡ 1 → index_counted (counted es) ≡ counted (indexed_element p es ∷ [])
indexed-is place None p es h u single = cc
indexed-is place (Some k) None es h u single = absurd h
indexed-is place (Some k) (Some p) [] h u single = absurd (omega arith)
indexed-is place (Some k) (Some p) (i ∷ []) h u single = index-is p.0 p.1 i
indexed-is place (Some k) (Some p) (i ∷ j ∷ es) h u single = absurd (omega arith)

-- Operands

counted-size : (n m : ℕ) → Some n ≡ Some m → n ≡ m
counted-size n m e = ap (λ o. unwrap_or o 0) e

pub one-long : (size : Option ℕ) (place : Place) (es : List CoreExpr) → size ≡ Some (length es) → HasCells size → fault_if (is_more_than_one size) place not_scalar ≡ [] → length es ≡ 1
one-long size place es e h none = counted-size (length es) 1 (sym e ∙ one_cell size h (no_fault (is_more_than_one size) place not_scalar none))

pub same-size : (place : Place) (l r : Option ℕ) (m n : ℕ) → l ≡ Some m → r ≡ Some n → sizes_differ bad_size place l r ≡ [] → m ≡ n
same-size place None r m n p q e = cc
same-size place (Some l) None m n p q e = cc
same-size place (Some l) (Some r) m n p q e =
    let same = eqb-true l r (not_false (nat_eq l r) (no_fault (not (nat_eq l r)) place (bad_size (pos l) (pos r)) e)) in
    let left = counted-size l m p in
    let right = counted-size r n q in
    sym left ∙ same ∙ right

both-long : (b : Bool) (place pl pr : Place) (sl sr : Option ℕ) (ls rs : List CoreExpr) → sl ≡ Some (length ls) → sr ≡ Some (length rs) → HasCells sl → HasCells sr
    → (if b then fault_if (is_more_than_one sl) pl not_scalar ++ fault_if (is_more_than_one sr) pr not_scalar else sizes_differ bad_size place sl sr) ≡ [] → length ls ≡ length rs
both-long true place pl pr sl sr ls rs p q h k e = one-long sl pl ls p h (nil_left _ _ e) ∙ sym (one-long sr pr rs q k (nil_right (fault_if (is_more_than_one sl) pl not_scalar) _ e))
both-long false place pl pr sl sr ls rs p q h k e = same-size place sl sr (length ls) (length rs) p q e

pub form-many : (program : Program) → EachKnown (laid_scope program).variables → (place : Place) (form : Form) → is_filled_form form ≡ true → form_faults (laid_scope program) place form ≡ [] → 1 ≤ length (elements_of_form program form)
form-many program h place form f e =
    has-some (size_of (laid_scope program) (expr place place form)) (elements_of_form program form) (expr_is_long program h (expr place place form) f e) (expr_is_good (laid_scope program) h (expr place place form) f e).has_cells

pub expr-many : (program : Program) → EachKnown (laid_scope program).variables → (e : Expr) → is_filled e ≡ true → expr_faults (laid_scope program) e ≡ [] → 1 ≤ length (elements_of program e)
expr-many program h (expr first place form) f e = form-many program h place form f e

pub expr-one : (program : Program) → EachKnown (laid_scope program).variables → (e : Expr) → is_filled e ≡ true → expr_faults (laid_scope program) e ≡ [] → not_one_cell (laid_scope program) e ≡ [] → length (elements_of program e) ≡ 1
expr-one program h e f none many =
    one-long (size_of (laid_scope program) e) (first_of e) (elements_of program e) (expr_is_long program h e f none) (expr_is_good (laid_scope program) h e f none).has_cells many

pub range-length : (program : Program) (names : Name → Option Meaning) → Describes names (laid_scope program) → EachKnown (laid_scope program).variables → (place : Place) (name : Name) (c d : Expr) → is_filled_form (range name c d) ≡ true
    → form_faults (laid_scope program) place (range name c d) ≡ [] → length (elements_of_form program (range name c d)) ≤ 65536
range-length program names w h place name c d f e =
    let scope = laid_scope program in
    let parts = nil_left (unknown_variable scope place name ++ expr_faults scope c ++ expr_faults scope d) (bad_range scope place name c d) e in
    let bad = nil_right (unknown_variable scope place name ++ expr_faults scope c ++ expr_faults scope d) (bad_range scope place name c d) e in
    let known = nil_left (unknown_variable scope place name) _ (nil_left (unknown_variable scope place name ++ expr_faults scope c) _ parts) in
    let with_d = nil_left _ _ bad in
    let with_c = nil_left _ _ with_d in
    range-small place (variable_of scope name) (variable_place program name) (constant_value scope c) (constant_value scope d) (length (elements_of_form program (range name c d))) (same-place program name) known (w.bounded.sizes name)
    (nil_right (constant_place scope c ++ constant_place scope d) _ with_c) (nil_right _ (index_outside place (variable_size scope name) (constant_value scope d)) with_d) (expr_is_long program h (expr place place (range name c d)) f e)

-- both operands have as many elements
pub operands-same : (program : Program) → EachKnown (laid_scope program).variables → (place : Place) (op : Binary) (l r : Expr) → is_filled_form (two op l r) ≡ true → form_faults (laid_scope program) place (two op l r) ≡ []
    → length (elements_of program l) ≡ length (elements_of program r)
operands-same program h place op l r f e =
    let scope = laid_scope program in
    let fl = both_left (is_filled l) (is_filled r) f in
    let fr = both_right (is_filled l) (is_filled r) f in
    let operands = nil_left (expr_faults scope l ++ expr_faults scope r) (bad_operands scope place op l r) e in
    let el = nil_left (expr_faults scope l) (expr_faults scope r) operands in
    let er = nil_right (expr_faults scope l) (expr_faults scope r) operands in
    both-long (is_of_one_cell op) place (first_of l) (first_of r) (size_of scope l) (size_of scope r) (elements_of program l) (elements_of program r) (expr_is_long program h l fl el) (expr_is_long program h r fr er)
    (expr_is_good scope h l fl el).has_cells (expr_is_good scope h r fr er).has_cells (nil_right (expr_faults scope l ++ expr_faults scope r) (bad_operands scope place op l r) e)

-- All forms

pub range-counted : (program : Program) (names : Name → Option Meaning) → Describes names (laid_scope program) → EachKnown (laid_scope program).variables → (place : Place) (name : Name) (c d : Expr) → is_filled_form (range name c d) ≡ true
    → form_faults (laid_scope program) place (range name c d) ≡ [] → range_counted names c d ≡ counted (elements_of_form program (range name c d))
range-counted program names w h place name c d f e =
    let scope = laid_scope program in
    let consts = program.project.consts in
    let long = expr_is_long program h (expr place place (range name c d)) f e in
    let small = range-length program names w h place name c d f e in
    ap (λ a. cells_counted (unwrap_or (range_size a (facts_of names d).value) 0)) (value-is names scope w c) ∙ ap (λ b. cells_counted (unwrap_or (range_size (constant_value scope c) b) 0)) (value-is names scope w d)
    ∙ ranged-is (variable_place program name) (as_place (constant consts c)) (as_place (constant consts d)) (range_size (constant_value scope c) (constant_value scope d)) long (form-many program h place (range name c d) f e) small

mutual
  pub counted-is : (program : Program) (names : Name → Option Meaning) → Describes names (laid_scope program) → EachKnown (laid_scope program).variables → (e : Expr) → is_filled e ≡ true → expr_faults (laid_scope program) e ≡ []
      → counted_of names e ≡ counted (elements_of program e)
  counted-is program names w h (expr first place form) f e = form-is program names w h place form f e

  form-is : (program : Program) (names : Name → Option Meaning) → Describes names (laid_scope program) → EachKnown (laid_scope program).variables → (place : Place) (form : Form) → is_filled_form form ≡ true
      → form_faults (laid_scope program) place form ≡ [] → form_counted names form ≡ counted (elements_of_form program form)
  form-is program names w h place (number v) f e = number-is v
  form-is program names w h place (whole name) f e =
      ap name_counted (w.means name) ∙ named-is (variable_of (laid_scope program) name) (variable_place program name) (find (λ c. bytes_eq c.name name) program.project.consts) (same-place program name) (w.bounded.sizes name)
      (form-many program h place (whole name) f e)
  form-is program names w h place (index name i) f e =
      let scope = laid_scope program in
      let front = nil_left (unknown_variable scope place name ++ expr_faults scope i) (bad_index scope place name i) e in
      let own = nil_right (unknown_variable scope place name) (expr_faults scope i) front in
      let known = nil_left (unknown_variable scope place name) (expr_faults scope i) front in
      let bad = nil_right (unknown_variable scope place name ++ expr_faults scope i) (bad_index scope place name i) e in
      let single = expr-one program h i f own (nil_right _ (not_one_cell scope i) (nil_left _ (index_outside place (variable_size scope name) (constant_value scope i)) bad)) in
      ap index_counted (counted-is program names w h i f own) ∙ indexed-is place (variable_of scope name) (variable_place program name) (elements_of program i) (same-place program name) known single
  form-is program names w h place (range name c d) f e = range-counted program names w h place name c d f e
  form-is program names w h place (items es) f e = list-is program names w h [] es (both_right (is_some_exprs es) _ f) e
  form-is program names w h place (one op i) f e =
      let own = nil_left (expr_faults (laid_scope program) i) (bad_operand (laid_scope program) op i) e in
      ap prefix_counted (counted-is program names w h i f own) ∙ prefix-is op (elements_of program i)
  form-is program names w h place (two op l r) f e =
      let scope = laid_scope program in
      let fl = both_left (is_filled l) (is_filled r) f in
      let fr = both_right (is_filled l) (is_filled r) f in
      let operands = nil_left (expr_faults scope l ++ expr_faults scope r) (bad_operands scope place op l r) e in
      let el = nil_left (expr_faults scope l) (expr_faults scope r) operands in
      let er = nil_right (expr_faults scope l) (expr_faults scope r) operands in
      let same = operands-same program h place op l r f e in
      ap (λ a. infix_counted op a (counted_of names r)) (counted-is program names w h l fl el) ∙ ap (infix_counted op (counted (elements_of program l))) (counted-is program names w h r fr er)
      ∙ infix-is op (elements_of program l) (elements_of program r) same (expr-many program h l fl el)

  list-is : (program : Program) (names : Name → Option Meaning) → Describes names (laid_scope program) → EachKnown (laid_scope program).variables → (before : List CoreExpr) (es : Exprs) → are_filled es ≡ true → list_faults (laid_scope program) es ≡ []
      → list_counted names (counted before) es ≡ counted (before ++ elements_of_list program es)
  list-is program names w h before no_exprs f e = ap counted (sym (append-nil before))
  list-is program names w h before (exprs i es) f e =
      let scope = laid_scope program in
      let own = counted-is program names w h i (both_left (is_filled i) _ f) (nil_left (expr_faults scope i) _ e) in
      ap (λ a. list_counted names (joined (counted before) a) es) own ∙ ap (λ a. list_counted names a es) (joined-is before (elements_of program i))
      ∙ list-is program names w h (before ++ elements_of program i) es (both_right (is_filled i) _ f) (nil_right (expr_faults scope i) _ e) ∙ ap counted (append_assoc before (elements_of program i) (elements_of_list program es))
