-- Each expression without a fault has at least one cell, and a constant one of one cell has a value.
use Rattle.std.proofs.Common.{◌≡◌, refl, sym, ◌∙◌, ap, ℕ, ◌+◌, Bool, true, false, not, ◌&&◌, ◌||◌, if◌then◌else◌, ℤ, pos, List, [], ◌∷◌, ◌++◌, arith, Option, Some, None, is_some}
use Rattle.std.specs.Prelude.{cond, nat_eq, int_lt, int_div, int_rem, unwrap_or, ◌-ℤ◌, unsigned_abs, find, option_and_then, bytes_eq, IsSome, IfSome}
use Rattle.std.specs.Ordering.{int_eq}
use Rattle.std.proofs.lemmas.Bool.{ltb-false, eqb-true}
use Rattle.aseba_words.specs.declared.operators.Unary.{Unary}
use Rattle.aseba_words.specs.declared.operators.Unary.TheVariants.{Minus, Abs, BitNot, Not}
use Rattle.aseba_words.specs.declared.operators.Binary.{Binary}
use Rattle.aseba_words.specs.declared.operators.Binary.TheVariants.{Shl, Shr, Add, Sub, Mul, Div, Rem, BitOr, BitXor, BitAnd, Equal, Differ, Above, AtLeast, Below, AtMost, Or, And}
use Rattle.aseba_words.specs.Cell.{binary_value, divided, wrapped}
use Rattle.aseba_tree.specs.Code.{Name, Place, Expr, expr, Form, number, whole, index, range, items, one, two, Exprs, no_exprs, exprs}
use Rattle.aseba_tree.specs.Sizes.{Known, Scope, variable_of, constant_of, is_constant, is_constant_form, are_constant, unary_constant, binary_constant, alone, constant_value, constant_form, constant_list, is_of_one_cell, common_size, added_size, range_size, name_size, unary_size, size_of, form_size, list_size, variable_size}
use Rattle.aseba_tree.specs.Spells.{first_of}
use Rattle.aseba_tree.specs.Faults.{Fault, Rule, fault_if, unknown, not_constant, constant_division, not_scalar, bad_size, is_more_than_one, not_one_cell, unknown_variable, is_known, index_outside, backwards, constant_place, bad_range, divides, is_number, zero_divisions, form_divisions, list_divisions, sizes_differ, expr_faults, form_faults, list_faults, bad_operand}
use Rattle.aseba_tree.specs.SoundLaws.{HasCells}
use Rattle.aseba_tree.specs.Shape.{is_filled, is_filled_form, are_filled, is_some_exprs}

-- each variable has a size of at least 1
abbrev pub EachKnown : List Known → Type 0
EachKnown [] = Unit {0}
EachKnown (v ∷ vs) = HasCells v.size × EachKnown vs

-- Lists of faults

pub nil_left : {A : Type 0} (xs ys : List A) → xs ++ ys ≡ [] → xs ≡ []
nil_left [] ys e = refl
nil_left (x ∷ xs) ys e = cc

pub nil_right : {A : Type 0} (xs ys : List A) → xs ++ ys ≡ [] → ys ≡ []
nil_right [] ys e = e
nil_right (x ∷ xs) ys e = cc

pub no_fault : (b : Bool) (place : Place) (rule : Rule) → fault_if b place rule ≡ [] → b ≡ false
no_fault true place rule e = cc
no_fault false place rule e = refl

pub not_false : (b : Bool) → not b ≡ false → b ≡ true
not_false true e = refl
not_false false e = cc

pub both_left : (a b : Bool) → (a && b) ≡ true → a ≡ true
both_left true b e = refl
both_left false b e = e

pub both_right : (a b : Bool) → (a && b) ≡ true → b ≡ true
both_right true b e = e
both_right false b e = cc

-- Sizes

pub one_cell : (size : Option ℕ) → HasCells size → is_more_than_one size ≡ false → size ≡ Some 1
one_cell None h e = absurd h
one_cell (Some n) h e = ap Some (let below = ltb-false 1 n e in omega (arith, h, below))

name_has_cells : (v : Option Known) (c : Option ℤ) → IfSome v (λ k. HasCells k.size) → (is_some v || is_some c) ≡ true → HasCells (name_size v c)
name_has_cells (Some v) c h e = h
name_has_cells None (Some c) h e = omega arith
name_has_cells None None h e = cc

pick_has_cells : (b : Bool) (v : Known) (o : Option Known) → HasCells v.size → IfSome o (λ k. HasCells k.size) → IfSome (cond b (Some v) o) (λ k. HasCells k.size)
pick_has_cells true v o h k = h
pick_has_cells false v o h k = k

found_has_cells : (name : Name) (vs : List Known) → EachKnown vs → IfSome (find (λ v. bytes_eq v.name name) vs) (λ k. HasCells k.size)
found_has_cells name [] h = tt
found_has_cells name (v ∷ vs) h = pick_has_cells (bytes_eq v.name name) v (find (λ v. bytes_eq v.name name) vs) h.0 (found_has_cells name vs h.1)

-- the size of a variable that is known
known_has_cells : (place : Place) (v : Option Known) → IfSome v (λ k. HasCells k.size) → fault_if (not (is_some v)) place unknown ≡ [] → HasCells (option_and_then (λ k. k.size) v)
known_has_cells place (Some v) h e = h
known_has_cells place None h e = cc

range_has_cells : (place : Place) (size : Option ℕ) (c d : Option ℤ) → HasCells size → IsSome c → IsSome d → backwards place size c d ≡ [] → HasCells (range_size c d)
range_has_cells place None c d h hc hd e = absurd h
range_has_cells place (Some n) None d h hc hd e = cc
range_has_cells place (Some n) (Some c) None h hc hd e = cc
range_has_cells place (Some n) (Some c) (Some d) h hc hd e = ahead (int_lt d c) (no_fault (int_lt d c) place _ e)
  where
    ahead : (b : Bool) → b ≡ false → HasCells (if b then None else Some (unsigned_abs (d -ℤ c) + 1))
    ahead true e = cc
    ahead false e = omega arith

added_has_cells : (l r : Option ℕ) → HasCells l → IsSome r → HasCells (added_size l r)
added_has_cells None r h k = absurd h
added_has_cells (Some l) None h k = cc
added_has_cells (Some l) (Some r) h k = omega (arith, h)

added_is_some : (l r : Option ℕ) → HasCells l → IsSome r → IsSome (added_size l r)
added_is_some None r h k = absurd h
added_is_some (Some l) None h k = cc
added_is_some (Some l) (Some r) h k = refl

equal_has_cells : (place : Place) (l r : Option ℕ) → HasCells l → HasCells r → sizes_differ bad_size place l r ≡ [] → HasCells (common_size l r)
equal_has_cells place None r h k e = absurd h
equal_has_cells place (Some l) None h k e = absurd k
equal_has_cells place (Some l) (Some r) h k e = same (nat_eq l r) (not_false (nat_eq l r) (no_fault (not (nat_eq l r)) place _ e))
  where
    same : (b : Bool) → b ≡ true → HasCells (if b then Some l else None)
    same true e = h
    same false e = cc

-- Constants

-- what is needed of an expression: it has cells, and a value where it is constant, divides nowhere by zero and has one cell
pub record Good (size : Option ℕ) (constant : Bool) (divisions : List Fault) (value : Option ℤ) : Type 0 where
  pub has_cells : HasCells size
  pub has_value : constant ≡ true → divisions ≡ [] → size ≡ Some 1 → IsSome value

-- a constant place without faults has a value
pub place_value : (constant : Bool) (divisions missing many : List Fault) (value : Option ℤ) (size : Option ℕ) (f : Fault) → missing ≡ f ∷ [] → Good size constant divisions value
    → many ≡ fault_if (is_more_than_one size) f.place not_scalar → (if constant then divisions else missing) ++ many ≡ [] → IsSome value
place_value false divisions missing many value size f m g h e = let wrong = nil_left missing many e in cc
place_value true divisions missing many value size f m g h e =
    g.has_value refl (nil_left divisions many e) (one_cell size g.has_cells (no_fault (is_more_than_one size) f.place not_scalar (sym h ∙ nil_right divisions many e)))

unary_value_is_some : (op : Unary) (value : Option ℤ) → IsSome value → IsSome (unary_constant op value)
unary_value_is_some op None h = h
unary_value_is_some op (Some a) h = refl

-- a quotient has a value where the divisor is not 0
some_else : (zero : Bool) (x : ℤ) → zero ≡ false → IsSome (if zero then None else Some x)
some_else true x e = cc
some_else false x e = refl

quotient : (b v : ℤ) → int_eq b (pos 0) ≡ false → IsSome (divided b v)
quotient b v e = some_else (int_eq b (pos 0)) (wrapped v) e

binary_value_is_some : (op : Binary) (a b : ℤ) → (divides op && int_eq b (pos 0)) ≡ false → IsSome (binary_value op a b)
binary_value_is_some Shl a b e = refl
binary_value_is_some Shr a b e = refl
binary_value_is_some Add a b e = refl
binary_value_is_some Sub a b e = refl
binary_value_is_some Mul a b e = refl
binary_value_is_some Div a b e = quotient b (int_div a b) e
binary_value_is_some Rem a b e = quotient b (int_rem a b) e
binary_value_is_some BitOr a b e = refl
binary_value_is_some BitXor a b e = refl
binary_value_is_some BitAnd a b e = refl
binary_value_is_some Equal a b e = refl
binary_value_is_some Differ a b e = refl
binary_value_is_some Above a b e = refl
binary_value_is_some AtLeast a b e = refl
binary_value_is_some Below a b e = refl
binary_value_is_some AtMost a b e = refl
binary_value_is_some Or a b e = refl
binary_value_is_some And a b e = refl

operation_has_value : (op : Binary) (l r : Option ℤ) → IsSome l → IsSome r → (divides op && is_number r (pos 0)) ≡ false → IsSome (binary_constant op l r)
operation_has_value op None r hl hr e = hl
operation_has_value op (Some a) None hl hr e = hr
operation_has_value op (Some a) (Some b) hl hr e = binary_value_is_some op a b e

common_one : (l r : Option ℕ) → common_size l r ≡ Some 1 → (l ≡ Some 1) × (r ≡ Some 1)
common_one None r e = cc
common_one (Some l) None e = cc
common_one (Some l) (Some r) e = same (nat_eq l r) refl e
  where
    same : (b : Bool) → nat_eq l r ≡ b → (if b then Some l else None) ≡ Some 1 → (Some l ≡ Some 1) × (Some r ≡ Some 1)
    same true q e = (e, ap Some (sym (eqb-true l r q)) ∙ e)
    same false q e = cc

-- an operation of two good operands
operation_is_good : (op : Binary) (place pl pr : Place) (b cl cr : Bool) (sl sr : Option ℕ) (dl dr : List Fault) (vl vr : Option ℤ) → Good sl cl dl vl → Good sr cr dr vr
    → (if b then fault_if (is_more_than_one sl) pl not_scalar ++ fault_if (is_more_than_one sr) pr not_scalar else sizes_differ bad_size place sl sr) ≡ []
    → Good (if b then Some 1 else common_size sl sr) (cl && cr) (dl ++ dr ++ fault_if (divides op && is_number vr (pos 0)) place constant_division) (binary_constant op vl vr)
operation_is_good op place pl pr true cl cr sl sr dl dr vl vr gl gr e = record {
  has_cells = omega arith;
  has_value = λ c d s. operation_has_value op vl vr
      (gl.has_value (both_left cl cr c) (nil_left dl dr (nil_left (dl ++ dr) _ d)) (one_cell sl gl.has_cells (no_fault (is_more_than_one sl) pl not_scalar (nil_left _ _ e))))
      (gr.has_value (both_right cl cr c) (nil_right dl dr (nil_left (dl ++ dr) _ d)) (one_cell sr gr.has_cells (no_fault (is_more_than_one sr) pr not_scalar (nil_right (fault_if (is_more_than_one sl) pl not_scalar) _ e))))
      (no_fault (divides op && is_number vr (pos 0)) place constant_division (nil_right (dl ++ dr) _ d));
}
operation_is_good op place pl pr false cl cr sl sr dl dr vl vr gl gr e = record {
  has_cells = equal_has_cells place sl sr gl.has_cells gr.has_cells e;
  has_value = λ c d s. operation_has_value op vl vr
      (gl.has_value (both_left cl cr c) (nil_left dl dr (nil_left (dl ++ dr) _ d)) (common_one sl sr s).0)
      (gr.has_value (both_right cl cr c) (nil_right dl dr (nil_left (dl ++ dr) _ d)) (common_one sl sr s).1)
      (no_fault (divides op && is_number vr (pos 0)) place constant_division (nil_right (dl ++ dr) _ d));
}

-- a list of one cell is one expression of one cell
added_one : (size rest : Option ℕ) → HasCells size → HasCells rest → added_size size rest ≡ Some 1 → ⊥
added_one None rest h k e = h
added_one (Some l) None h k e = k
added_one (Some l) (Some r) h k e = let total : l + r ≡ 1 = ap (λ o. unwrap_or o 0) e in omega (arith, h, k, total)

added_zero : (size : Option ℕ) → added_size size (Some 0) ≡ Some 1 → size ≡ Some 1
added_zero None e = cc
added_zero (Some n) e = let total : n + 0 ≡ 1 = ap (λ o. unwrap_or o 0) e in ap Some (omega (arith, total))

the_only_value : (es : Exprs) (size rest : Option ℕ) (value : Option ℤ) → HasCells size → (is_some_exprs es ≡ true → HasCells rest) → (is_some_exprs es ≡ false → rest ≡ Some 0) → added_size size rest ≡ Some 1
    → (size ≡ Some 1 → IsSome value) → IsSome (alone value es)
the_only_value no_exprs size rest value h some none e v = v (added_zero size (ap (added_size size) (sym (none refl)) ∙ e))
the_only_value (exprs e' es) size rest value h some none e v = absurd (added_one size rest h (some refl) e)

operand_is_good : (op : Unary) (place : Place) (constant : Bool) (size : Option ℕ) (divisions : List Fault) (value : Option ℤ) → Good size constant divisions value → (op ≡ Not → fault_if (is_more_than_one size) place not_scalar ≡ [])
    → Good (unary_size op size) constant divisions (unary_constant op value)
operand_is_good Minus place constant size divisions value g e = record { has_cells = g.has_cells; has_value = λ c d s. unary_value_is_some Minus value (g.has_value c d s) }
operand_is_good Abs place constant size divisions value g e = record { has_cells = g.has_cells; has_value = λ c d s. unary_value_is_some Abs value (g.has_value c d s) }
operand_is_good BitNot place constant size divisions value g e = record { has_cells = g.has_cells; has_value = λ c d s. unary_value_is_some BitNot value (g.has_value c d s) }
operand_is_good Not place constant size divisions value g e =
    record { has_cells = omega arith; has_value = λ c d s. unary_value_is_some Not value (g.has_value c d (one_cell size g.has_cells (no_fault (is_more_than_one size) place not_scalar (e refl)))) }

pub operand_fault : (scope : Scope) (op : Unary) (e : Expr) → bad_operand scope op e ≡ [] → op ≡ Not → not_one_cell scope e ≡ []
operand_fault scope Minus e h q = cc
operand_fault scope Abs e h q = cc
operand_fault scope BitNot e h q = cc
operand_fault scope Not e h q = h

-- what is needed of a list
record GoodList (size : Option ℕ) (some : Bool) : Type 0 where
  has_size : IsSome size
  has_cells : some ≡ true → HasCells size
  is_empty : some ≡ false → size ≡ Some 0

range_is_good : (scope : Scope) → EachKnown scope.variables → (place : Place) (name : Name) (c d : Expr) → form_faults scope place (range name c d) ≡ []
    → Good (size_of scope c) (is_constant scope c) (zero_divisions scope c) (constant_value scope c) → Good (size_of scope d) (is_constant scope d) (zero_divisions scope d) (constant_value scope d)
    → Good (form_size scope (range name c d)) false [] None
range_is_good scope h place name c d e gc gd =
    let bad = nil_right (unknown_variable scope place name ++ expr_faults scope c ++ expr_faults scope d) (bad_range scope place name c d) e in
    let known = nil_left (unknown_variable scope place name) _ (nil_left (unknown_variable scope place name ++ expr_faults scope c) _ (nil_left _ (bad_range scope place name c d) e)) in
    let places = nil_left (constant_place scope c ++ constant_place scope d) _ (nil_left _ _ (nil_left _ _ bad)) in
    record {
      has_cells = range_has_cells place (variable_size scope name) (constant_value scope c) (constant_value scope d)
          (known_has_cells place (variable_of scope name) (found_has_cells name scope.variables h) known)
          (place_value (is_constant scope c) (zero_divisions scope c) _ _ (constant_value scope c) (size_of scope c) (record { place = first_of c; rule = not_constant }) refl gc refl (nil_left (constant_place scope c) _ places))
          (place_value (is_constant scope d) (zero_divisions scope d) _ _ (constant_value scope d) (size_of scope d) (record { place = first_of d; rule = not_constant }) refl gd refl (nil_right (constant_place scope c) _ places))
          (nil_right (constant_place scope c ++ constant_place scope d ++ index_outside place (variable_size scope name) (constant_value scope c) ++ index_outside place (variable_size scope name) (constant_value scope d)) _ bad);
      has_value = λ c d s. cc;
    }

longer_is_good : (size rest : Option ℕ) → HasCells size → IsSome rest → GoodList (added_size size rest) true
longer_is_good size rest h k = record { has_size = added_is_some size rest h k; has_cells = λ some. added_has_cells size rest h k; is_empty = λ none. cc }

list_is_good : (scope : Scope) (i : Expr) (es : Exprs) → Good (size_of scope i) (is_constant scope i) (zero_divisions scope i) (constant_value scope i) → GoodList (list_size scope es) (is_some_exprs es)
    → Good (list_size scope (exprs i es)) (are_constant scope (exprs i es)) (list_divisions scope (exprs i es)) (constant_list scope (exprs i es))
list_is_good scope i es g k = record {
  has_cells = added_has_cells (size_of scope i) (list_size scope es) g.has_cells k.has_size;
  has_value = λ c d s. the_only_value es (size_of scope i) (list_size scope es) (constant_value scope i) g.has_cells k.has_cells k.is_empty s
      (λ one. g.has_value (both_left (is_constant scope i) (are_constant scope es) c) (nil_left (zero_divisions scope i) _ d) one);
}

-- an expression without a fault is good, where each variable has cells
mutual
  pub expr_is_good : (scope : Scope) → EachKnown scope.variables → (e : Expr) → is_filled e ≡ true → expr_faults scope e ≡ []
      → Good (size_of scope e) (is_constant scope e) (zero_divisions scope e) (constant_value scope e)
  expr_is_good scope h (expr first place form) f e = form_is_good scope h place form f e

  form_is_good : (scope : Scope) → EachKnown scope.variables → (place : Place) (form : Form) → is_filled_form form ≡ true → form_faults scope place form ≡ []
      → Good (form_size scope form) (is_constant_form scope form) (form_divisions scope place form) (constant_form scope form)
  form_is_good scope h place (number v) f e = record { has_cells = omega arith; has_value = λ c d s. refl }
  form_is_good scope h place (whole name) f e = record {
    has_cells = name_has_cells (variable_of scope name) (constant_of scope name) (found_has_cells name scope.variables h) (not_false (is_known scope name) (no_fault (not (is_known scope name)) place unknown e));
    has_value = λ c d s. c;
  }
  form_is_good scope h place (index name i) f e = record { has_cells = omega arith; has_value = λ c d s. cc }
  form_is_good scope h place (range name c d) f e = range_is_good scope h place name c d e
      (expr_is_good scope h c (both_left (is_filled c) (is_filled d) f) (nil_right (unknown_variable scope place name) _ (nil_left (unknown_variable scope place name ++ expr_faults scope c) _ (nil_left _ (bad_range scope place name c d) e))))
      (expr_is_good scope h d (both_right (is_filled c) (is_filled d) f) (nil_right (unknown_variable scope place name ++ expr_faults scope c) _ (nil_left _ (bad_range scope place name c d) e)))
  form_is_good scope h place (items no_exprs) f e = cc
  form_is_good scope h place (items (exprs i es)) f e = list_is_good scope i es
      (expr_is_good scope h i (both_left (is_filled i) (are_filled es) f) (nil_left (expr_faults scope i) _ e))
      (rest_is_good scope h es (both_right (is_filled i) (are_filled es) f) (nil_right (expr_faults scope i) _ e))
  form_is_good scope h place (one op i) f e = operand_is_good op (first_of i) _ _ _ _ (expr_is_good scope h i f (nil_left (expr_faults scope i) _ e)) (operand_fault scope op i (nil_right (expr_faults scope i) _ e))
  form_is_good scope h place (two op l r) f e = operation_is_good op place (first_of l) (first_of r) (is_of_one_cell op) _ _ _ _ _ _ _ _
      (expr_is_good scope h l (both_left (is_filled l) (is_filled r) f) (nil_left (expr_faults scope l) _ (nil_left (expr_faults scope l ++ expr_faults scope r) _ e)))
      (expr_is_good scope h r (both_right (is_filled l) (is_filled r) f) (nil_right (expr_faults scope l) _ (nil_left (expr_faults scope l ++ expr_faults scope r) _ e)))
      (nil_right (expr_faults scope l ++ expr_faults scope r) _ e)

  rest_is_good : (scope : Scope) → EachKnown scope.variables → (es : Exprs) → are_filled es ≡ true → list_faults scope es ≡ [] → GoodList (list_size scope es) (is_some_exprs es)
  rest_is_good scope h no_exprs f e = record { has_size = refl; has_cells = λ some. cc; is_empty = λ none. refl }
  rest_is_good scope h (exprs i es) f e = longer_is_good (size_of scope i) (list_size scope es)
      (expr_is_good scope h i (both_left (is_filled i) (are_filled es) f) (nil_left (expr_faults scope i) _ e)).has_cells
      (rest_is_good scope h es (both_right (is_filled i) (are_filled es) f) (nil_right (expr_faults scope i) _ e)).has_size
