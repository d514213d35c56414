-- An expression without a fault has none where more names are known, unless a name got another meaning.
use Rattle.std.proofs.Common.{◌≡◌, refl, sym, ◌∙◌, ap, Bool, true, false, cond, if◌then◌else◌, ℤ, pos, List, [], ◌∷◌, ◌++◌, Option, Some, None}
use Rattle.std.proofs.lemmas.List.Folds.{find-append}
use Rattle.std.specs.Prelude.{not, ◌&&◌, ◌||◌, is_some, option_and_then, bytes_eq}
use Rattle.std.specs.Option.{option_or}
use Rattle.std.specs.Cmp.Lexicographic.{same_text}
use Rattle.aseba_words.specs.declared.operators.Unary.{Unary}
use Rattle.aseba_words.specs.declared.operators.Unary.TheVariants.{Minus, Abs, BitNot, Not}
use Rattle.aseba_tree.specs.Code.{Name, Place, Expr, expr, number, whole, index, range, items, one, two, Exprs, no_exprs, exprs, Decl}
use Rattle.aseba_tree.specs.Sizes.{Known, Scope, variable_of, constant_of, is_constant, are_constant, constant_value, constant_list, alone, unary_constant, binary_constant, is_of_one_cell, added_size, range_size, name_size, unary_size, binary_size, size_of, list_size}
use Rattle.aseba_tree.specs.Spells.{first_of}
use Rattle.aseba_tree.specs.Faults.{fault_if, unknown, duplicate, not_constant, constant_division, not_scalar, bad_size, is_more_than_one, unknown_variable, is_known, index_outside, backwards, divides, is_number, zero_divisions, list_divisions, bad_index, bad_range, bad_operand, bad_operands, sizes_differ, expr_faults, list_faults, given_size, size_faults, value_faults, decl_faults, declaring, all_declaring, decls_faults}
use Rattle.aseba_tree.proofs.SizeLaws.{nil_left, nil_right, no_fault, not_false}

-- each name that is known in one scope means the same in another
pub record Extends (scope more : Scope) : Type 0 where
  pub variable : (name : Name) → is_known scope name ≡ true → variable_of more name ≡ variable_of scope name
  pub constant : (name : Name) → constant_of more name ≡ constant_of scope name

still-known : (scope more : Scope) → Extends scope more → (name : Name) → is_known scope name ≡ true → is_known more name ≡ true
still-known scope more x name k = (λ i. is_some (x.variable name k i) || is_some (x.constant name i)) ∙ k

pub extends-on : (a b c : Scope) → Extends a b → Extends b c → Extends a c
extends-on a b c x y = record {
  variable = λ name k. y.variable name (still-known a b x name k) ∙ x.variable name k;
  constant = λ name. y.constant name ∙ x.constant name;
}

pub extends-itself : (scope : Scope) → Extends scope scope
extends-itself scope = record { variable = λ name k. refl; constant = λ name. refl }

-- a new name changes no other one
new-name : (v : Option Known) (c : Option ℤ) (k : Known) (b : Bool) → (is_some v || is_some c) ≡ true → (b ≡ true → (is_some v || is_some c) ≡ false) → option_or v (cond b (Some k) None) ≡ v
new-name (Some w) c k b h n = refl
new-name None c k false h n = refl
new-name None c k true h n = let e = n refl in cc

pub extends-declaring : (scope : Scope) (d : Decl) → is_known scope d.name ≡ false → Extends scope (declaring scope d)
extends-declaring scope d new = record {
  variable = λ name k. find-append (λ v. bytes_eq v.name name) scope.variables (record { name = d.name; size = given_size scope d.size } ∷ [])
      ∙ new-name (variable_of scope name) (constant_of scope name) (record { name = d.name; size = given_size scope d.size }) (bytes_eq d.name name) k (λ e. ap (is_known scope) (sym (same_text d.name name (sym e))) ∙ new);
  constant = λ name. refl;
}

pub all-extends : (scope : Scope) (ds : List Decl) → decls_faults scope ds ≡ [] → Extends scope (all_declaring scope ds)
all-extends scope [] none = extends-itself scope
all-extends scope (d ∷ ds) none =
    let own = nil_left (decl_faults scope d) _ none in
    let new = no_fault (is_known scope d.name) d.place duplicate (nil_left (fault_if (is_known scope d.name) d.place duplicate) _ (nil_left _ (value_faults scope d.equals (given_size scope d.size) d.value) own)) in
    extends-on scope (declaring scope d) (all_declaring (declaring scope d) ds) (extends-declaring scope d new) (all-extends (declaring scope d) ds (nil_right (decl_faults scope d) _ none))

-- all is the same of an expression in two scopes
pub record Same (a b : Scope) (e : Expr) : Type 0 where
  pub size : size_of a e ≡ size_of b e
  pub is_constant : is_constant a e ≡ is_constant b e
  pub value : constant_value a e ≡ constant_value b e
  pub divisions : zero_divisions a e ≡ zero_divisions b e
  pub faults : expr_faults a e ≡ expr_faults b e

record SameList (a b : Scope) (es : Exprs) : Type 0 where
  size : list_size a es ≡ list_size b es
  is_constant : are_constant a es ≡ are_constant b es
  value : constant_list a es ≡ constant_list b es
  divisions : list_divisions a es ≡ list_divisions b es
  faults : list_faults a es ≡ list_faults b es

variable-known : (v : Option Known) (c : Option ℤ) (place : Place) → fault_if (not (is_some v)) place unknown ≡ [] → (is_some v || is_some c) ≡ true
variable-known (Some v) c place e = refl
variable-known None c place e = cc

operand-same : (a b : Scope) (op : Unary) (e : Expr) → Same a b e → bad_operand a op e ≡ bad_operand b op e
operand-same a b Minus e s = refl
operand-same a b Abs e s = refl
operand-same a b BitNot e s = refl
operand-same a b Not e s = λ j. fault_if (is_more_than_one (s.size j)) (first_of e) not_scalar

mutual
  pub same : (scope more : Scope) → Extends scope more → (e : Expr) → expr_faults scope e ≡ [] → Same more scope e
  same scope more x (expr first place (number v)) none = record { size = refl; is_constant = refl; value = refl; divisions = refl; faults = refl }
  same scope more x (expr first place (whole name)) none =
      let v = x.variable name (not_false (is_known scope name) (no_fault (not (is_known scope name)) place unknown none)) in
      let c = x.constant name in
      record {
        size = λ j. name_size (v j) (c j);
        is_constant = λ j. is_some (if is_some (v j) then None else c j);
        value = λ j. if is_some (v j) then None else c j;
        divisions = refl;
        faults = λ j. fault_if (not (is_some (v j) || is_some (c j))) place unknown;
      }
  same scope more x (expr first place (index name i)) none =
      let front = nil_left (unknown_variable scope place name ++ expr_faults scope i) (bad_index scope place name i) none in
      let v = x.variable name (variable-known (variable_of scope name) (constant_of scope name) place (nil_left (unknown_variable scope place name) (expr_faults scope i) front)) in
      let s = same scope more x i (nil_right (unknown_variable scope place name) (expr_faults scope i) front) in
      record {
        size = refl;
        is_constant = refl;
        value = refl;
        divisions = refl;
        faults = λ j. fault_if (not (is_some (v j))) place unknown ++ s.faults j
            ++ ((if s.is_constant j then s.divisions j else []) ++ fault_if (is_more_than_one (s.size j)) (first_of i) not_scalar ++ index_outside place (option_and_then (λ k. k.size) (v j)) (s.value j));
      }
  same scope more x (expr first place (range name c d)) none =
      let front = nil_left (unknown_variable scope place name ++ expr_faults scope c ++ expr_faults scope d) (bad_range scope place name c d) none in
      let before = nil_left (unknown_variable scope place name ++ expr_faults scope c) (expr_faults scope d) front in
      let v = x.variable name (variable-known (variable_of scope name) (constant_of scope name) place (nil_left (unknown_variable scope place name) (expr_faults scope c) before)) in
      let s = same scope more x c (nil_right (unknown_variable scope place name) (expr_faults scope c) before) in
      let t = same scope more x d (nil_right (unknown_variable scope place name ++ expr_faults scope c) (expr_faults scope d) front) in
      record {
        size = λ j. range_size (s.value j) (t.value j);
        is_constant = refl;
        value = refl;
        divisions = refl;
        faults = λ j. fault_if (not (is_some (v j))) place unknown ++ s.faults j ++ t.faults j
            ++ (((if s.is_constant j then s.divisions j else record { place = first_of c; rule = not_constant } ∷ []) ++ fault_if (is_more_than_one (s.size j)) (first_of c) not_scalar)
            ++ ((if t.is_constant j then t.divisions j else record { place = first_of d; rule = not_constant } ∷ []) ++ fault_if (is_more_than_one (t.size j)) (first_of d) not_scalar)
            ++ index_outside place (option_and_then (λ k. k.size) (v j)) (s.value j) ++ index_outside place (option_and_then (λ k. k.size) (v j)) (t.value j)
            ++ backwards place (option_and_then (λ k. k.size) (v j)) (s.value j) (t.value j));
      }
  same scope more x (expr first place (items es)) none =
      let s = same-list scope more x es none in record { size = s.size; is_constant = s.is_constant; value = s.value; divisions = s.divisions; faults = s.faults }
  same scope more x (expr first place (one op i)) none =
      let s = same scope more x i (nil_left (expr_faults scope i) (bad_operand scope op i) none) in
      record {
        size = ap (unary_size op) s.size;
        is_constant = s.is_constant;
        value = ap (unary_constant op) s.value;
        divisions = s.divisions;
        faults = λ j. s.faults j ++ operand-same more scope op i s j;
      }
  same scope more x (expr first place (two op l r)) none =
      let operands = nil_left (expr_faults scope l ++ expr_faults scope r) (bad_operands scope place op l r) none in
      let s = same scope more x l (nil_left (expr_faults scope l) (expr_faults scope r) operands) in
      let t = same scope more x r (nil_right (expr_faults scope l) (expr_faults scope r) operands) in
      record {
        size = λ j. binary_size op (s.size j) (t.size j);
        is_constant = λ j. s.is_constant j && t.is_constant j;
        value = λ j. binary_constant op (s.value j) (t.value j);
        divisions = λ j. s.divisions j ++ t.divisions j ++ fault_if (divides op && is_number (t.value j) (pos 0)) place constant_division;
        faults = λ j. s.faults j ++ t.faults j
            ++ (if is_of_one_cell op then fault_if (is_more_than_one (s.size j)) (first_of l) not_scalar ++ fault_if (is_more_than_one (t.size j)) (first_of r) not_scalar else sizes_differ bad_size place (s.size j) (t.size j));
      }

  same-list : (scope more : Scope) → Extends scope more → (es : Exprs) → list_faults scope es ≡ [] → SameList more scope es
  same-list scope more x no_exprs none = record { size = refl; is_constant = refl; value = refl; divisions = refl; faults = refl }
  same-list scope more x (exprs e es) none =
      let s = same scope more x e (nil_left (expr_faults scope e) (list_faults scope es) none) in
      let t = same-list scope more x es (nil_right (expr_faults scope e) (list_faults scope es) none) in
      record {
        size = λ j. added_size (s.size j) (t.size j);
        is_constant = λ j. s.is_constant j && t.is_constant j;
        value = λ j. alone (s.value j) es;
        divisions = λ j. s.divisions j ++ t.divisions j;
        faults = λ j. s.faults j ++ t.faults j;
      }

-- no declaration's value has a fault where all names are known
abbrev pub ValuesHaveNone : Scope → List Decl → Type 0
ValuesHaveNone scope [] = Unit {0}
ValuesHaveNone scope (d ∷ ds) = ((e : Expr) → d.value ≡ Some e → expr_faults scope e ≡ []) × ValuesHaveNone scope ds

pub values-have-none : (scope : Scope) (ds : List Decl) → decls_faults scope ds ≡ [] → ValuesHaveNone (all_declaring scope ds) ds
values-have-none scope [] none = tt
values-have-none scope (d ∷ ds) none =
    let own = nil_left (decl_faults scope d) _ none in
    let value = nil_right (fault_if (is_known scope d.name) d.place duplicate ++ size_faults scope d.place d.size) (value_faults scope d.equals (given_size scope d.size) d.value) own in
    let extends = all-extends scope (d ∷ ds) none in (
      λ e is. let here = nil_left (expr_faults scope e) _ (ap (value_faults scope d.equals (given_size scope d.size)) (sym is) ∙ value) in (same scope (all_declaring scope (d ∷ ds)) extends e here).faults ∙ here,
      values-have-none (declaring scope d) ds (nil_right (decl_faults scope d) _ none),
    )
