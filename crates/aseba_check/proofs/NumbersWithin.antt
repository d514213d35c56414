-- No source reaches the greatest number: how much its expressions and statements take at most.
use Rattle.std.proofs.Common.{◌≡◌, refl, subst, ℕ, zero, suc, ◌+◌, ◌*◌, ◌-◌, ◌≤◌, max, true, List, [], ◌∷◌, ◌++◌, length, map, Option, Some, None, arith}
use Rattle.std.specs.Prelude.{find, bytes_eq, option_and_then, IfSome}
use Rattle.std.specs.List.{range_with_len}
use Rattle.std.proofs.lemmas.List.{length-map, length-append}
use Rattle.std.proofs.lemmas.List.FromFn.{length-range_with_len, length-map-range_with_len}
use Rattle.aseba_tree.specs.Code.{Name, Place, Expr, expr, Form, number, whole, index, range, items, one, two, Exprs, no_exprs, exprs, Const}
use Rattle.aseba_tree.specs.State.{Program}
use Rattle.aseba_tree.specs.Value.{as_place, from_to, constant}
use Rattle.aseba_tree.specs.CoreExpr.{CoreExpr, cell, prefix}
use Rattle.aseba_tree.specs.Sizes.{Known, variable_of}
use Rattle.aseba_tree.specs.Faults.{unknown_variable, bad_index, bad_operand, bad_operands, expr_faults, form_faults, list_faults}
use Rattle.aseba_tree.specs.Elements.{variable_place, named_elements, indexed_element, range_elements, elements_of, elements_of_form, elements_of_list}
use Rattle.aseba_tree.specs.Numbers.{words, all_words, greatest_depth}
use Rattle.aseba_tree.specs.Shape.{is_filled, is_filled_form, are_filled, is_some_exprs, expr_count, form_count, list_count, list_depth, form_list_depth, exprs_list_depth}
use Rattle.aseba_tree.proofs.SizeLaws.{EachKnown, nil_left, nil_right, both_left, both_right}
use Rattle.aseba_tree.proofs.ElementLaws.{laid_scope}
use Rattle.aseba_check.specs.declared.facts.Meaning.{Meaning}
use Rattle.aseba_check.proofs.ExprTies.{Describes}
use Rattle.aseba_check.proofs.NumbersHeld.{depth-cons, words-cons, words-append, depth-append, cells-words, cells-depth, prefix-words, prefix-depth, paired-length, paired-words, paired-depth, number-small}
use Rattle.aseba_check.proofs.NumbersExprs.{IsSame, same-place, expr-many, operands-same, range-length}

-- the most words and cells of an expression of so many expressions, at most so deep in lists and prefix operators
abbrev pub cap : ℕ → ℕ → ℕ
cap zero n = 131072 * n
cap (suc d) n = cap d n + 65536 * n

cap-add : (d m n : ℕ) → cap d (m + n) ≡ cap d m + cap d n
cap-add zero m n = omega arith
cap-add (suc d) m n = let p = cap-add d m n in omega arith

cap-one : (d n : ℕ) → cap d n + 131072 ≤ cap d (suc n)
cap-one zero n = omega arith
cap-one (suc d) n = let p = cap-one d n in omega arith

pub cap-whole : (n : ℕ) → cap 64 n ≡ 4325376 * n
cap-whole n = omega arith

-- what elements take together
abbrev pub weight : List CoreExpr → ℕ
weight es = all_words es + length es

cells-weight : (f : ℕ → ℕ) (ns : List ℕ) → weight (map (λ n. cell (f n)) ns) ≡ length ns + length ns
cells-weight f ns = let p = cells-words f ns in let q = length-map ns (λ n. cell (f n)) in omega arith

cells-deep : (f : ℕ → ℕ) (ns : List ℕ) → greatest_depth (map (λ n. cell (f n)) ns) ≤ 1
cells-deep f [] = omega arith
cells-deep f (n ∷ ns) = let p = cells-depth f (n ∷ ns) (omega arith) in omega arith

named-weight : (k : Option Known) (p : Option (ℕ × ℕ)) (c : Option Const) → IsSame k p → IfSome (option_and_then (λ v. v.size) k) (λ n. n ≤ 65536) → weight (named_elements p c) ≤ 131072
named-weight (Some k) (Some p) c h small =
    let fits : p.1 ≤ 65536 = subst (λ (o : Option ℕ). IfSome o (λ n. n ≤ 65536)) h small in
    let all = cells-weight (λ n. n) (range_with_len p.0 p.1) in
    let long = length-range_with_len p.0 p.1 in
    omega (arith, fits, all, long)
named-weight (Some k) None c h small = absurd h
named-weight None (Some p) c h small = absurd h
named-weight None None (Some c) h small = let s = number-small c.value in omega arith
named-weight None None None h small = omega arith

named-length : (k : Option Known) (p : Option (ℕ × ℕ)) (c : Option Const) → IsSame k p → IfSome (option_and_then (λ v. v.size) k) (λ n. n ≤ 65536) → length (named_elements p c) ≤ 65536
named-length (Some k) (Some p) c h small =
    let fits : p.1 ≤ 65536 = subst (λ (o : Option ℕ). IfSome o (λ n. n ≤ 65536)) h small in let long = length-map-range_with_len cell p.0 p.1 in omega (arith, fits, long)
named-length (Some k) None c h small = absurd h
named-length None (Some p) c h small = absurd h
named-length None None (Some c) h small = omega arith
named-length None None None h small = omega arith

named-deep : (p : Option (ℕ × ℕ)) (c : Option Const) → greatest_depth (named_elements p c) ≤ 1
named-deep (Some p) c = cells-deep (λ n. n) (range_with_len p.0 p.1)
named-deep None (Some c) = omega arith
named-deep None None = omega arith

indexed-weight : (p : Option (ℕ × ℕ)) (es : List CoreExpr) → weight (indexed_element p es ∷ []) ≤ weight es + 131072
indexed-weight (Some p) [] = omega arith
indexed-weight (Some p) (i ∷ es) = let w = words-cons i es in omega arith
indexed-weight None es = omega arith

indexed-deep : (p : Option (ℕ × ℕ)) (es : List CoreExpr) → greatest_depth (indexed_element p es ∷ []) ≤ max 1 (greatest_depth es)
indexed-deep (Some p) [] = omega arith
indexed-deep (Some p) (i ∷ es) = let w = depth-cons i es in omega arith
indexed-deep None es = omega arith

ranged-weight : (p : Option (ℕ × ℕ)) (m n : ℕ) → length (range_elements p m n) ≤ 65536 → weight (range_elements p m n) ≤ 131072
ranged-weight None m n h = omega arith
ranged-weight (Some v) m n h = let all = cells-weight (λ i. v.0 + i) (from_to m n) in let long = length-map (from_to m n) (λ i. cell (v.0 + i)) in omega arith

ranged-deep : (p : Option (ℕ × ℕ)) (m n : ℕ) → greatest_depth (range_elements p m n) ≤ 1
ranged-deep None m n = omega arith
ranged-deep (Some v) m n = cells-deep (λ i. v.0 + i) (from_to m n)

from-one : (d n w : ℕ) → w ≤ 131072 → w ≤ cap d (suc n)
from-one d n w h = let p = cap-one d n in omega arith

-- Cells

mutual
  expr-length : (program : Program) (names : Name → Option Meaning) → Describes names (laid_scope program) → EachKnown (laid_scope program).variables → (e : Expr) → is_filled e ≡ true → expr_faults (laid_scope program) e ≡ []
      → length (elements_of program e) ≤ 65536 * expr_count e
  expr-length program names w h (expr first place form) f e = form-length program names w h place form f e

  form-length : (program : Program) (names : Name → Option Meaning) → Describes names (laid_scope program) → EachKnown (laid_scope program).variables → (place : Place) (form : Form) → is_filled_form form ≡ true → form_faults (laid_scope program) place form ≡ []
      → length (elements_of_form program form) ≤ 65536 * suc (form_count form)
  form-length program names w h place (number v) f e = omega arith
  form-length program names w h place (whole name) f e =
      named-length (variable_of (laid_scope program) name) (variable_place program name) (find (λ c. bytes_eq c.name name) program.project.consts) (same-place program name) (w.bounded.sizes name)
  form-length program names w h place (index name i) f e = omega arith
  form-length program names w h place (range name c k) f e = let small = range-length program names w h place name c k f e in omega arith
  form-length program names w h place (items es) f e = let inner = list-length program names w h es (both_right (is_some_exprs es) _ f) e in omega arith
  form-length program names w h place (one op i) f e =
      let inner = expr-length program names w h i f (nil_left (expr_faults (laid_scope program) i) (bad_operand (laid_scope program) op i) e) in let long = length-map (elements_of program i) (prefix op) in omega arith
  form-length program names w h place (two op l r) f e =
      let scope = laid_scope program in
      let el = nil_left (expr_faults scope l) (expr_faults scope r) (nil_left (expr_faults scope l ++ expr_faults scope r) (bad_operands scope place op l r) e) in
      let left = expr-length program names w h l (both_left (is_filled l) (is_filled r) f) el in
      let long = paired-length op (elements_of program l) (elements_of program r) (operands-same program h place op l r f e) in
      omega (arith, left, long)

  list-length : (program : Program) (names : Name → Option Meaning) → Describes names (laid_scope program) → EachKnown (laid_scope program).variables → (es : Exprs) → are_filled es ≡ true → list_faults (laid_scope program) es ≡ []
      → length (elements_of_list program es) ≤ 65536 * list_count es
  list-length program names w h no_exprs f e = omega arith
  list-length program names w h (exprs i es) f e =
      let first = expr-length program names w h i (both_left (is_filled i) _ f) (nil_left (expr_faults (laid_scope program) i) _ e) in
      let rest = list-length program names w h es (both_right (is_filled i) _ f) (nil_right (expr_faults (laid_scope program) i) _ e) in
      let long = length-append (elements_of program i) (elements_of_list program es) in
      omega (arith, first, rest, long)

-- Words

mutual
  pub expr-weight : (program : Program) (names : Name → Option Meaning) → Describes names (laid_scope program) → EachKnown (laid_scope program).variables → (d : ℕ) (e : Expr) → list_depth e ≤ d → is_filled e ≡ true → expr_faults (laid_scope program) e ≡ []
      → weight (elements_of program e) ≤ cap d (expr_count e)
  expr-weight program names w h d (expr first place form) deep f e = form-weight program names w h d place form deep f e

  form-weight : (program : Program) (names : Name → Option Meaning) → Describes names (laid_scope program) → EachKnown (laid_scope program).variables → (d : ℕ) (place : Place) (form : Form) → form_list_depth form ≤ d → is_filled_form form ≡ true
      → form_faults (laid_scope program) place form ≡ [] → weight (elements_of_form program form) ≤ cap d (suc (form_count form))
  form-weight program names w h d place (number v) deep f e = from-one d 0 _ (let s = number-small v in omega arith)
  form-weight program names w h d place (whole name) deep f e = from-one d 0 _
      (named-weight (variable_of (laid_scope program) name) (variable_place program name) (find (λ c. bytes_eq c.name name) program.project.consts) (same-place program name) (w.bounded.sizes name))
  form-weight program names w h d place (index name i) deep f e =
      let scope = laid_scope program in
      let own = nil_right (unknown_variable scope place name) (expr_faults scope i) (nil_left (unknown_variable scope place name ++ expr_faults scope i) (bad_index scope place name i) e) in
      let inner = expr-weight program names w h d i deep f own in
      let more = cap-one d (expr_count i) in
      let here = indexed-weight (variable_place program name) (elements_of program i) in
      omega (arith, inner, more, here)
  form-weight program names w h d place (range name c k) deep f e = from-one d _ _
      (ranged-weight (variable_place program name) (as_place (constant program.project.consts c)) (as_place (constant program.project.consts k)) (range-length program names w h place name c k f e))
  form-weight program names w h zero place (items es) deep f e = absurd (omega arith)
  form-weight program names w h (suc d) place (items es) deep f e =
      let inner = list-weight program names w h d es (omega arith) (both_right (is_some_exprs es) _ f) e in let more = cap-one d (list_count es) in let s : cap (suc d) (suc (list_count es)) ≡ cap d (suc (list_count es)) + 65536 * suc (list_count es) = refl in omega (arith, inner, more, s)
  form-weight program names w h zero place (one op i) deep f e = absurd (omega arith)
  form-weight program names w h (suc d) place (one op i) deep f e =
      let own = nil_left (expr_faults (laid_scope program) i) (bad_operand (laid_scope program) op i) e in
      let inner = expr-weight program names w h d i (omega arith) f own in
      let many = expr-length program names w h i f own in
      let more = cap-one d (expr_count i) in
      let all = prefix-words op (elements_of program i) in
      let long = length-map (elements_of program i) (prefix op) in
      let s : cap (suc d) (suc (expr_count i)) ≡ cap d (suc (expr_count i)) + 65536 * suc (expr_count i) = refl in
      omega (arith, inner, many, more, all, long, s)
  form-weight program names w h d place (two op l r) deep f e =
      let scope = laid_scope program in
      let fl = both_left (is_filled l) (is_filled r) f in
      let fr = both_right (is_filled l) (is_filled r) f in
      let operands = nil_left (expr_faults scope l ++ expr_faults scope r) (bad_operands scope place op l r) e in
      let el = nil_left (expr_faults scope l) (expr_faults scope r) operands in
      let er = nil_right (expr_faults scope l) (expr_faults scope r) operands in
      let left = expr-weight program names w h d l (omega arith) fl el in
      let right = expr-weight program names w h d r (omega arith) fr er in
      let same = operands-same program h place op l r f e in
      let all = paired-words op (elements_of program l) (elements_of program r) same in
      let long = paired-length op (elements_of program l) (elements_of program r) same in
      let sum = cap-add d (expr_count l) (expr_count r) in
      let more = cap-one d (expr_count l + expr_count r) in
      omega (arith, left, right, same, all, long, sum, more)

  list-weight : (program : Program) (names : Name → Option Meaning) → Describes names (laid_scope program) → EachKnown (laid_scope program).variables → (d : ℕ) (es : Exprs) → exprs_list_depth es ≤ d → are_filled es ≡ true → list_faults (laid_scope program) es ≡ []
      → weight (elements_of_list program es) ≤ cap d (list_count es)
  list-weight program names w h d no_exprs deep f e = omega arith
  list-weight program names w h d (exprs i es) deep f e =
      let scope = laid_scope program in
      let first = expr-weight program names w h d i (omega arith) (both_left (is_filled i) _ f) (nil_left (expr_faults scope i) _ e) in
      let rest = list-weight program names w h d es (omega arith) (both_right (is_filled i) _ f) (nil_right (expr_faults scope i) _ e) in
      let all = words-append (elements_of program i) (elements_of_list program es) in
      let long = length-append (elements_of program i) (elements_of_list program es) in
      let sum = cap-add d (expr_count i) (list_count es) in
      omega (arith, first, rest, all, long, sum)

-- Stack cells

mutual
  pub expr-deep : (program : Program) → EachKnown (laid_scope program).variables → (e : Expr) → is_filled e ≡ true → expr_faults (laid_scope program) e ≡ [] → greatest_depth (elements_of program e) ≤ expr_count e
  expr-deep program h (expr first place form) f e = form-deep program h place form f e

  form-deep : (program : Program) → EachKnown (laid_scope program).variables → (place : Place) (form : Form) → is_filled_form form ≡ true → form_faults (laid_scope program) place form ≡ [] → greatest_depth (elements_of_form program form) ≤ suc (form_count form)
  form-deep program h place (number v) f e = omega arith
  form-deep program h place (whole name) f e = let d = named-deep (variable_place program name) (find (λ c. bytes_eq c.name name) program.project.consts) in omega arith
  form-deep program h place (index name i) f e =
      let scope = laid_scope program in
      let own = nil_right (unknown_variable scope place name) (expr_faults scope i) (nil_left (unknown_variable scope place name ++ expr_faults scope i) (bad_index scope place name i) e) in
      let inner = expr-deep program h i f own in
      let here = indexed-deep (variable_place program name) (elements_of program i) in
      omega (arith, inner, here)
  form-deep program h place (range name c k) f e = let d = ranged-deep (variable_place program name) (as_place (constant program.project.consts c)) (as_place (constant program.project.consts k)) in omega arith
  form-deep program h place (items es) f e = let inner = list-deep program h es (both_right (is_some_exprs es) _ f) e in omega arith
  form-deep program h place (one op i) f e =
      let inner = expr-deep program h i f (nil_left (expr_faults (laid_scope program) i) (bad_operand (laid_scope program) op i) e) in let same = prefix-depth op (elements_of program i) in omega arith
  form-deep program h place (two op l r) f e =
      let scope = laid_scope program in
      let fl = both_left (is_filled l) (is_filled r) f in
      let fr = both_right (is_filled l) (is_filled r) f in
      let operands = nil_left (expr_faults scope l ++ expr_faults scope r) (bad_operands scope place op l r) e in
      let el = nil_left (expr_faults scope l) (expr_faults scope r) operands in
      let er = nil_right (expr_faults scope l) (expr_faults scope r) operands in
      let left = expr-deep program h l fl el in
      let right = expr-deep program h r fr er in
      let all = paired-depth op (elements_of program l) (elements_of program r) (operands-same program h place op l r f e) (expr-many program h l fl el) in
      omega (arith, left, right, all)

  list-deep : (program : Program) → EachKnown (laid_scope program).variables → (es : Exprs) → are_filled es ≡ true → list_faults (laid_scope program) es ≡ [] → greatest_depth (elements_of_list program es) ≤ list_count es
  list-deep program h no_exprs f e = omega arith
  list-deep program h (exprs i es) f e =
      let first = expr-deep program h i (both_left (is_filled i) _ f) (nil_left (expr_faults (laid_scope program) i) _ e) in
      let rest = list-deep program h es (both_right (is_filled i) _ f) (nil_right (expr_faults (laid_scope program) i) _ e) in
      let all = depth-append (elements_of program i) (elements_of_list program es) in
      omega (arith, first, rest, all)
