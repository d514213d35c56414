-- The elements of an expression read cells of variables alone.
use Rattle.std.proofs.Common.{is_some, nat_le, ◌∙◌, pos, ◌≡◌, refl, ap, ℕ, zero, suc, ◌+◌, ◌-◌, ◌≤◌, ◌<◌, Bool, true, false, ◌&&◌, if◌then◌else◌, List, [], ◌∷◌, ◌++◌, arith, Option, Some, None, map, nat_lt}
use Rattle.std.specs.Prelude.{bytes_eq, find, sum_by}
use Rattle.std.specs.List.{list_all, range_with_len}
use Rattle.std.proofs.lemmas.Bool.{lt-ltb, le-leb}
use Rattle.std.proofs.lemmas.List.Sums.{sum_by-cons}
use Rattle.aseba_words.specs.declared.operators.Unary.{Unary}
use Rattle.aseba_words.specs.declared.operators.Binary.{Binary}
use Rattle.aseba_tree.specs.Code.{Name, Place, Sized, Expr, expr, Form, number, whole, index, range, items, one, two, Exprs, no_exprs, exprs, Const}
use Rattle.aseba_tree.specs.State.{Program}
use Rattle.aseba_tree.specs.CoreExpr.{CoreExpr, fixed, cell, prefix, infix_of}
use Rattle.aseba_tree.specs.CoreShape.{is_good_expr, is_indexed}
use Rattle.aseba_tree.specs.Layout.{address_from, variables, cells_of_variables}
use Rattle.aseba_tree.specs.Elements.{variable_place, named_elements, indexed_element, range_elements, paired_elements, elements_of, elements_of_form, elements_of_list}
use Rattle.aseba_tree.specs.CoreShape.{is_readable, is_readable_range}
use Rattle.aseba_tree.specs.Numbers.{is_own, is_own_form, fresh_elements, fresh_of_list, source_room}
use Rattle.aseba_expand.specs.Plain.{bound, own_start, plain_core}
use Rattle.aseba_expand.proofs.Ready.{Reaches, Grounded, GroundedForm, GroundedList}
use Rattle.aseba_tree.proofs.SizeLaws.{both_left, both_right}

-- a variable lies among the cells
address-inside : (ds : List Sized) (base : ℕ) (name : Name) (a n : ℕ) → address_from base ds name ≡ Some (a, n) → a + n ≤ base + sum_by (λ v. v.size) ds
address-inside [] base name a n e = cc
address-inside (d ∷ ds) base name a n e = pick (address-inside ds (base + d.size) name a n) (bytes_eq d.name name) e
  where
    first_of : Option (ℕ × ℕ) → ℕ
    first_of None = 0
    first_of (Some p) = p.0

    second_of : Option (ℕ × ℕ) → ℕ
    second_of None = 0
    second_of (Some p) = p.1

    pick : (address_from (base + d.size) ds name ≡ Some (a, n) → a + n ≤ base + d.size + sum_by (λ v. v.size) ds) → (b : Bool) → (if b then Some (base, d.size) else address_from (base + d.size) ds name) ≡ Some (a, n)
        → a + n ≤ base + sum_by (λ v. v.size) (d ∷ ds)
    pick deeper true e = let start : base ≡ a = ap first_of e in let long : d.size ≡ n = ap second_of e in omega (arith, start, long, sum_by-cons (λ (v : Sized). v.size) d ds)
    pick deeper false e = let far = deeper e in omega (arith, far, sum_by-cons (λ (v : Sized). v.size) d ds)

pub place-inside : (program : Program) (name : Name) (a n : ℕ) → variable_place program name ≡ Some (a, n) → a + n ≤ cells_of_variables program
place-inside program name a n e = let far = address-inside (variables program) 0 name a n e in omega (arith, far)

pub both : (a b : Bool) → a ≡ true → b ≡ true → (a && b) ≡ true
both true b p q = q
both false b p q = p

pub cell-readable : (program : Program) (stored : List ℕ) (k : ℕ) → k < cells_of_variables program → is_good_expr (plain_core program) stored (cell k) ≡ true
cell-readable program stored k h =
    let low = lt-ltb k (cells_of_variables program) h in
    let inside = lt-ltb k ((plain_core program).cells + (plain_core program).room) (omega (arith, h)) in
    both (nat_lt k ((plain_core program).cells + (plain_core program).room)) _ inside (rw low refl)

pub range-readable : (program : Program) (stored : List ℕ) (a count : ℕ) → a + count ≤ cells_of_variables program → list_all (is_good_expr (plain_core program) stored) (map cell (range_with_len a count)) ≡ true
range-readable program stored a zero h = refl
range-readable program stored a (suc count) h =
    both (is_good_expr (plain_core program) stored (cell a)) _ (cell-readable program stored a (omega (arith, h))) (range-readable program stored (a + 1) count (omega (arith, h)))

span-readable : (program : Program) (stored : List ℕ) (a c count : ℕ) → a + c + count ≤ cells_of_variables program → list_all (is_good_expr (plain_core program) stored) (map (λ i. cell (a + i)) (range_with_len c count)) ≡ true
span-readable program stored a c zero h = refl
span-readable program stored a c (suc count) h =
    both (is_good_expr (plain_core program) stored (cell (a + c))) _ (cell-readable program stored (a + c) (omega (arith, h))) (span-readable program stored a (c + 1) count (omega (arith, h)))

named-readable : (program : Program) (stored : List ℕ) (name : Name) (place : Option (ℕ × ℕ)) (c : Option Const) → variable_place program name ≡ place → list_all (is_good_expr (plain_core program) stored) (named_elements place c) ≡ true
named-readable program stored name (Some p) c e = range-readable program stored p.0 p.1 (place-inside program name p.0 p.1 e)
named-readable program stored name None (Some c) e = refl
named-readable program stored name None None e = refl

indexed-readable : (program : Program) (stored : List ℕ) (name : Name) (place : Option (ℕ × ℕ)) (es : List CoreExpr) → variable_place program name ≡ place → list_all (is_good_expr (plain_core program) stored) es ≡ true
    → is_good_expr (plain_core program) stored (indexed_element place es) ≡ true
indexed-readable program stored name None es e k = refl
indexed-readable program stored name (Some p) [] e k = refl
indexed-readable program stored name (Some p) (i ∷ es) e k =
    both (is_indexed (plain_core program) p.0 p.1) (is_good_expr (plain_core program) stored i) (le-leb (p.0 + p.1) (cells_of_variables program) (place-inside program name p.0 p.1 e)) (both_left (is_good_expr (plain_core program) stored i) _ k)

ranged-readable : (program : Program) (stored : List ℕ) (name : Name) (place : Option (ℕ × ℕ)) (c d : ℕ) → variable_place program name ≡ place → Reaches place d → c ≤ d → list_all (is_good_expr (plain_core program) stored) (range_elements place c d) ≡ true
ranged-readable program stored name None c d e r o = absurd r
ranged-readable program stored name (Some p) c d e r o = span-readable program stored p.0 c (d + 1 - c) (let inside = place-inside program name p.0 p.1 e in omega (arith, inside, r, o))

pub paired-readable : (program : Program) (stored : List ℕ) (op : Binary) (ls rs : List CoreExpr) → list_all (is_good_expr (plain_core program) stored) ls ≡ true → list_all (is_good_expr (plain_core program) stored) rs ≡ true
    → list_all (is_good_expr (plain_core program) stored) (paired_elements op ls rs) ≡ true
paired-readable program stored op [] rs p q = refl
paired-readable program stored op (l ∷ ls) [] p q = refl
paired-readable program stored op (l ∷ ls) (r ∷ rs) p q =
    both (is_good_expr (plain_core program) stored l && is_good_expr (plain_core program) stored r) _
    (both (is_good_expr (plain_core program) stored l) _ (both_left (is_good_expr (plain_core program) stored l) _ p) (both_left (is_good_expr (plain_core program) stored r) _ q))
    (paired-readable program stored op ls rs (both_right (is_good_expr (plain_core program) stored l) _ p) (both_right (is_good_expr (plain_core program) stored r) _ q))

prefixed-readable : (program : Program) (stored : List ℕ) (op : Unary) (es : List CoreExpr) → list_all (is_good_expr (plain_core program) stored) es ≡ true → list_all (is_good_expr (plain_core program) stored) (map (prefix op) es) ≡ true
prefixed-readable program stored op [] p = refl
prefixed-readable program stored op (e ∷ es) p = both (is_good_expr (plain_core program) stored e) _ (both_left (is_good_expr (plain_core program) stored e) _ p) (prefixed-readable program stored op es (both_right (is_good_expr (plain_core program) stored e) _ p))

pub bumped-readable : (program : Program) (stored : List ℕ) (op : Binary) (es : List CoreExpr) → list_all (is_good_expr (plain_core program) stored) es ≡ true → list_all (is_good_expr (plain_core program) stored) (map (λ l. infix_of op l (fixed (pos 1))) es) ≡ true
bumped-readable program stored op [] p = refl
bumped-readable program stored op (e ∷ es) p =
    both (is_good_expr (plain_core program) stored e && true) _ (both (is_good_expr (plain_core program) stored e) true (both_left (is_good_expr (plain_core program) stored e) _ p) refl) (bumped-readable program stored op es (both_right (is_good_expr (plain_core program) stored e) _ p))

append-readable : (program : Program) (stored : List ℕ) (xs ys : List CoreExpr) → list_all (is_good_expr (plain_core program) stored) xs ≡ true → list_all (is_good_expr (plain_core program) stored) ys ≡ true
    → list_all (is_good_expr (plain_core program) stored) (xs ++ ys) ≡ true
append-readable program stored [] ys p q = q
append-readable program stored (x ∷ xs) ys p q = both (is_good_expr (plain_core program) stored x) _ (both_left (is_good_expr (plain_core program) stored x) _ p) (append-readable program stored xs ys (both_right (is_good_expr (plain_core program) stored x) _ p) q)

mutual
  pub readable : (program : Program) (stored : List ℕ) (e : Expr) → Grounded program e → list_all (is_good_expr (plain_core program) stored) (elements_of program e) ≡ true
  readable program stored (expr first place form) g = form-readable program stored form g

  form-readable : (program : Program) (stored : List ℕ) (form : Form) → GroundedForm program form → list_all (is_good_expr (plain_core program) stored) (elements_of_form program form) ≡ true
  form-readable program stored (number v) g = refl
  form-readable program stored (whole name) g = named-readable program stored name (variable_place program name) (find (λ c. bytes_eq c.name name) program.project.consts) refl
  form-readable program stored (index name e) g = both (is_good_expr (plain_core program) stored (indexed_element (variable_place program name) (elements_of program e))) true (indexed-readable program stored name (variable_place program name) (elements_of program e) refl (readable program stored e g.2)) refl
  form-readable program stored (range name c d) g = ranged-readable program stored name (variable_place program name) (bound program c) (bound program d) refl g.0 g.1
  form-readable program stored (items es) g = list-readable program stored es g
  form-readable program stored (one op e) g = prefixed-readable program stored op (elements_of program e) (readable program stored e g)
  form-readable program stored (two op l r) g = paired-readable program stored op (elements_of program l) (elements_of program r) (readable program stored l g.0) (readable program stored r g.1)

  list-readable : (program : Program) (stored : List ℕ) (es : Exprs) → GroundedList program es → list_all (is_good_expr (plain_core program) stored) (elements_of_list program es) ≡ true
  list-readable program stored no_exprs g = refl
  list-readable program stored (exprs e es) g = append-readable program stored (elements_of program e) (elements_of_list program es) (readable program stored e g.0) (list-readable program stored es g.1)

-- Own cells

readable-cells : (program : Program) (stored : List ℕ) (ks : List ℕ) → list_all (is_good_expr (plain_core program) stored) (map cell ks) ≡ true → list_all (is_readable (plain_core program) stored) ks ≡ true
readable-cells program stored [] h = refl
readable-cells program stored (k ∷ ks) h =
    both (is_readable (plain_core program) stored k) _ (both_left (is_good_expr (plain_core program) stored (cell k)) _ h) (readable-cells program stored ks (both_right (is_good_expr (plain_core program) stored (cell k)) _ h))

-- cells of variables are readable as a range
pub own-range : (program : Program) (stored : List ℕ) (a count : ℕ) → a + count ≤ cells_of_variables program → is_readable_range (plain_core program) stored a count ≡ true
own-range program stored a count h =
    both (nat_le (a + count) (cells_of_variables program + source_room program)) _ (le-leb (a + count) (cells_of_variables program + source_room program) (omega (arith, h))) (readable-cells program stored (range_with_len a count) (range-readable program stored a count h))

-- where an argument's own cells stand
pub record Own (program : Program) (e : Expr) : Type 0 where
  pub count : ℕ
  pub found : elements_of program e ≡ map cell (range_with_len (own_start program e) count)
  pub inside : own_start program e + count ≤ cells_of_variables program

cells-from : (a c n : ℕ) → map (λ i. cell (a + i)) (range_with_len c n) ≡ map cell (range_with_len (a + c) n)
cells-from a c zero = refl
cells-from a c (suc n) =
    let up : a + (c + 1) ≡ a + c + 1 = omega arith in
    ap (λ l. cell (a + c) ∷ l) (cells-from a (c + 1) n ∙ ap (λ k. map cell (range_with_len k n)) up)

own-form : (program : Program) (first here : Place) (form : Form) → is_own_form program form ≡ true → GroundedForm program form → Own program (expr first here form)
own-form program first here (number v) o g = cc
own-form program first here (whole name) o g = by (variable_place program name) refl o
  where
    by : (p : Option (ℕ × ℕ)) → variable_place program name ≡ p → is_some p ≡ true → Own program (expr first here (whole name))
    by None e o = cc
    by (Some p) e o = record { count = p.1; found = rw e refl; inside = rw e (place-inside program name p.0 p.1 e) }
own-form program first here (index name i) o g = cc
own-form program first here (range name c d) o g = by (variable_place program name) refl g.0
  where
    by : (p : Option (ℕ × ℕ)) → variable_place program name ≡ p → Reaches p (bound program d) → Own program (expr first here (range name c d))
    by None e r = absurd r
    by (Some p) e r =
        let inside = place-inside program name p.0 p.1 e in
        record {
          count = bound program d + 1 - bound program c;
          found = rw e (cells-from p.0 (bound program c) (bound program d + 1 - bound program c));
          inside = rw e (omega (arith, inside, r, g.1));
        }
own-form program first here (items es) o g = cc
own-form program first here (one op e) o g = cc
own-form program first here (two op l r) o g = cc

pub own-cells : (program : Program) (e : Expr) → is_own program e ≡ true → Grounded program e → Own program e
own-cells program (expr first here form) o g = own-form program first here form o g

-- the elements of arguments that go into temporaries
pub fresh-readable : (program : Program) (stored : List ℕ) (es : Exprs) → GroundedList program es → list_all (is_good_expr (plain_core program) stored) (fresh_of_list program es) ≡ true
fresh-readable program stored no_exprs g = refl
fresh-readable program stored (exprs e es) g = append-readable program stored (fresh_elements program e) (fresh_of_list program es) (pick (is_own program e)) (fresh-readable program stored es g.1)
  where
    pick : (b : Bool) → list_all (is_good_expr (plain_core program) stored) (if b then [] else elements_of program e) ≡ true
    pick true = refl
    pick false = readable program stored e g.0
