-- How large the numbers and the sizes of expressions can get.
use Rattle.std.proofs.Common.{ℕ, suc, ◌+◌, ◌*◌, ◌≤◌, Bool, true, false, cond, if◌then◌else◌, ℤ, pos, ◌-ℤ◌, unsigned_abs, Option, Some, None, arith}
use Rattle.std.specs.Prelude.{nat_eq, int_lt, not, ◌||◌, ◌&&◌, int_div, int_rem, neg_ℤ, is_some, IfSome, FitsSigned, option_and_then}
use Rattle.std.specs.Int.{w16, cast_signed}
use Rattle.std.specs.Ordering.{int_eq}
use Rattle.std.proofs.lemmas.Int.{ints, SFits-int_wrap}
use borrow.Author.Differences.{fits_in, read_fits}
use Rattle.aseba_words.specs.declared.operators.Unary.{Unary}
use Rattle.aseba_words.specs.declared.operators.Unary.TheVariants.{Minus, Abs, BitNot, Not}
use Rattle.aseba_words.specs.declared.operators.Binary.{Binary}
use Rattle.aseba_words.specs.declared.operators.Binary.TheVariants.{Shl, Shr, Add, Sub, Mul, Div, Rem, BitOr, BitXor, BitAnd, Equal, Differ, Above, AtLeast, Below, AtMost, Or, And}
use Rattle.aseba_words.specs.Cell.{wrapped, truth, is_true, binary_value}
use Rattle.aseba_tree.specs.Code.{Name, Expr, expr, Form, number, whole, index, range, items, one, two, Exprs, no_exprs, exprs}
use Rattle.aseba_tree.specs.Sizes.{Known, Scope, variable_of, constant_of, constant_value, constant_form, constant_list, unary_constant, binary_constant, alone, is_of_one_cell, common_size, added_size, range_size, name_size, unary_size, size_of, form_size, list_size, variable_size}
use Rattle.aseba_tree.specs.Shape.{expr_count, form_count, list_count}
use Rattle.aseba_check.specs.Fits.{Fits, FitsForm, FitsList}

-- the numbers of constants are those of cells, and no variable has more cells than this
pub record Bounded (scope : Scope) : Type 0 where
  pub numbers : (name : Name) → IfSome (constant_of scope name) (λ v. FitsSigned w16 v)
  pub sizes : (name : Name) → IfSome (variable_size scope name) (λ n. n ≤ 65536)

abbrev pub IsCell : Option ℤ → Type 0
IsCell o = IfSome o (λ v. FitsSigned w16 v)

-- Values

truth-fits : (b : Bool) → FitsSigned w16 (truth b)
truth-fits true = search Rattle.std.proofs.Common.rules
truth-fits false = search Rattle.std.proofs.Common.rules

unary-fits : (op : Unary) (a : Option ℤ) → IsCell a → IsCell (unary_constant op a)
unary-fits op None h = tt
unary-fits Minus (Some a) h = SFits-int_wrap w16 (neg_ℤ a)
unary-fits Abs (Some a) h = SFits-int_wrap w16 (pos (unsigned_abs a))
unary-fits BitNot (Some a) h = SFits-int_wrap w16 (neg_ℤ a -ℤ pos 1)
unary-fits Not (Some a) h = truth-fits (not (is_true a))

divided-fits : (zero : Bool) (v : ℤ) → IsCell (cond zero None (Some (wrapped v)))
divided-fits true v = tt
divided-fits false v = SFits-int_wrap w16 v

bits-fit : (n : ℕ) → FitsSigned w16 (cast_signed w16 n)
bits-fit n = omega (arith, fits_in, read_fits w16 n)

binary-fits : (op : Binary) (a b : ℤ) → IsCell (binary_value op a b)
binary-fits Shl a b = SFits-int_wrap w16 _
binary-fits Shr a b = SFits-int_wrap w16 _
binary-fits Add a b = SFits-int_wrap w16 _
binary-fits Sub a b = SFits-int_wrap w16 _
binary-fits Mul a b = SFits-int_wrap w16 _
binary-fits Div a b = divided-fits (int_eq b (pos 0)) (int_div a b)
binary-fits Rem a b = divided-fits (int_eq b (pos 0)) (int_rem a b)
binary-fits BitOr a b = bits-fit _
binary-fits BitXor a b = bits-fit _
binary-fits BitAnd a b = bits-fit _
binary-fits Equal a b = truth-fits (int_eq a b)
binary-fits Differ a b = truth-fits (not (int_eq a b))
binary-fits Above a b = truth-fits (int_lt b a)
binary-fits AtLeast a b = truth-fits (not (int_lt a b))
binary-fits Below a b = truth-fits (int_lt a b)
binary-fits AtMost a b = truth-fits (not (int_lt b a))
binary-fits Or a b = truth-fits (is_true a || is_true b)
binary-fits And a b = truth-fits (is_true a && is_true b)

both-fit : (op : Binary) (l r : Option ℤ) → IsCell (binary_constant op l r)
both-fit op None r = tt
both-fit op (Some a) None = tt
both-fit op (Some a) (Some b) = binary-fits op a b

name-fits : (v : Option Known) (c : Option ℤ) → IsCell c → IsCell (if is_some v then None else c)
name-fits None c h = h
name-fits (Some v) c h = tt

alone-fits : (value : Option ℤ) (es : Exprs) → IsCell value → IsCell (alone value es)
alone-fits value no_exprs h = h
alone-fits value (exprs e es) h = tt

mutual
  pub value-fits : (scope : Scope) → Bounded scope → (e : Expr) → Fits e → IsCell (constant_value scope e)
  value-fits scope b (expr first place form) h = form-value scope b form h

  form-value : (scope : Scope) → Bounded scope → (form : Form) → FitsForm form → IsCell (constant_form scope form)
  form-value scope b (number v) h = h
  form-value scope b (whole name) h = name-fits (variable_of scope name) (constant_of scope name) (b.numbers name)
  form-value scope b (index name e) h = tt
  form-value scope b (range name c d) h = tt
  form-value scope b (items es) h = list-value scope b es h
  form-value scope b (one op e) h = unary-fits op (constant_value scope e) (value-fits scope b e h)
  form-value scope b (two op l r) h = both-fit op (constant_value scope l) (constant_value scope r)

  list-value : (scope : Scope) → Bounded scope → (es : Exprs) → FitsList es → IsCell (constant_list scope es)
  list-value scope b no_exprs h = tt
  list-value scope b (exprs e es) h = alone-fits (constant_value scope e) es (value-fits scope b e h.0)

-- Sizes

abbrev pub IsUpTo : Option ℕ → ℕ → Type 0
IsUpTo o most = IfSome o (λ n. n ≤ most)

pub more : (o : Option ℕ) (m n : ℕ) → m ≤ n → IsUpTo o m → IsUpTo o n
more None m n le h = tt
more (Some k) m n le h = omega arith

distance : (c d : ℤ) → FitsSigned w16 c → FitsSigned w16 d → unsigned_abs (d -ℤ c) + 1 ≤ 65536
distance c d h k = omega (arith, ints, fits_in)

span-within : (backwards : Bool) (n m : ℕ) → n ≤ m → IsUpTo (if backwards then None else Some n) m
span-within true n m h = tt
span-within false n m h = h

pub range-within : (c d : Option ℤ) → IsCell c → IsCell d → IsUpTo (range_size c d) 65536
range-within None d h k = tt
range-within (Some c) None h k = tt
range-within (Some c) (Some d) h k = span-within (int_lt d c) (unsigned_abs (d -ℤ c) + 1) 65536 (distance c d h k)

name-within : (v : Option Known) (c : Option ℤ) → IsUpTo (option_and_then (λ k. k.size) v) 65536 → IsUpTo (name_size v c) 65536
name-within (Some v) c h = h
name-within None (Some c) h = omega arith
name-within None None h = tt

unary-within : (op : Unary) (o : Option ℕ) (m : ℕ) → 1 ≤ m → IsUpTo o m → IsUpTo (unary_size op o) m
unary-within Minus o m le h = h
unary-within Abs o m le h = h
unary-within BitNot o m le h = h
unary-within Not o m le h = le

same-within : (b : Bool) (l m : ℕ) → l ≤ m → IsUpTo (if b then Some l else None) m
same-within true l m h = h
same-within false l m h = tt

common-within : (l r : Option ℕ) (m : ℕ) → IsUpTo l m → IsUpTo (common_size l r) m
common-within None r m h = tt
common-within (Some l) None m h = tt
common-within (Some l) (Some r) m h = same-within (nat_eq l r) l m h

choice-within : (b : Bool) (o : Option ℕ) (m : ℕ) → 1 ≤ m → IsUpTo o m → IsUpTo (if b then Some 1 else o) m
choice-within true o m le h = le
choice-within false o m le h = h

pub sum-within : (l r : Option ℕ) (m n : ℕ) → IsUpTo l m → IsUpTo r n → IsUpTo (added_size l r) (m + n)
sum-within None r m n h k = tt
sum-within (Some l) None m n h k = tt
sum-within (Some l) (Some r) m n h k = omega arith

mutual
  pub size-within : (scope : Scope) → Bounded scope → (e : Expr) → Fits e → IsUpTo (size_of scope e) (65536 * expr_count e)
  size-within scope b (expr first place form) h = form-within scope b form h

  form-within : (scope : Scope) → Bounded scope → (form : Form) → FitsForm form → IsUpTo (form_size scope form) (65536 * suc (form_count form))
  form-within scope b (number v) h = omega arith
  form-within scope b (whole name) h = name-within (variable_of scope name) (constant_of scope name) (b.sizes name)
  form-within scope b (index name e) h = omega arith
  form-within scope b (range name c d) h =
      more (range_size (constant_value scope c) (constant_value scope d)) 65536 (65536 * suc (form_count (range name c d))) (omega arith)
      (range-within (constant_value scope c) (constant_value scope d) (value-fits scope b c h.0) (value-fits scope b d h.1))
  form-within scope b (items es) h = more (list_size scope es) (65536 * list_count es) (65536 * suc (list_count es)) (omega arith) (list-within scope b es h)
  form-within scope b (one op e) h =
      unary-within op (size_of scope e) (65536 * suc (expr_count e)) (omega arith) (more (size_of scope e) (65536 * expr_count e) (65536 * suc (expr_count e)) (omega arith) (size-within scope b e h))
  form-within scope b (two op l r) h =
      choice-within (is_of_one_cell op) (common_size (size_of scope l) (size_of scope r)) (65536 * suc (expr_count l + expr_count r)) (omega arith)
      (common-within (size_of scope l) (size_of scope r) (65536 * suc (expr_count l + expr_count r))
      (more (size_of scope l) (65536 * expr_count l) (65536 * suc (expr_count l + expr_count r)) (omega arith) (size-within scope b l h.0)))

  pub list-within : (scope : Scope) → Bounded scope → (es : Exprs) → FitsList es → IsUpTo (list_size scope es) (65536 * list_count es)
  list-within scope b no_exprs h = omega arith
  list-within scope b (exprs e es) h =
      more (added_size (size_of scope e) (list_size scope es)) (65536 * expr_count e + 65536 * list_count es) (65536 * (expr_count e + list_count es)) (omega arith)
      (sum-within (size_of scope e) (list_size scope es) (65536 * expr_count e) (65536 * list_count es) (size-within scope b e h.0) (list-within scope b es h.1))
