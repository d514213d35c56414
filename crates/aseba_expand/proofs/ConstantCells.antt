-- The numbers of the element form are cells, and what it indexes has one at least.
use Rattle.std.proofs.Common.{◌≡◌, refl, subst, ℕ, ◌<◌, Bool, true, false, if◌then◌else◌, ℤ, pos, negsuc, List, [], ◌∷◌, ◌++◌, arith, Option, Some, None, Ok, Err, map, nat_lt, FitsSigned}
use Rattle.std.specs.Prelude.{slice_index_or, cond, bytes_eq, option_to_list, option_map, ok_or, int_div, int_rem, ◌^◌}
use Rattle.std.specs.Int.{w16, int_bit_or, int_bit_xor, int_bit_and, cast_unsigned, cast_signed}
use Rattle.std.specs.Int.Bits.{bit_or, bit_xor, bit_and, and_lt}
use Rattle.std.proofs.lemmas.Nat.{or_lt, xor_lt}
use Rattle.std.proofs.Math.Facts.{sfits_to_z, Fits-of_z, Fits-lt-pow, Fits-of_lt}
use Rattle.std.specs.Ordering.{int_eq}
use Rattle.std.specs.List.{list_all}
use Rattle.std.proofs.lemmas.Bool.{lt-ltb, ltb-true}
use Rattle.std.proofs.lemmas.Int.{SFits-int_wrap}
use Rattle.aseba_words.specs.declared.operators.Unary.{Unary}
use Rattle.aseba_words.specs.declared.operators.Unary.TheVariants.{Minus, Abs, BitNot, Not}
use Rattle.aseba_words.specs.declared.operators.Binary.{Binary}
use Rattle.aseba_words.specs.declared.operators.Binary.TheVariants.{Shl, Shr, Add, Sub, Mul, Div, Rem, BitOr, BitXor, BitAnd, Equal, Differ, Above, AtLeast, Below, AtMost, Or, And}
use Rattle.aseba_words.specs.Cell.{wrapped, truth, divided, unary_value, binary_value}
use Rattle.aseba_tree.specs.Code.{Const, Expr, expr, Form, number, whole, index, range, items, one, two, Exprs, no_exprs, exprs}
use Rattle.aseba_tree.specs.Value.{is_cell, by_zero, outside, Element, and_then, cell_at, constant_named, constant_number, unary_element, binary_element, one_element, as_number, paired, elements, form_elements, list_elements, constant}
use Rattle.aseba_tree.specs.Step.{step_of}
use Rattle.aseba_expand.specs.Literals.{has_cell_numbers, form_has_cell_numbers, have_cell_numbers}
use Rattle.aseba_tree.proofs.SizeLaws.{both_left, both_right}

-- The operators give cells

fits-cell : (v : ℤ) → FitsSigned w16 v → is_cell v ≡ true
fits-cell (pos n) f = lt-ltb n 32768 f.sfits
fits-cell (negsuc n) f = lt-ltb n 32768 f.sfits

pub wrapped-cell : (v : ℤ) → is_cell (wrapped v) ≡ true
wrapped-cell v = fits-cell (wrapped v) (SFits-int_wrap w16 v)

truth-cell : (b : Bool) → is_cell (truth b) ≡ true
truth-cell true = refl
truth-cell false = refl

unary-cell : (op : Unary) (a : ℤ) → is_cell (unary_value op a) ≡ true
unary-cell Minus a = wrapped-cell _
unary-cell Abs a = wrapped-cell _
unary-cell BitNot a = wrapped-cell _
unary-cell Not a = truth-cell _

-- an element is a cell, or a stop
abbrev pub IsCellElement : Element → Type 0
IsCellElement (Ok v) = is_cell v ≡ true
IsCellElement (Err s) = Unit {0}

divided-cell : (b v : ℤ) → IsCellElement (ok_or (divided b v) by_zero)
divided-cell b v = pick (int_eq b (pos 0))
  where
    pick : (t : Bool) → IsCellElement (ok_or (if t then None else Some (wrapped v)) by_zero)
    pick true = tt
    pick false = wrapped-cell v

cell-fits : (v : ℤ) → is_cell v ≡ true → FitsSigned w16 v
cell-fits (pos n) h = record { sfits = ltb-true n 32768 h }
cell-fits (negsuc n) h = record { sfits = ltb-true n 32768 h }

-- the bits of a cell, as a number below 65536
bits-low : (v : ℤ) → is_cell v ≡ true → cast_unsigned w16 v < 2 ^ 16
bits-low v h = Fits-lt-pow (Fits-of_z {w = w16} (cell-fits v h))

bits-cell : (n : ℕ) → n < 2 ^ 16 → is_cell (cast_signed w16 n) ≡ true
bits-cell n h = fits-cell (cast_signed w16 n) (sfits_to_z {w = w16} (Fits-of_lt {w = w16} h))

or-cell : (a b : ℤ) → is_cell a ≡ true → is_cell b ≡ true → is_cell (int_bit_or w16 a b) ≡ true
or-cell a b h k = bits-cell (bit_or (cast_unsigned w16 a) (cast_unsigned w16 b)) (or_lt 16 (cast_unsigned w16 a) (cast_unsigned w16 b) (bits-low a h) (bits-low b k))

xor-cell : (a b : ℤ) → is_cell a ≡ true → is_cell b ≡ true → is_cell (int_bit_xor w16 a b) ≡ true
xor-cell a b h k = bits-cell (bit_xor (cast_unsigned w16 a) (cast_unsigned w16 b)) (xor_lt 16 (cast_unsigned w16 a) (cast_unsigned w16 b) (bits-low a h) (bits-low b k))

and-cell : (a b : ℤ) → is_cell a ≡ true → is_cell b ≡ true → is_cell (int_bit_and w16 a b) ≡ true
and-cell a b h k = bits-cell (bit_and (cast_unsigned w16 a) (cast_unsigned w16 b)) (and_lt 16 (cast_unsigned w16 a) (cast_unsigned w16 b) (bits-low a h) (bits-low b k))

binary-cell : (op : Binary) (a b : ℤ) → is_cell a ≡ true → is_cell b ≡ true → IsCellElement (ok_or (binary_value op a b) by_zero)
binary-cell Shl a b h k = wrapped-cell _
binary-cell Shr a b h k = wrapped-cell _
binary-cell Add a b h k = wrapped-cell _
binary-cell Sub a b h k = wrapped-cell _
binary-cell Mul a b h k = wrapped-cell _
binary-cell Div a b h k = divided-cell b (int_div a b)
binary-cell Rem a b h k = divided-cell b (int_rem a b)
binary-cell BitOr a b h k = or-cell a b h k
binary-cell BitXor a b h k = xor-cell a b h k
binary-cell BitAnd a b h k = and-cell a b h k
binary-cell Equal a b h k = truth-cell _
binary-cell Differ a b h k = truth-cell _
binary-cell Above a b h k = truth-cell _
binary-cell AtLeast a b h k = truth-cell _
binary-cell Below a b h k = truth-cell _
binary-cell AtMost a b h k = truth-cell _
binary-cell Or a b h k = truth-cell _
binary-cell And a b h k = truth-cell _

-- Constants

abbrev AreCells : List Element → Type 0
AreCells [] = Unit {0}
AreCells (e ∷ es) = IsCellElement e × AreCells es

pub found-constant : (consts : List Const) (name : List ℕ) (c : Const) → list_all (λ c. is_cell c.value) consts ≡ true → constant_named consts name ≡ Some c → is_cell c.value ≡ true
found-constant [] name c h e = cc
found-constant (d ∷ ds) name c h e = pick (bytes_eq d.name name) e (found-constant ds name c (both_right (is_cell d.value) _ h))
  where
    pick : (b : Bool) → cond b (Some d) (constant_named ds name) ≡ Some c → (constant_named ds name ≡ Some c → is_cell c.value ≡ true) → is_cell c.value ≡ true
    pick true e deeper = let same : d ≡ c = cc in subst (λ x. is_cell x.value ≡ true) same (both_left (is_cell d.value) _ h)
    pick false e deeper = deeper e

named-cells : (consts : List Const) (name : List ℕ) → list_all (λ c. is_cell c.value) consts ≡ true → AreCells (map (λ v. Ok v) (option_to_list (constant_number consts name)))
named-cells consts name h = by (constant_named consts name) refl
  where
    by : (o : Option Const) → constant_named consts name ≡ o → AreCells (map (λ v. Ok v) (option_to_list (option_map (λ c. c.value) o)))
    by None e = tt
    by (Some c) e = (found-constant consts name c h e, tt)

-- a variable that isn't there has no cell
none-there : (i : ℤ) → IsCellElement (cell_at [] i)
none-there (pos n) = pick (nat_lt n 0) refl
  where
    pick : (b : Bool) → nat_lt n 0 ≡ b → IsCellElement (and_then (if b then Ok n else Err (outside 0 (pos n))) (λ place. Ok (slice_index_or [] place (pos 0))))
    pick true e = absurd (let less = ltb-true n 0 e in omega (arith, less))
    pick false e = tt
none-there (negsuc n) = tt

indexed-none : (e : Element) → IsCellElement (and_then e (cell_at []))
indexed-none (Ok i) = none-there i
indexed-none (Err s) = tt

ranged-none : (is : List ℕ) → AreCells (map (λ i. cell_at [] (pos i)) is)
ranged-none [] = tt
ranged-none (i ∷ is) = (none-there (pos i), ranged-none is)

unary-cells : (op : Unary) (es : List Element) → AreCells (map (unary_element op) es)
unary-cells op [] = tt
unary-cells op (Ok v ∷ es) = (unary-cell op v, unary-cells op es)
unary-cells op (Err s ∷ es) = (tt, unary-cells op es)

pair-cells : (op : Binary) (l r : Element) → IsCellElement l → IsCellElement r → IsCellElement (binary_element op l r)
pair-cells op (Err s) r h k = tt
pair-cells op (Ok a) (Err s) h k = tt
pair-cells op (Ok a) (Ok b) h k = binary-cell op a b h k

paired-cells : (op : Binary) (ls rs : List Element) → AreCells ls → AreCells rs → AreCells (paired op ls rs)
paired-cells op [] rs h k = tt
paired-cells op (l ∷ ls) [] h k = tt
paired-cells op (l ∷ ls) (r ∷ rs) h k = (pair-cells op l r h.0 k.0, paired-cells op ls rs h.1 k.1)

append-cells : (xs ys : List Element) → AreCells xs → AreCells ys → AreCells (xs ++ ys)
append-cells [] ys h k = k
append-cells (x ∷ xs) ys h k = (h.0, append-cells xs ys h.1 k)

-- the elements of numbers and constants
mutual
  constant-cells : (consts : List Const) → list_all (λ c. is_cell c.value) consts ≡ true → (e : Expr) → has_cell_numbers e ≡ true → AreCells (elements consts [] e)
  constant-cells consts h (expr first place form) n = form-cells consts h form n

  form-cells : (consts : List Const) → list_all (λ c. is_cell c.value) consts ≡ true → (form : Form) → form_has_cell_numbers form ≡ true → AreCells (form_elements consts [] form)
  form-cells consts h (number v) n = (n, tt)
  form-cells consts h (whole name) n = named-cells consts name h
  form-cells consts h (index name e) n = (indexed-none (one_element (elements consts [] e)), tt)
  form-cells consts h (range name c d) n = ranged-none _
  form-cells consts h (items es) n = list-cells consts h es n
  form-cells consts h (one op e) n = unary-cells op (elements consts [] e)
  form-cells consts h (two op l r) n =
      paired-cells op (elements consts [] l) (elements consts [] r) (constant-cells consts h l (both_left (has_cell_numbers l) _ n)) (constant-cells consts h r (both_right (has_cell_numbers l) _ n))

  list-cells : (consts : List Const) → list_all (λ c. is_cell c.value) consts ≡ true → (es : Exprs) → have_cell_numbers es ≡ true → AreCells (list_elements consts [] es)
  list-cells consts h no_exprs n = tt
  list-cells consts h (exprs e es) n = append-cells (elements consts [] e) (list_elements consts [] es) (constant-cells consts h e (both_left (has_cell_numbers e) _ n)) (list-cells consts h es (both_right (has_cell_numbers e) _ n))

-- a constant expression is a cell, and so is a step
pub constant-cell : (consts : List Const) → list_all (λ c. is_cell c.value) consts ≡ true → (e : Expr) → has_cell_numbers e ≡ true → is_cell (constant consts e) ≡ true
constant-cell consts h e n = by (elements consts [] e) (constant-cells consts h e n)
  where
    by : (es : List Element) → AreCells es → is_cell (as_number (one_element es)) ≡ true
    by [] k = refl
    by (Ok v ∷ es) k = k.0
    by (Err s ∷ es) k = refl

pub step-cell : (consts : List Const) → list_all (λ c. is_cell c.value) consts ≡ true → (step : Option Expr) → list_all has_cell_numbers (option_to_list step) ≡ true → is_cell (step_of consts step) ≡ true
step-cell consts h None n = refl
step-cell consts h (Some e) n = constant-cell consts h e (both_left (has_cell_numbers e) _ n)
