-- The first cell of what numbers and constants compute, form by form.
use Rattle.std.proofs.Common.{◌≡◌, refl, sym, ℕ, zero, suc, ◌+◌, ◌-◌, ◌≤◌, Bool, true, false, if◌then◌else◌, List, [], ◌∷◌, ◌++◌, map, Option, Some, None, arith, true≢false}
use Rattle.std.proofs.lemmas.Bool.{le-ltb, ltb-true, ltb-false}
use Rattle.std.specs.Prelude.{nat_lt, ℤ, pos, negsuc, Ok, Err, ok_or}
use Rattle.std.specs.List.{range_with_len}
use Rattle.aseba_words.specs.declared.operators.Unary.{Unary}
use Rattle.aseba_words.specs.declared.operators.Binary.{Binary}
use Rattle.aseba_words.specs.Cell.{binary_value}
use Rattle.aseba_tree.specs.Value.{Element, by_zero, and_then, cell_at, unary_element, paired, one_element, as_number, from_to}
use Rattle.aseba_expand.specs.Constants.{first_of, prefixed_first, paired_first, first_or, number_of_first, ranged_first}

nat-lt-zero : (n : ℕ) → nat_lt n 0 ≡ false
nat-lt-zero n = le-ltb n 0 (omega arith)

outside-first : (v : ℤ) → first_of (cell_at [] v ∷ []) ≡ Some None
outside-first (pos n) = let outside : nat_lt n 0 ≡ false = nat-lt-zero n in rw outside refl
outside-first (negsuc n) = refl

-- without cells no index has a number
pub index-first : (el : Element) → first_of (and_then el (cell_at []) ∷ []) ≡ Some None
index-first (Err stop) = refl
index-first (Ok v) = outside-first v

pub range-first : (first last : ℕ) → first_of (map (λ i. cell_at [] (pos i)) (from_to first last)) ≡ ranged_first first last
range-first first last = pick (nat_lt last first) refl
  where
    many : (n : ℕ) (b : Bool) → (b ≡ true → n ≡ 0) → (b ≡ false → 1 ≤ n) → first_of (map (λ i. cell_at [] (pos i)) (range_with_len first n)) ≡ (if b then None else Some None)
    many zero true none some = refl
    many zero false none some = let few = some refl in absurd (let no : ⊥ = omega (arith, few) in no)
    many (suc n) true none some = let few = none refl in absurd (let no : ⊥ = omega (arith, few) in no)
    many (suc n) false none some = outside-first (pos first)

    pick : (b : Bool) → nat_lt last first ≡ b → first_of (map (λ i. cell_at [] (pos i)) (from_to first last)) ≡ ranged_first first last
    pick true t = rw t (many (last + 1 - first) true (λ e. let below = ltb-true last first t in omega (arith, below)) (λ e. absurd (true≢false e)))
    pick false t = rw t (many (last + 1 - first) false (λ e. absurd (true≢false (sym e))) (λ e. let above = ltb-false last first t in omega (arith, above)))

pub one-first : (op : Unary) (es : List Element) → first_of (map (unary_element op) es) ≡ prefixed_first op (first_of es)
one-first op [] = refl
one-first op (Ok v ∷ es) = refl
one-first op (Err stop ∷ es) = refl

pub two-first : (op : Binary) (ls rs : List Element) → first_of (paired op ls rs) ≡ paired_first op (first_of ls) (first_of rs)
two-first op [] rs = refl
two-first op (l ∷ ls) [] = refl
two-first op (Err stop ∷ ls) (Ok b ∷ rs) = refl
two-first op (Err stop ∷ ls) (Err s ∷ rs) = refl
two-first op (Ok a ∷ ls) (Err stop ∷ rs) = refl
two-first op (Ok a ∷ ls) (Ok b ∷ rs) = computed (binary_value op a b)
  where
    computed : (o : Option ℤ) → first_of (ok_or o by_zero ∷ paired op ls rs) ≡ Some o
    computed None = refl
    computed (Some v) = refl

pub list-first : (es fs : List Element) → first_of (es ++ fs) ≡ first_or (first_of es) (first_of fs)
list-first [] fs = refl
list-first (e ∷ es) fs = refl

pub number-first : (es : List Element) → number_of_first (first_of es) ≡ as_number (one_element es)
number-first [] = refl
number-first (Ok v ∷ es) = refl
number-first (Err stop ∷ es) = refl
