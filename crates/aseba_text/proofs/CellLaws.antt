-- Numbers and cells are read from their spelling, and what is read is spelled so.
use Rattle.std.proofs.Common.{◌≡◌, ℕ, ℤ, pos, negsuc, suc, ◌-◌, ◌<◌, ◌≤◌, ◌≢◌, ◌^◌, Bool, true, false, not, ◌==◌, nat_le, List, [], ◌∷◌, ◌++◌, length, get_or, Option, Some, None, refl, sym, ap, ◌∙◌, subst, arith, decimal, cond}
use Rattle.std.specs.List.{list_all}
use Rattle.std.specs.Fmt.{signed_decimal}
use Rattle.std.specs.Str.Parse.{AllDigits}
use Rattle.std.proofs.lemmas.Bool.{eqb-true}
use Rattle.std.proofs.lemmas.Fmt.{decimal_is_IsNumeral}
use Rattle.std.proofs.lemmas.Str.Parse.{numerals_by_value, tells_digits, not_in_digits}
use Rattle.std.proofs.lemmas.Grind.{common_steps}
use Rattle.std.proofs.lemmas.Int.{ints}
use Rattle.aseba_text.specs.Fields.{has_no_blank}
use Rattle.aseba_text.specs.Numbers.{IsCell, number_from, cell_of, below_zero, from_zero}
use Rattle.aseba_text.proofs.Options.{when_takes, when_true, and_takes, and_true, bind_takes, bind_some, some_is}
use Rattle.aseba_text.proofs.NumberLaws.{number_takes, number_again}

pub leb_from : (a b : ℕ) → a ≤ b → nat_le a b ≡ true
leb_from a b h = grind (arith, common_steps)

pub leb_to : (a b : ℕ) → nat_le a b ≡ true → a ≤ b
leb_to a b h = grind (arith, common_steps)

pub number_from_again : (least most n : ℕ) → (least ≤ n) × (n ≤ most) → most < 2 ^ 64 → number_from least most (decimal n) ≡ Some n
number_from_again least most n h small =
    bind_some _ _ n (number_again n (omega arith)) ∙ when_true _ n (and_true _ _ (leb_from least n h.0) (leb_from n most h.1))

pub number_from_takes : (least most : ℕ) (text : List ℕ) (n : ℕ) → number_from least most text ≡ Some n → ((least ≤ n) × (n ≤ most)) × (text ≡ decimal n)
number_from_takes least most text n h =
    let b = bind_takes _ _ _ h in
    let w = when_takes _ _ _ b.2 in
    let k = and_takes _ _ w.0 in
    let t = number_takes text b.0 b.1 in
    ((subst (λ m. least ≤ m) w.1 (leb_to _ _ k.0), subst (λ m. m ≤ most) w.1 (leb_to _ _ k.1)), t.1 ∙ ap decimal w.1)

from_zero_is : (ds : List ℕ) → 0 < length ds → get_or ds 0 0 ≢ 45 → cell_of ds ≡ from_zero ds
unfolding cell_of
from_zero_is [] h e = absurd (omega arith)
from_zero_is (b ∷ bs) h e = by (b == 45) refl
  where
    by : (t : Bool) → (b == 45) ≡ t → cond t (below_zero bs) (from_zero (b ∷ bs)) ≡ from_zero (b ∷ bs)
    by true f = absurd (e (eqb-true b 45 f))
    by false f = refl

not_minus : (n : ℕ) → n < 2 ^ 64 → get_or (decimal n) 0 0 ≢ 45
not_minus n h =
    let k = (decimal_is_IsNumeral n h).0 in
    not_in_digits (numerals_by_value (AllDigits 10) tells_digits) (decimal n) 45 k.1 (λ r. omega (arith, r.0)) 0 k.0

minus : (k : ℕ) → k ≤ 32767 → cell_of (signed_decimal (negsuc k)) ≡ Some (negsuc k)
unfolding cell_of
minus k small =
    let d : suc k - 1 ≡ k = omega arith in
    bind_some _ _ (suc k) (number_from_again 1 32768 (suc k) (omega arith, omega arith) (omega arith)) ∙ ap (λ j. Some (negsuc j)) d

pub cell_again : (z : ℤ) → IsCell z → cell_of (signed_decimal z) ≡ Some z
cell_again (pos n) h =
    let small : n ≤ 32767 = omega (arith, ints, h.1) in
    from_zero_is (decimal n) (decimal_is_IsNumeral n (omega arith)).0.0 (not_minus n (omega arith))
    ∙ bind_some _ _ n (number_from_again 0 32767 n (omega arith, small) (omega arith))
cell_again (negsuc k) h = minus k (omega (arith, ints, h.0))

-- the digits of a number are no other byte
pub no_other : (n c : ℕ) → n < 2 ^ 64 → ((48 ≤ c) × (c ≤ 57) → ⊥) → (i : ℕ) → i < length (decimal n) → get_or (decimal n) i 0 ≢ c
no_other n c h away =
    let k = (decimal_is_IsNumeral n h).0 in
    not_in_digits (numerals_by_value (AllDigits 10) tells_digits) (decimal n) c k.1 away

differs : (a b : ℕ) → a ≢ b → not (a == b) ≡ true
differs a b h = by (a == b) refl
  where
    by : (t : Bool) → (a == b) ≡ t → not t ≡ true
    by true e = absurd (h (eqb-true a b e))
    by false e = refl

pub no_byte_from : (c : ℕ) (bs : List ℕ) → ((i : ℕ) → i < length bs → get_or bs i 0 ≢ c) → list_all (λ b. not (b == c)) bs ≡ true
no_byte_from c [] h = refl
no_byte_from c (b ∷ bs) h = and_true _ _ (differs b c (h 0 (omega arith))) (no_byte_from c bs (λ i k. h (suc i) (omega (arith, k))))

digits_have_no_blank : (n : ℕ) → n < 2 ^ 64 → has_no_blank (decimal n) ≡ true
digits_have_no_blank n h = no_byte_from 32 (decimal n) (no_other n 32 h (λ r. omega (arith, r.0)))

pub cell_has_no_blank : (z : ℤ) → IsCell z → has_no_blank (signed_decimal z) ≡ true
cell_has_no_blank (pos n) h =
    let small : n ≤ 32767 = omega (arith, ints, h.1) in
    digits_have_no_blank n (omega arith)
cell_has_no_blank (negsuc k) h =
    let small : k ≤ 32767 = omega (arith, ints, h.0) in
    digits_have_no_blank (suc k) (omega arith)

below : (bs : List ℕ) (z : ℤ) → below_zero bs ≡ Some z → (45 ∷ bs ≡ signed_decimal z) × IsCell z
below bs z h =
    let n = bind_takes _ _ _ h in
    let v = number_from_takes 1 32768 bs n.0 n.1 in
    let e : negsuc (n.0 - 1) ≡ z = some_is _ _ n.2 in
    let one : n.0 ≡ suc (n.0 - 1) = omega (arith, v.0.0) in (
      ap (λ l. 45 ∷ l) (v.1 ∙ ap decimal one) ∙ ap signed_decimal e,
      subst IsCell e (omega (arith, ints, v.0.1), omega (arith, ints)),
    )

from : (bs : List ℕ) (z : ℤ) → from_zero bs ≡ Some z → (bs ≡ signed_decimal z) × IsCell z
from bs z h =
    let n = bind_takes _ _ _ h in
    let v = number_from_takes 0 32767 bs n.0 n.1 in
    let e : pos n.0 ≡ z = some_is _ _ n.2 in
    (v.1 ∙ ap signed_decimal e, subst IsCell e (omega (arith, ints), omega (arith, ints, v.0.1)))

pub cell_takes : (text : List ℕ) (z : ℤ) → cell_of text ≡ Some z → (text ≡ signed_decimal z) × IsCell z
unfolding cell_of
cell_takes [] z h = absurd cc
cell_takes (b ∷ bs) z h = by (b == 45) refl h
  where
    by : (t : Bool) → (b == 45) ≡ t → cond t (below_zero bs) (from_zero (b ∷ bs)) ≡ Some z → (b ∷ bs ≡ signed_decimal z) × IsCell z
    by true e r = let k = below bs z r in (ap (λ c. c ∷ bs) (eqb-true b 45 e) ∙ k.0, k.1)
    by false e r = from (b ∷ bs) z r
