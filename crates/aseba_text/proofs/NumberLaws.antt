-- A number has one spelling, and that spelling is read as the number.
use Rattle.std.proofs.Common.{◌≡◌, ℕ, ◌<◌, ◌^◌, true, ◌&&◌, List, Option, Some, None, refl, sym, ◌∙◌, ap, arith, decimal, nat_lt}
use Rattle.std.specs.Str.Parse.{digits_value}
use Rattle.std.proofs.lemmas.Fmt.{decimal_is_IsNumeral}
use Rattle.std.proofs.lemmas.Grind.{common_steps}
use Rattle.std.specs.Cmp.Lexicographic.{bytes_decides}
use Rattle.aseba_text.specs.Names.{is_same}
use Rattle.aseba_text.specs.Options.{when}
use Rattle.aseba_text.specs.Numbers.{number_of}
use Rattle.aseba_text.proofs.Options.{when_takes, when_true, and_takes, and_true}

pub same_is : (a b : List ℕ) → is_same a b ≡ true → a ≡ b
same_is a b h = (bytes_decides a b).0 h

pub is_same_from : (a b : List ℕ) → a ≡ b → is_same a b ≡ true
is_same_from a b h = (bytes_decides a b).1 h

below : (a b : ℕ) → nat_lt a b ≡ true → a < b
below a b h = grind (arith, common_steps)

is_below : (a b : ℕ) → a < b → nat_lt a b ≡ true
is_below a b h = grind (arith, common_steps)

pub number_takes : (text : List ℕ) (n : ℕ) → number_of text ≡ Some n → (n < 2 ^ 64) × (text ≡ decimal n)
unfolding number_of
number_takes text n h =
    let w = when_takes _ _ n h in
    let k = and_takes _ _ w.0 in
    let small : digits_value 10 text < 2 ^ 64 = below _ _ k.0 in
    (omega (arith, w.1), same_is _ _ k.1 ∙ ap decimal w.1)

of_value : (text : List ℕ) (v n : ℕ) → v ≡ n → text ≡ decimal n → n < 2 ^ 64 → when (nat_lt v (2 ^ 64) && is_same text (decimal v)) v ≡ Some n
of_value text v n e f h =
    let small : v < 2 ^ 64 = omega (arith, e) in
    when_true _ v (and_true _ _ (is_below v (2 ^ 64) small) (is_same_from text (decimal v) (f ∙ ap decimal (sym e)))) ∙ ap (λ x. Some x) e

pub number_again : (n : ℕ) → n < 2 ^ 64 → number_of (decimal n) ≡ Some n
unfolding number_of
number_again n h = of_value (decimal n) _ n (decimal_is_IsNumeral n (omega arith)).1 refl h

pub some_number : (text : List ℕ) (n : ℕ) → n < 2 ^ 64 → text ≡ decimal n → Some n ≡ number_of text
some_number text n h e = sym (ap number_of e ∙ number_again n h)

pub no_number : (text : List ℕ) → ((n : ℕ) → n < 2 ^ 64 → text ≡ decimal n → ⊥) → None ≡ number_of text
no_number text h = by (number_of text) refl
  where
    by : (r : Option ℕ) → number_of text ≡ r → None ≡ r
    by None e = refl
    by (Some n) e = let t = number_takes text n e in absurd (h n t.0 t.1)
