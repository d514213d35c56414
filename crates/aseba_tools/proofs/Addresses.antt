-- Texts that are no addresses.
use Rattle.std.proofs.Common.{◌≡◌, ◌∙◌, ℕ, ◌+◌, ◌&&◌, Bool, true, false, refl, ap, List, [], length, drop, nat_lt, arith, Option, None, Some}
use Rattle.std.proofs.lemmas.List.{drop_all}
use Rattle.std.proofs.lemmas.Fmt.{decimal_nonempty}
use Rattle.std.specs.Prelude.{is_some}
use Rattle.std.specs.List.{before_first, after_first, position_or_len}
use Rattle.aseba_text.specs.Numbers.{number_from}
use Rattle.aseba_text.proofs.CellLaws.{number_from_takes}
use Rattle.aseba_tools.specs.Address.{is_colon, is_address}

-- no digits are no number
no_number : is_some (number_from 1 65535 []) ≡ false
no_number = by (number_from 1 65535 []) refl
  where
    by : (o : Option ℕ) → number_from 1 65535 [] ≡ o → is_some o ≡ false
    by None e = refl
    by (Some n) e =
        let taken = number_from_takes 1 65535 [] n e in
        let some = decimal_nonempty n (omega (arith, taken.0.1)) in
        absurd (omega (arith, some, ap (λ (text : List ℕ). length text) taken.1))

nothing_behind : (text : List ℕ) → position_or_len is_colon text ≡ length text → after_first is_colon text ≡ []
nothing_behind text e = ap (λ n. drop (n + 1) text) e ∙ drop_all (length text + 1) text (omega arith)

and_false : (b : Bool) → (b && false) ≡ false
and_false true = refl
and_false false = refl

-- a text without a colon
pub without_colon : (text : List ℕ) → position_or_len is_colon text ≡ length text → is_address text ≡ false
without_colon text e =
    ap (λ behind. nat_lt 0 (length (before_first is_colon text)) && is_some (number_from 1 65535 behind)) (nothing_behind text e)
    ∙ ap (λ b. nat_lt 0 (length (before_first is_colon text)) && b) no_number
    ∙ and_false (nat_lt 0 (length (before_first is_colon text)))
