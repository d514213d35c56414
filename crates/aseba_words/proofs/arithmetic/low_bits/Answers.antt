-- The remainder by 65536, read as a signed number, is the wrapped number.
use Rattle.std.proofs.Common.{rules, ap, ◌∙◌, FitsSigned, to_z, w64, unsigned_abs, pos}
use Rattle.std.specs.Int.{w16, int_wrap, int_rem_euclid}
use Rattle.std.proofs.lemmas.Int.{to_z-of_z}
use Rattle.aseba_words.proofs.arithmetic.low_bits.Goals as goal

pub returns : goal.returns
unfolding int_wrap
returns c =
    let cell : FitsSigned w16 c.cast_signed.result = search rules in
    let remainder : FitsSigned w64 c.rem_euclid.result = search rules in
    to_z-of_z w16 c.cast_signed.result cell
    ∙ (c.cast_signed.ensures
    ∙ (ap (λ r. to_z w16 (unsigned_abs r)) (to_z-of_z w64 c.rem_euclid.result remainder)
    ∙ (ap (λ r. to_z w16 (unsigned_abs r)) c.rem_euclid.ensures.value
    ∙ ap (λ v. to_z w16 (unsigned_abs (int_rem_euclid v (pos 65536)))) (to_z-of_z w64 c.args.value c.ranges.value))))
