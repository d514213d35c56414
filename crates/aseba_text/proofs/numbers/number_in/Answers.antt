use Rattle.std.proofs.Common.{◌≡◌, arith, sym, ap, ◌∙◌, decimal}
use Rattle.std.proofs.lemmas.Fmt.{parse-decimal}
use Rattle.aseba_text.proofs.NumberLaws.{no_number, some_number, same_is, is_same_from}
use Rattle.aseba_text.proofs.numbers.number_in.Goals as goal

pub returns-then-eq : goal.returns-then-eq
returns-then-eq c =
    some_number _ _ (omega (arith, c.in-Ok.ensures.value.0)) (sym (same_is _ _ (sym c.eq.ensures ∙ c.if-eq.true)) ∙ c.format.ensures.text)

pub returns-else-eq : goal.returns-else-eq
returns-else-eq c = no_number _ (λ n h e.
    let m : c.in-Ok.number ≡ n = cc (parse-decimal 64 n _ _ h (omega arith) e c.parse.ensures.value.0) in
    let s = is_same_from c.format.result.now c.args.text.now (c.format.ensures.text ∙ ap decimal m ∙ sym e) in
    absurd cc)

pub returns-in-Err : goal.returns-in-Err
returns-in-Err c = no_number _ (λ n h e. absurd (cc (parse-decimal 64 n _ _ h (omega arith) e c.parse.ensures.value.0)))
