use Rattle.std.proofs.Common.{ℕ, ◌<◌, ◌+◌, ◌*◌, sym, subst, get_or, arith}
use Rattle.aseba_lexer.specs.Numbers.{digit}
use Rattle.aseba_lexer.proofs.NumberLaws.{none-past}
use Rattle.aseba_lexer.proofs.numbers.number_within.Goals as goal

pub returns-then-value-most : goal.returns-then-value-most
returns-then-value-most c =
    let past : c.args.most < c.loop-rest.value * c.args.base + digit (get_or c.loop-rest.rest.now 0 0) =
    subst (λ (d : ℕ). c.args.most < c.loop-rest.value * c.args.base + d) c.digit-next.ensures.value c.if-value-most.true in
    sym (none-past c.args.base c.args.most c.loop-rest.value c.loop-rest.rest.now c.args.digits.now c.requires.least (omega arith) past c.loop-rest.invariant.1)
