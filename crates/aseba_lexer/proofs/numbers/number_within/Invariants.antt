use Rattle.std.proofs.Common.{◌≡◌, ◌≤◌, length}
use Rattle.aseba_lexer.specs.Numbers as numbers
use Rattle.aseba_lexer.proofs.numbers.number_within.Given as goal

abbrev pub invariant-loop-rest : goal.invariant-loop-rest
invariant-loop-rest l =
    (numbers.are_digits l.base l.rest ≡ numbers.are_digits l.base l.fn.digits)
    × (numbers.digits_value l.base l.value l.rest ≡ numbers.digits_value l.base 0 l.fn.digits)
    × (l.value ≤ l.most)

abbrev pub decreases-loop-rest : goal.decreases-loop-rest
decreases-loop-rest l = length l.rest
