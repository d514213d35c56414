use Rattle.std.proofs.Common.{◌≡◌, ◌+◌, length}
use Rattle.std.specs.Option.{option_map}
use Rattle.aseba_lexer.specs.Comments as comments
use Rattle.aseba_lexer.proofs.comments.block_len.Given as goal

abbrev pub invariant-loop-rest : goal.invariant-loop-rest
invariant-loop-rest l =
    (option_map (λ n. n + l.passed) (comments.block_len l.rest) ≡ comments.block_len l.fn.text) × (l.passed + length l.rest ≡ length l.fn.text)

abbrev pub decreases-loop-rest : goal.decreases-loop-rest
decreases-loop-rest l = length l.rest
