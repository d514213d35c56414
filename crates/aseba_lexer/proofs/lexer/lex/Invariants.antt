use Rattle.std.proofs.Common.{◌+◌, ◌≤◌, length}
use Rattle.aseba_tree.specs.Tokens.{first_place, Cut}
use Rattle.aseba_lexer.proofs.lexer.lex.Given as goal

abbrev pub invariant-loop-rest : goal.invariant-loop-rest
invariant-loop-rest l =
    Cut first_place l.fn.text l.tokens l.at l.rest × (1 ≤ l.at.line) × (1 ≤ l.at.col) × (l.at.line + l.at.col + length l.rest ≤ 2 + length l.fn.text)

abbrev pub decreases-loop-rest : goal.decreases-loop-rest
decreases-loop-rest l = length l.rest
