use Rattle.std.proofs.Common.{◌≡◌, ◌++◌, [], drop, map}
use Rattle.aseba_expand.specs.Arguments.{listed_lengths}
use Rattle.aseba_expand.proofs.arguments.add_lengths.Given as goal

abbrev pub invariant-loop-place : goal.invariant-loop-place
invariant-loop-place l = l.values ++ listed_lengths l.seen (map (λ p. p.size) (drop l.place l.params)) (drop l.place l.lengths) ≡ l.fn.values ++ listed_lengths [] (map (λ p. p.size) l.params) l.lengths
