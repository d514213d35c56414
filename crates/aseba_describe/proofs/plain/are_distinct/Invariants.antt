use Rattle.std.proofs.Common.{◌≡◌, map, length}
use Rattle.aseba_text.specs.Names as spec
use Rattle.aseba_describe.proofs.plain.are_distinct.Given as goal

abbrev pub invariant-loop-rest : goal.invariant-loop-rest
invariant-loop-rest g l = spec.are_distinct (map g.T.Named.name_of l.rest) ≡ spec.are_distinct (map g.T.Named.name_of l.items)

abbrev pub decreases-loop-rest : goal.decreases-loop-rest
decreases-loop-rest g l = length l.rest
