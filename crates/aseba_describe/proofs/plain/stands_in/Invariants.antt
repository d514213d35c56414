use Rattle.std.proofs.Common.{◌≡◌, map, length}
use Rattle.aseba_text.specs.Names as spec
use Rattle.aseba_describe.proofs.plain.stands_in.Given as goal

abbrev pub invariant-loop-rest : goal.invariant-loop-rest
invariant-loop-rest g l = spec.stands_in l.name (map g.T.Named.name_of l.rest) ≡ spec.stands_in l.name (map g.T.Named.name_of l.items)

abbrev pub decreases-loop-rest : goal.decreases-loop-rest
decreases-loop-rest g l = length l.rest
