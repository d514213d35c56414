use Rattle.std.proofs.Common.{◌≡◌, map, length}
use Rattle.aseba_text.specs.Names as spec
use Rattle.aseba_describe.proofs.plain.are_apart.Given as goal

abbrev pub invariant-loop-rest : goal.invariant-loop-rest
invariant-loop-rest g l = spec.are_apart (map g.A.Named.name_of l.rest) (map g.B.Named.name_of l.back) ≡ spec.are_apart (map g.A.Named.name_of l.front) (map g.B.Named.name_of l.back)

abbrev pub decreases-loop-rest : goal.decreases-loop-rest
decreases-loop-rest g l = length l.rest
