use Rattle.std.proofs.Common.{◌≡◌, map, take}
use Rattle.aseba_describe.specs.Defaults as spec
use Rattle.aseba_describe.proofs.defaults.params_of.Given as goal

abbrev pub invariant-loop-size : goal.invariant-loop-size
invariant-loop-size l = l.list ≡ map (λ p. spec.param p.0 p.1.now) (take l.size-index l.params)
