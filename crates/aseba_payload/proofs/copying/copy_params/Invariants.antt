use Rattle.std.proofs.Common.{◌≡◌, take}
use Rattle.aseba_payload.proofs.copying.copy_params.Given as goal

abbrev pub invariant-loop-param : goal.invariant-loop-param
invariant-loop-param l = l.copied.items ≡ take l.param-index l.param-items
