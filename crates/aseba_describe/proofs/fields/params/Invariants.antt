use Rattle.std.proofs.Common.{◌≡◌}
use Rattle.aseba_describe.specs.Reading as spec
use Rattle.aseba_describe.proofs.Params.{with_front}
use Rattle.aseba_describe.proofs.fields.params.Given as goal

abbrev pub invariant-loop-room : goal.invariant-loop-room
invariant-loop-room l = with_front l.params (spec.params_of l.room l.rest) ≡ spec.params_of 17 l.fields

abbrev pub decreases-loop-room : goal.decreases-loop-room
decreases-loop-room l = l.room
