use Rattle.std.proofs.Common.{◌≡◌, ◌-◌}
use Rattle.aseba_payload.specs.Reading.{list_of_params_at}
use Rattle.aseba_payload.proofs.Loop.{with_front}
use Rattle.aseba_payload.proofs.reading.list_of_params.Given as goal

abbrev pub invariant-loop : goal.invariant-loop
invariant-loop l = with_front l.params.items (list_of_params_at (l.count - l.counter) l.rest) ≡ list_of_params_at l.count l.bytes
