use Rattle.aseba_payload.proofs.Verdicts.{row-within}
use Rattle.aseba_payload.proofs.decoding.payload.Goals as goal

pub overflow_sub-result : goal.overflow_sub-result
overflow_sub-result c = row-within c.args.kind c.args.bytes.now c.in_ok-payload.payload c.in_ok-payload.rest.now c.in_ok-payload.ensures
