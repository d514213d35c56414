use Rattle.std.proofs.Common.{arith}
use Rattle.aseba_payload.proofs.Fields.{bytes-by_index}
use Rattle.aseba_record.proofs.events.are_bytes.Goals as goal

pub returns : goal.returns
returns c = bytes-by_index c.args.bytes.now (λ i. omega (arith, c.type_inv.bytes i))
