use Rattle.std.proofs.Common.{arith}
use Rattle.aseba_payload.proofs.Fields.{bytes-by_index}
use Rattle.aseba_payload.proofs.Meanings.{fault-none}
use Rattle.aseba_payload.proofs.Verdicts.{ok-decodes, err-decodes}
use Rattle.aseba_payload.proofs.decoding.decoded.Goals as goal

pub returns-in-Ok-clause-said : goal.returns-in-Ok-clause-said
returns-in-Ok-clause-said c = ok-decodes c.args.kind c.args.bytes.now c.in-Ok.payload (bytes-by_index c.args.bytes.now (λ i. omega (arith, c.type_inv.bytes i))) c.in-Ok.ensures

pub returns-in-Err-clause-said : goal.returns-in-Err-clause-said
returns-in-Err-clause-said c =
    rw c.in_payload.ensures (err-decodes c.args.kind c.args.bytes.now c.in-Err.fault (bytes-by_index c.args.bytes.now (λ i. omega (arith, c.type_inv.bytes i))) c.in-Err.ensures)

pub returns-in-Err-clause-none : goal.returns-in-Err-clause-none
returns-in-Err-clause-none c = λ some. fault-none c.args.kind c.args.bytes.now c.in-Err.fault c.in_payload.result c.in_payload.ensures c.in-Err.ensures some
