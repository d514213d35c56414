use Rattle.std.proofs.Common.{sym, ◌∙◌, arith}
use Rattle.std.proofs.lemmas.Bool.{le-ltb}
use Rattle.aseba_payload.proofs.Fields.{bytes-by_index}
use Rattle.aseba_record.proofs.EventLaws.{no_event}
use Rattle.aseba_record.proofs.events.is_event_of.Goals as goal

pub returns-else-kind-lt32768 : goal.returns-else-kind-lt32768
returns-else-kind-lt32768 c = λ source.
    le-ltb c.args.kind 32768 c.if-kind-lt32768.false
    ∙ sym (no_event (record { source = source; kind = c.args.kind; payload = c.args.payload.now }) (bytes-by_index c.args.payload.now (λ i. omega (arith, c.type_inv.payload i))) c.if-kind-lt32768.false)
