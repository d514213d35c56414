use Rattle.std.proofs.Common.{List, ℕ, Result, ap, ◌∙◌}
use Rattle.std.specs.Result.{result_ok}
use Rattle.aseba_payload.specs.declared.payload.Payload.{Payload}
use Rattle.aseba_payload.specs.declared.fault.Fault.{Fault}
use Rattle.aseba_payload.specs.Writing.{with_payload}
use Rattle.aseba_payload.proofs.Short.{can-from, room-few_params}
use Rattle.aseba_payload.proofs.Verdicts.{says-read}
use Rattle.aseba_payload.proofs.Written.{payload-written}
use Rattle.aseba_payload.proofs.encoding.to_frame.Goals as goal

pub write_row-requires : goal.write_row-requires
write_row-requires c = can-from c.args.payload.now c.requires.texts (room-few_params c.args.payload.now c.requires.room)

pub returns-clause-said : goal.returns-clause-said
returns-clause-said c =
    let empty = ap (λ (out : List ℕ). with_payload out c.args.payload.now) c.new-bytes.ensures.items in
    record {
      named = c.requires.kind;
      kind_is = c.in_ok-kind.ensures.kind;
      texts = c.requires.texts;
      few = room-few_params c.args.payload.now c.requires.room;
      spelled = c.from_vec.ensures ∙ (c.in_ok-kind.ensures.bytes ∙ (empty ∙ payload-written c.args.payload.now));
    }

pub returns-clause-read : goal.returns-clause-read
returns-clause-read c =
    ap (λ (r : Result Payload Fault). result_ok r) (says-read _ _ c.args.payload.now (returns-clause-said c) c.in_ok-kind.ensures.value)
