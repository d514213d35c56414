-- What a message says.
use Rattle.std.specs.Prelude.{Option}
use Rattle.std.specs.Result.{result_ok}
use Rattle.aseba_message.specs.Message.{Message}
use Rattle.aseba_payload.specs.declared.payload.Payload.{Payload}
use Rattle.aseba_payload.specs.Reading.{payload_at}

-- the payload that its bytes spell, read by the row of its kind; none where no row has that kind, or its fields don't take exactly these bytes
abbrev pub payload_of : Message → Option Payload
payload_of m = result_ok (payload_at m.kind m.payload)
