-- What can be said in one frame.
use Rattle.std.specs.Prelude.{◌≤◌, length}
use Rattle.aseba_payload.specs.declared.payload.Payload.{Payload}
use Rattle.aseba_payload.specs.Rows.{HasKind, HasShortTexts, bytes_of}

-- an event's number is one, texts are short, and there are at most 1024 bytes
pub record CanSay (p : Payload) : Type 0 where
  pub kind : HasKind p
  pub texts : HasShortTexts p
  pub room : length (bytes_of p) ≤ 1024
