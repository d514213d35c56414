use Rattle.aseba_payload.proofs.Lengths.{native-length}
use Rattle.aseba_payload.proofs.law.native_length.Goals as goal

pub returns : goal.returns
returns c = native-length
