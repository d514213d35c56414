use Rattle.aseba_codegen.proofs.BitLaws.{bits-at}
use Rattle.aseba_codegen.proofs.bits_stand_at_places.Goals as goal

pub returns : goal.returns
returns c = bits-at
