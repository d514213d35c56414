use Rattle.aseba_codegen.proofs.TextPlaces.{places, bits, has_bits}
use Rattle.aseba_codegen.proofs.whens_by_text.Goals as goal

pub returns : goal.returns
returns c = record { places = places; bits = bits; has_bits = has_bits }
