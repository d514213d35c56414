-- The example of places that don't rise, computed.
use Rattle.std.specs.Prelude.{refl}
use Rattle.aseba_codegen.specs.PlacesByText.{PlacesByText, BitsByText, HasBitsByText}

pub places : PlacesByText
places = refl

pub bits : BitsByText
bits = refl

pub has_bits : HasBitsByText
has_bits = (refl, (refl, tt))
