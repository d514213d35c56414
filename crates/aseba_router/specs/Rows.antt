-- The router's table as contracts see it.
use Rattle.std.specs.Prelude.{ℕ, List, map, slice_index_or, Option, None, option_map}
use Rattle.std.specs.Arc.{arc_value}
use Rattle.aseba_message.specs.Message.{Message}
use Rattle.aseba_router.specs.declared.place.Place.{Place}
use Rattle.aseba_router.specs.Port.{Port, unused}

-- a row, and the share that its session is to get
pub record Row : Type 0 where
  pub port : Port
  pub share : Option Message

abbrev pub row : Place → Row
row place = record {
  port = record { session = place.session; waiting = place.waiting.items; full = place.full };
  share = option_map arc_value place.share;
}

abbrev pub blank : Row
blank = record { port = unused; share = None }

abbrev pub rows : List Place → List Row
rows places = map row places

abbrev pub row_at : List Place → ℕ → Row
row_at places p = slice_index_or (rows places) p blank

abbrev pub ports_of : List Place → List Port
ports_of places = map (λ place. (row place).port) places

abbrev pub port_at : List Port → ℕ → Port
port_at ports p = slice_index_or ports p unused
