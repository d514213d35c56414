-- Where a named variable lies.
use Rattle.std.specs.Prelude.{List, Option, option_map}
use Rattle.aseba_tree.specs.Code.{Name}
use Rattle.aseba_tree.specs.Layout.{Placed, placed_named}
use Rattle.aseba_target.specs.declared.node.Place.{Place}

abbrev pub place_of : Placed → Place
place_of v = record { start = v.start; size = v.size }

-- the place of the first variable of a name
abbrev pub place_among : List Placed → Name → Option Place
place_among variables name = option_map place_of (placed_named variables name)
