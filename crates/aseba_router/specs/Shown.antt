-- What contracts see in an item and in an entry: the frame itself, whoever shares it.
use Rattle.std.specs.Arc.{arc_value}
use Rattle.aseba_router.specs.Hub.{Act, joins, says, leaves, Put, frame, end}
use Rattle.aseba_router.specs.declared.item.Item.{Item}
use Rattle.aseba_router.specs.declared.item.Item.TheVariants.{Join, Said, Leave}
use Rattle.aseba_router.specs.declared.entry.Entry.{Entry}
use Rattle.aseba_router.specs.declared.entry.Entry.TheVariants.{Frame, End}

abbrev pub act : Item → Act
act (Join s) = joins s
act (Said s f) = says s (arc_value f)
act (Leave s) = leaves s

abbrev pub put : Entry → Put
put (Frame f) = frame (arc_value f)
put (End s) = end s
