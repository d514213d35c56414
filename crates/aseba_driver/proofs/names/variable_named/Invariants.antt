use Rattle.std.proofs.Common.{◌≡◌, drop, map}
use Rattle.aseba_tree.specs.Layout.{placed_named}
use Rattle.aseba_tree.specs.View.{placed_view}
use Rattle.aseba_driver.proofs.names.variable_named.Given as goal

-- it is found among those that are left
abbrev pub invariant-loop-place : goal.invariant-loop-place
invariant-loop-place l = placed_named (map placed_view (drop l.place-index l.places)) l.name ≡ placed_named (map placed_view l.places) l.name
