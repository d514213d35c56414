use Rattle.std.proofs.Common.{◌≡◌, ◌+◌, ◌≤◌, drop, map}
use Rattle.aseba_tree.specs.Inside.{named_cells}
use Rattle.aseba_tree.specs.Layout.{placed_from}
use Rattle.aseba_tree.specs.View.{sized_view}
use Rattle.aseba_target.specs.Place.{place_among}
use Rattle.aseba_target.proofs.node.place_named.Given as goal

-- it is found among those that are left, which lie from here on
abbrev pub invariant-loop-variable : goal.invariant-loop-variable
invariant-loop-variable l =
    (place_among (placed_from l.start (map sized_view (drop l.variable-index l.variables))) l.name ≡ place_among (placed_from 0 (map sized_view l.variables)) l.name)
    × (l.start + named_cells (drop l.variable-index l.variables) ≤ 4096)
