use Rattle.std.proofs.Common.{◌≡◌, drop}
use Rattle.aseba_tree.specs.View.{exprs_view}
use Rattle.aseba_check.specs.Looked.{looked}
use Rattle.aseba_check.specs.Counted.{empty, list_counted}
use Rattle.aseba_check.proofs.counting.elements.+walk_elements.Given as goal

abbrev pub invariant-items_count-loop-item : goal.invariant-items_count-loop-item
invariant-items_count-loop-item l = list_counted (looked l.names) l.all (exprs_view (drop l.item-index l.item-items)) ≡ list_counted (looked l.names) empty (exprs_view l.item-items)
