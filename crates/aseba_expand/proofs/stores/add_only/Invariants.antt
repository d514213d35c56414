use Rattle.std.proofs.Common.{◌≡◌, ◌++◌, map}
use Rattle.std.specs.Vec.Iter.{into_iter_items}
use Rattle.aseba_tree.specs.View.{core_expr_view, core_stmt_view}
use Rattle.aseba_expand.specs.Listed.{listed_into}
use Rattle.aseba_expand.proofs.stores.add_only.Given as goal

abbrev pub invariant-loop-element : goal.invariant-loop-element
invariant-loop-element l =
    map core_stmt_view l.built ++ listed_into l.line l.address (map core_expr_view (into_iter_items l.element-iterator)) ≡ map core_stmt_view l.fn.built ++ listed_into l.line l.address (map core_expr_view l.fn.elements)
