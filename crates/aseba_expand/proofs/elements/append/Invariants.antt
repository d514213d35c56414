use Rattle.std.proofs.Common.{◌≡◌, ◌++◌, map}
use Rattle.std.specs.Vec.Iter.{into_iter_items}
use Rattle.aseba_tree.specs.View.{core_expr_view}
use Rattle.aseba_expand.proofs.elements.append.Given as goal

abbrev pub invariant-loop-element : goal.invariant-loop-element
invariant-loop-element l = map core_expr_view l.built ++ map core_expr_view (into_iter_items l.element-iterator) ≡ map core_expr_view l.fn.built ++ map core_expr_view l.fn.more
