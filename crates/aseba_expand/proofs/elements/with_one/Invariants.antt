use Rattle.std.proofs.Common.{◌≡◌, ◌++◌, map}
use Rattle.std.specs.Vec.Iter.{into_iter_items}
use Rattle.aseba_tree.specs.View.{core_expr_view}
use Rattle.aseba_expand.specs.Made.{bumped}
use Rattle.aseba_expand.proofs.elements.with_one.Given as goal

abbrev pub invariant-loop-element : goal.invariant-loop-element
invariant-loop-element l = map core_expr_view l.built ++ bumped l.op (map core_expr_view (into_iter_items l.element-iterator)) ≡ bumped l.op (map core_expr_view l.fn.elements)
