use Rattle.std.proofs.Common.{◌≡◌, ◌+◌, ◌≤◌, ◌++◌, length, map}
use Rattle.std.specs.Vec.Iter.{into_iter_items}
use Rattle.aseba_tree.specs.View.{core_expr_view, core_stmt_view}
use Rattle.aseba_expand.specs.Listed.{listed_kept}
use Rattle.aseba_expand.proofs.stores.add_kept.Given as goal

abbrev pub invariant-loop-element : goal.invariant-loop-element
invariant-loop-element l = record {
  made : map core_stmt_view l.built ++ listed_kept l.line l.temporary (map core_expr_view (into_iter_items l.element-iterator)) ≡ map core_stmt_view l.fn.built ++ listed_kept l.line l.from (map core_expr_view l.fn.elements);
  fits : l.temporary + length (into_iter_items l.element-iterator) ≤ 65535;
}
