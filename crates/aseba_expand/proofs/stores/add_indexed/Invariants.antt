use Rattle.std.proofs.Common.{◌≡◌, ◌++◌, map}
use Rattle.std.specs.Vec.Iter.{into_iter_items}
use Rattle.aseba_tree.specs.Elements.{element_of}
use Rattle.aseba_tree.specs.View.{core_expr_view, core_stmt_view, expr_view}
use Rattle.aseba_expand.specs.Listed.{listed_by}
use Rattle.aseba_expand.specs.Scope.{program_of}
use Rattle.aseba_expand.proofs.stores.add_indexed.Given as goal

abbrev pub invariant-loop-value : goal.invariant-loop-value
invariant-loop-value l =
    map core_stmt_view l.built ++ listed_by l.line l.place.start l.place.size (element_of (program_of l.scope) (expr_view l.index)) (map core_expr_view (into_iter_items l.value-iterator))
    ≡ map core_stmt_view l.fn.built ++ listed_by l.line l.place.start l.place.size (element_of (program_of l.scope) (expr_view l.index)) (map core_expr_view l.fn.elements)
