use Rattle.std.proofs.Common.{◌≡◌, ◌++◌, map}
use Rattle.aseba_tree.specs.Elements.{paired_elements}
use Rattle.aseba_tree.specs.View.{core_expr_view}
use Rattle.aseba_expand.proofs.elements.paired.Given as goal

abbrev pub invariant-loop-left : goal.invariant-loop-left
invariant-loop-left l =
    map core_expr_view l.built ++ paired_elements l.op (map core_expr_view l.left-iterator.a.rest.items) (map core_expr_view l.left-iterator.b.rest.items)
    ≡ paired_elements l.op (map core_expr_view l.fn.lefts) (map core_expr_view l.fn.rights)
