use Rattle.std.proofs.Common.{◌≡◌, ◌++◌, drop, map}
use Rattle.aseba_tree.specs.Elements.{elements_of_list}
use Rattle.aseba_tree.specs.View.{core_expr_view, exprs_view}
use Rattle.aseba_expand.specs.Scope.{program_of}
use Rattle.aseba_expand.proofs.elements.+elements.Given as goal

abbrev pub invariant-listed-loop-item : goal.invariant-listed-loop-item
invariant-listed-loop-item l =
    map core_expr_view l.built ++ elements_of_list (program_of l.scope) (exprs_view (drop l.item-index l.item-items)) ≡ elements_of_list (program_of l.scope) (exprs_view l.item-items)
