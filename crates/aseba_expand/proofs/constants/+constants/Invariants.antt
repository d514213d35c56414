use Rattle.std.proofs.Common.{◌≡◌, [], drop}
use Rattle.aseba_tree.specs.Value.{list_elements}
use Rattle.aseba_tree.specs.View.{exprs_view}
use Rattle.aseba_expand.specs.Constants.{first_of}
use Rattle.aseba_expand.specs.Scope.{program_of}
use Rattle.aseba_expand.proofs.constants.+constants.Given as goal

abbrev pub invariant-first_of_list-loop-item : goal.invariant-first_of_list-loop-item
invariant-first_of_list-loop-item l =
    first_of (list_elements (program_of l.scope).project.consts [] (exprs_view (drop l.item-index l.item-items))) ≡ first_of (list_elements (program_of l.scope).project.consts [] (exprs_view l.item-items))
