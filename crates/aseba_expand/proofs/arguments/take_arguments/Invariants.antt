use Rattle.std.proofs.Common.{◌≡◌, ◌+◌, ◌++◌, drop, length, map}
use Rattle.aseba_tree.specs.Layout.{cells_of_variables}
use Rattle.aseba_tree.specs.Numbers.{fresh_of_list, lengths}
use Rattle.aseba_tree.specs.View.{core_expr_view, exprs_view}
use Rattle.aseba_expand.specs.Plain.{argument_starts}
use Rattle.aseba_expand.specs.Scope.{program_of}
use Rattle.aseba_expand.proofs.arguments.take_arguments.Given as goal

abbrev pub invariant-loop-argument : goal.invariant-loop-argument
invariant-loop-argument l = record {
  fresh : map core_expr_view l.fresh ++ fresh_of_list (program_of l.scope) (exprs_view (drop l.argument-index l.argument-items)) ≡ fresh_of_list (program_of l.scope) (exprs_view l.argument-items);
  starts : l.starts ++ argument_starts (program_of l.scope) (cells_of_variables (program_of l.scope) + length l.fresh) (exprs_view (drop l.argument-index l.argument-items))
      ≡ argument_starts (program_of l.scope) (cells_of_variables (program_of l.scope)) (exprs_view l.argument-items);
  lengths : l.lengths ++ lengths (program_of l.scope) (exprs_view (drop l.argument-index l.argument-items)) ≡ lengths (program_of l.scope) (exprs_view l.argument-items);
}
