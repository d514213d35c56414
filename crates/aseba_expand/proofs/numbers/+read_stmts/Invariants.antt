use Rattle.std.proofs.Common.{◌≡◌, true, drop}
use Rattle.std.specs.List.{list_all}
use Rattle.aseba_tree.specs.Shape.{stmts_exprs}
use Rattle.aseba_tree.specs.View.{stmts_view}
use Rattle.aseba_expand.specs.Literals.{has_cell_numbers}
use Rattle.aseba_expand.proofs.numbers.+read_stmts.Given as goal

abbrev pub invariant-read_stmts-loop-stmt : goal.invariant-read_stmts-loop-stmt
invariant-read_stmts-loop-stmt l =
    list_all has_cell_numbers (stmts_exprs (stmts_view (drop l.stmt-index l.stmt-items))) ≡ true → list_all has_cell_numbers (stmts_exprs (stmts_view l.stmt-items)) ≡ true
