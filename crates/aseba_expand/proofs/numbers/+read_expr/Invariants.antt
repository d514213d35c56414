use Rattle.std.proofs.Common.{◌≡◌, true, drop}
use Rattle.aseba_tree.specs.View.{exprs_view}
use Rattle.aseba_expand.specs.Literals.{have_cell_numbers}
use Rattle.aseba_expand.proofs.numbers.+read_expr.Given as goal

abbrev pub invariant-read_exprs-loop-expr : goal.invariant-read_exprs-loop-expr
invariant-read_exprs-loop-expr l = have_cell_numbers (exprs_view (drop l.expr-index l.expr-items)) ≡ true → have_cell_numbers (exprs_view l.expr-items) ≡ true
