use Rattle.std.proofs.Common.{◌≡◌, None, drop}
use Rattle.aseba_tree.specs.View.{exprs_view}
use Rattle.aseba_check.specs.Fits.{FitsList}
use Rattle.aseba_check.specs.Looked.{looked}
use Rattle.aseba_check.specs.Told.{list_facts}
use Rattle.aseba_check.proofs.expressions.+walk_expr.Given as goal

abbrev pub invariant-all_facts-loop-item : goal.invariant-all_facts-loop-item
invariant-all_facts-loop-item l = record {
  known : list_facts (looked l.names) l.all (exprs_view (drop l.item-index l.item-items)) ≡ list_facts (looked l.names) None (exprs_view l.item-items);
  fits : FitsList (exprs_view (drop l.item-index l.item-items)) → FitsList (exprs_view l.item-items);
}
