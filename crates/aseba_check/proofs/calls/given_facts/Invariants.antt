use Rattle.std.proofs.Common.{◌≡◌, ◌++◌, drop}
use Rattle.aseba_tree.specs.View.{exprs_view}
use Rattle.aseba_tree.specs.Each.{EachItem}
use Rattle.aseba_check.specs.Fits.{Fits}
use Rattle.aseba_check.specs.Looked.{looked}
use Rattle.aseba_check.specs.Statements.{given}
use Rattle.aseba_check.proofs.calls.given_facts.Given as goal

abbrev pub invariant-loop-argument : goal.invariant-loop-argument
invariant-loop-argument l = record {
  known : l.given ++ given (looked l.names) (exprs_view (drop l.argument-index l.argument-items)) ≡ given (looked l.names) (exprs_view l.argument-items);
  fits : EachItem Fits (exprs_view (drop l.argument-index l.argument-items)) → EachItem Fits (exprs_view l.argument-items);
}
