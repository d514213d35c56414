use Rattle.std.proofs.Common.{◌≡◌, drop}
use Rattle.aseba_tree.specs.View.{exprs_view}
use Rattle.aseba_check.specs.Looked.{looked}
use Rattle.aseba_check.specs.CountedStatements.{none_given, given}
use Rattle.aseba_check.proofs.counting.calls.all_given.Given as goal

abbrev pub invariant-loop-place : goal.invariant-loop-place
invariant-loop-place l = given (looked l.names) l.params l.place l.given (exprs_view (drop l.place l.argument-items)) ≡ given (looked l.names) l.params 0 none_given (exprs_view l.argument-items)
