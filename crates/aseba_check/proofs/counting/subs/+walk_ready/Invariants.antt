use Rattle.std.proofs.Common.{◌≡◌, true, drop}
use Rattle.aseba_tree.specs.View.{stmts_view}
use Rattle.aseba_check.specs.Looked.{looked}
use Rattle.aseba_check.specs.CountedParts.{are_ready}
use Rattle.aseba_check.proofs.counting.subs.+walk_ready.Given as goal

abbrev pub invariant-are_ready-loop-stmt : goal.invariant-are_ready-loop-stmt
invariant-are_ready-loop-stmt l = are_ready (looked l.depths) l.ready (stmts_view (drop l.stmt-index l.stmt-items)) ≡ are_ready (looked l.depths) true (stmts_view l.stmt-items)
