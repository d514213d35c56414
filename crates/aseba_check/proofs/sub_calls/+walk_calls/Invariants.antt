use Rattle.std.proofs.Common.{◌≡◌, ◌++◌, drop, map}
use Rattle.aseba_tree.specs.View.{stmts_view}
use Rattle.aseba_tree.specs.Faults as tree
use Rattle.aseba_check.specs.Cycles.{call_view}
use Rattle.aseba_check.proofs.sub_calls.+walk_calls.Given as goal

abbrev pub invariant-add_calls-loop-stmt : goal.invariant-add_calls-loop-stmt
invariant-add_calls-loop-stmt l = map call_view l.calls ++ tree.stmts_calls l.caller (stmts_view (drop l.stmt-index l.stmt-items)) ≡ map call_view l.fn.calls ++ tree.stmts_calls l.caller (stmts_view l.stmt-items)
