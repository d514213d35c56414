use Rattle.std.proofs.Common.{◌≡◌, ◌++◌, drop, map}
use Rattle.aseba_tree.specs.View.{handler_view}
use Rattle.aseba_tree.specs.Faults as tree
use Rattle.aseba_check.specs.Cycles.{call_view}
use Rattle.aseba_check.proofs.sub_calls.sub_calls.Given as goal

abbrev pub invariant-loop-part : goal.invariant-loop-part
invariant-loop-part l = map call_view l.calls ++ tree.sub_calls (map handler_view (drop l.part-index l.parts)) ≡ tree.sub_calls (map handler_view l.parts)
