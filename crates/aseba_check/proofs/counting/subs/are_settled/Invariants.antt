use Rattle.std.proofs.Common.{◌≡◌, true, drop, map}
use Rattle.aseba_tree.specs.View.{handler_view}
use Rattle.aseba_check.specs.Looked.{looked}
use Rattle.aseba_check.specs.CountedParts.{all_settled}
use Rattle.aseba_check.proofs.counting.subs.are_settled.Given as goal

abbrev pub invariant-loop-part : goal.invariant-loop-part
invariant-loop-part l = all_settled (looked l.depths) l.settled (map handler_view (drop l.part-index l.parts)) ≡ all_settled (looked l.depths) true (map handler_view l.parts)
