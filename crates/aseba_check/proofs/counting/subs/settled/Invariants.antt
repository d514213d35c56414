use Rattle.std.proofs.Common.{map}
use Rattle.aseba_tree.specs.View.{handler_view}
use Rattle.aseba_check.specs.Looked.{looked}
use Rattle.aseba_check.specs.Statements.{known_of}
use Rattle.aseba_check.specs.CountedParts.{AreSettled}
use Rattle.aseba_check.proofs.counting.subs.settled.Given as goal

abbrev pub invariant-loop-place : goal.invariant-loop-place
invariant-loop-place l = AreSettled (known_of l.world) l.jump (map handler_view l.parts) (looked l.depths) l.place-index
