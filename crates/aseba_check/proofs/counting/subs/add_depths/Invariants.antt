use Rattle.std.proofs.Common.{◌≡◌, drop, map}
use Rattle.aseba_tree.specs.View.{handler_view}
use Rattle.aseba_check.specs.Looked.{looked}
use Rattle.aseba_check.specs.Statements.{known_of}
use Rattle.aseba_check.specs.CountedParts.{next_depths}
use Rattle.aseba_check.proofs.counting.subs.add_depths.Given as goal

abbrev pub invariant-loop-part : goal.invariant-loop-part
invariant-loop-part l =
    next_depths (known_of l.world) l.jump (looked l.depths) (looked l.next) (map handler_view (drop l.part-index l.parts)) ≡ next_depths (known_of l.world) l.jump (looked l.depths) (looked l.fn.next) (map handler_view l.parts)
