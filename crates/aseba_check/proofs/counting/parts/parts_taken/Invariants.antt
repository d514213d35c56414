use Rattle.std.proofs.Common.{◌≡◌, drop, map}
use Rattle.aseba_tree.specs.View.{handler_view}
use Rattle.aseba_check.specs.Looked.{looked}
use Rattle.aseba_check.specs.Statements.{known_of}
use Rattle.aseba_check.specs.CountedStatements.{none_taken}
use Rattle.aseba_check.specs.CountedParts.{parts_taken}
use Rattle.aseba_check.proofs.counting.parts.parts_taken.Given as goal

abbrev pub invariant-loop-part : goal.invariant-loop-part
invariant-loop-part l =
    parts_taken (known_of l.world) (looked l.subs) l.jump l.taken (map handler_view (drop l.part-index l.parts)) ≡ parts_taken (known_of l.world) (looked l.subs) l.jump none_taken (map handler_view l.parts)
