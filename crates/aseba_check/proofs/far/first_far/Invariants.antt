use Rattle.std.proofs.Common.{◌≡◌, drop, map}
use Rattle.aseba_tree.specs.View.{handler_view}
use Rattle.aseba_check.specs.Starts.{first_far}
use Rattle.aseba_check.specs.Statements.{known_of}
use Rattle.aseba_check.proofs.far.first_far.Given as goal

abbrev pub invariant-loop-part : goal.invariant-loop-part
invariant-loop-part l = first_far (known_of l.world) l.jump l.start (map handler_view (drop l.part-index l.parts)) ≡ first_far (known_of l.world) l.jump l.first (map handler_view l.parts)
