use Rattle.std.proofs.Common.{◌≡◌, ◌-◌, ◌≤◌, length, map}
use Rattle.aseba_tree.specs.View.{handler_view}
use Rattle.aseba_check.specs.Looked.{looked}
use Rattle.aseba_check.specs.Statements.{known_of}
use Rattle.aseba_check.specs.CountedParts.{depths_after}
use Rattle.aseba_check.proofs.counting.subs.depths_by_rounds.Given as goal

abbrev pub invariant-loop-deep : goal.invariant-loop-deep
invariant-loop-deep l = record {
  known : looked l.depths ≡ depths_after (known_of l.world) l.jump (map handler_view l.parts) l.deep;
  within : l.deep ≤ length l.parts;
}

abbrev pub decreases-loop-deep : goal.decreases-loop-deep
decreases-loop-deep l = length l.parts - l.deep
