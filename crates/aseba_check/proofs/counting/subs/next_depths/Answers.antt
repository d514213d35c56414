use Rattle.std.proofs.Common.{◌∙◌, ap, map}
use Rattle.aseba_tree.specs.View.{handler_view}
use Rattle.aseba_check.specs.Looked.{looked}
use Rattle.aseba_check.specs.Statements.{known_of}
use Rattle.aseba_check.specs.CountedParts.{Depths, next_depths}
use Rattle.aseba_check.proofs.counting.subs.next_depths.Goals as goal

pub returns : goal.returns
returns c =
    c.in_ok-add_depths.ensures ∙ ap (λ (d : Depths). next_depths (known_of c.args.world.now) c.args.jump (looked c.args.depths.now) d (map handler_view c.args.parts.now)) c.new-next.ensures
