use Rattle.std.proofs.Common.{◌∙◌, sym, length, map}
use Rattle.aseba_tree.specs.View.{handler_view}
use Rattle.aseba_check.specs.Looked.{looked}
use Rattle.aseba_check.specs.Statements.{known_of}
use Rattle.aseba_check.proofs.NumbersSettled.{all-settled}
use Rattle.aseba_check.proofs.counting.subs.depths_in_order.Goals as goal

pub returns-then-are_settled : goal.returns-then-are_settled
returns-then-are_settled c =
    all-settled (known_of c.args.world.now) c.args.jump (map handler_view c.args.parts.now) (looked c.in_ok-depths.depths) (length c.args.order.now) (length c.args.parts.now) c.in_ok-depths.ensures c.if-order-parts.true
    (sym c.are_settled.ensures ∙ c.if-are_settled.true)
