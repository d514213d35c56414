use Rattle.aseba_router.specs.Middle.{middle}
use Rattle.aseba_router.proofs.Taking.{route-routes}
use Rattle.aseba_router.proofs.turning.route.Goals as goal

pub returns : goal.returns
returns g c = route-routes c.args.places (middle c.args.exchange.now) (middle c.route.new.self) c.args.wires.now c.in_ok-route.ensures.routed c.in_ok-route.ensures.sound
