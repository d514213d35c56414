use Rattle.std.specs.Arc.{arc_value}
use Rattle.aseba_router.proofs.Happening.{said-all}
use Rattle.aseba_router.proofs.table.say.Goals as goal

pub returns-clause-happened : goal.returns-clause-happened
returns-clause-happened g c =
    said-all c.args.echo c.args.at c.args.sayer (arc_value c.args.frame.now) c.args.places.now c.take_shares.new.places c.hand_all.new.places (g.P.Ports.queue c.args.ports.now) (g.P.Ports.queue c.hand_all.new.ports)
    c.in_ok-take_shares.ensures.shared c.hand_all.ensures.handed
