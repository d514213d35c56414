use Rattle.std.proofs.Common.{List, ap}
use Rattle.aseba_router.specs.Queue.{Queue}
use Rattle.aseba_router.proofs.Emptied.{popped-none}
use Rattle.aseba_router.specs.Middle.{middle}
use Rattle.aseba_router.proofs.exchange.Exchange.pop.Goals as goal

pub returns-in_default-clause-popped : goal.returns-in_default-clause-popped
returns-in_default-clause-popped c =
    let kept = popped-none c.args.port c.args.self.now.queues c.pop.new.self c.in_default.ensures.popped in
    (kept.0, ap (λ (queues : List Queue). record (middle c.args.self.now) { queues = queues }) kept.1)
