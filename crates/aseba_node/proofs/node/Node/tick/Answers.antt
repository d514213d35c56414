use Rattle.aseba_node.proofs.Machines.{tick_keeps, still_described}
use Rattle.aseba_node.proofs.node.Node.tick.Goals as goal

pub invariant_of-self : goal.invariant_of-self
invariant_of-self c = still_described c.self.invariant (tick_keeps _ _ c.tick-tick.ensures.state)
