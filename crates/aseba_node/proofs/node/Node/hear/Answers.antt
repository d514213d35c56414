use Rattle.aseba_node.proofs.Machines.{arrive_keeps, still_described}
use Rattle.aseba_node.proofs.node.Node.hear.Goals as goal

pub invariant_of-self : goal.invariant_of-self
invariant_of-self c = still_described c.self.invariant (arrive_keeps _ _ _ _ _ c.arrive.ensures.state)

pub invariant_of-self-in-Killed : goal.invariant_of-self-in-Killed
invariant_of-self-in-Killed c = still_described c.self.invariant (arrive_keeps _ _ _ _ _ c.arrive.ensures.state)

pub invariant_of-self-in-Started : goal.invariant_of-self-in-Started
invariant_of-self-in-Started c = still_described c.self.invariant (arrive_keeps _ _ _ _ _ c.arrive.ensures.state)
