use Rattle.aseba_node.proofs.Machines.{load_keeps, still_described}
use Rattle.aseba_node.proofs.node.Node.load.Goals as goal

pub invariant_of-self : goal.invariant_of-self
invariant_of-self c = still_described c.self.invariant (load_keeps _ _ _ _ c.load.ensures.state)

pub invariant_of-self-in-Err : goal.invariant_of-self-in-Err
invariant_of-self-in-Err c = still_described c.self.invariant (load_keeps _ _ _ _ c.load.ensures.state)
