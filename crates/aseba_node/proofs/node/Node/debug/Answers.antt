use Rattle.aseba_node.proofs.Machines.{command_keeps, still_described}
use Rattle.aseba_node.proofs.node.Node.debug.Goals as goal

pub invariant_of-self : goal.invariant_of-self
invariant_of-self c = still_described c.self.invariant (command_keeps _ _ _ _ _ _ c.command-reply.ensures.done)
