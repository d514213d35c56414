use Rattle.aseba_queues.proofs.PortSteps.{port_pops, port_learns}
use Rattle.aseba_queues.proofs.port_queue.PortQueue.pop.Goals as goal

pub pop_as-requires-clause-rule : goal.pop_as-requires-clause-rule
pop_as-requires-clause-rule g c = (port_pops _ _ c.requires.part, port_learns _ _)
