use Rattle.aseba_queues.proofs.PortSteps.{port_pushes, port_learns}
use Rattle.aseba_queues.proofs.port_queue.PortQueue.push.Goals as goal

pub push_as-requires-clause-rule : goal.push_as-requires-clause-rule
push_as-requires-clause-rule g c = (port_pushes _ _ _ _ c.requires.owns, port_learns _ _)
