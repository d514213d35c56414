use Rattle.aseba_queues.proofs.PortSteps.{port_learns}
use Rattle.aseba_queues.proofs.port_queue.PortQueue.total.Goals as goal

pub learn_as-requires-clause-rule : goal.learn_as-requires-clause-rule
learn_as-requires-clause-rule g c = port_learns _ _
