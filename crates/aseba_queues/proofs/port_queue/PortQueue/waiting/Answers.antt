use Rattle.aseba_queues.proofs.PortSteps.{port_learns}
use Rattle.aseba_queues.proofs.port_queue.PortQueue.waiting.Goals as goal

pub len_as-requires-clause-rule : goal.len_as-requires-clause-rule
len_as-requires-clause-rule g c = port_learns _ _
