use Rattle.aseba_queues.proofs.PortSteps.{port_pushes}
use Rattle.aseba_queues.proofs.port_queue.PortQueue.try_push.Goals as goal

pub try_push_as-requires-clause-rule : goal.try_push_as-requires-clause-rule
try_push_as-requires-clause-rule g c = port_pushes _ _ _ _ c.requires.owns
