use Rattle.aseba_queues.proofs.InSteps.{in_pushes}
use Rattle.aseba_queues.proofs.in_queue.InQueue.try_push.Goals as goal

pub try_push_as-requires-clause-rule : goal.try_push_as-requires-clause-rule
try_push_as-requires-clause-rule g c = in_pushes _ _ _ _ c.requires.part
