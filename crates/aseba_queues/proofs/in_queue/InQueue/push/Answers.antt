use Rattle.aseba_queues.proofs.InSteps.{in_pushes, in_learns}
use Rattle.aseba_queues.proofs.in_queue.InQueue.push.Goals as goal

pub push_as-requires-clause-rule : goal.push_as-requires-clause-rule
push_as-requires-clause-rule g c = (in_pushes _ _ _ _ c.requires.part, in_learns _ _)
