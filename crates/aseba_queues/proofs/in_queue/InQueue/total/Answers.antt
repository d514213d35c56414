use Rattle.aseba_queues.proofs.InSteps.{in_learns}
use Rattle.aseba_queues.proofs.in_queue.InQueue.total.Goals as goal

pub learn_as-requires-clause-rule : goal.learn_as-requires-clause-rule
learn_as-requires-clause-rule g c = in_learns _ _
