use Rattle.aseba_queues.proofs.InSteps.{in_learns}
use Rattle.aseba_queues.proofs.in_queue.InQueue.waiting.Goals as goal

pub len_as-requires-clause-rule : goal.len_as-requires-clause-rule
len_as-requires-clause-rule g c = in_learns _ _
