use Rattle.aseba_queues.proofs.InSteps.{in_pops, in_learns}
use Rattle.aseba_queues.proofs.in_queue.InQueue.pop.Goals as goal

pub pop_as-requires-clause-rule : goal.pop_as-requires-clause-rule
pop_as-requires-clause-rule g c = (in_pops _ _ c.requires.owns c.requires.few, in_learns _ _)
