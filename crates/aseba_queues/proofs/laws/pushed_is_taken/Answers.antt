use Rattle.aseba_queues.proofs.JoinedLaws.{pushed_is_taken}
use Rattle.aseba_queues.proofs.laws.pushed_is_taken.Goals as goal

pub returns : goal.returns
returns g c = pushed_is_taken
