use Rattle.aseba_queues.proofs.JoinedLaws.{each_is_so}
use Rattle.aseba_queues.proofs.laws.each_is_so.Goals as goal

pub returns : goal.returns
returns g c = each_is_so
