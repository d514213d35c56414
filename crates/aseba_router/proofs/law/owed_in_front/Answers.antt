use Rattle.aseba_router.proofs.Consequences.{owed-front}
use Rattle.aseba_router.proofs.law.owed_in_front.Goals as goal

pub returns : goal.returns
returns c = owed-front
