use Rattle.aseba_router.proofs.Consequences.{whole-law}
use Rattle.aseba_router.proofs.law.told_whole.Goals as goal

pub returns : goal.returns
returns c = whole-law
