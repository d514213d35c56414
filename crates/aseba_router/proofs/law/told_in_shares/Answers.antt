use Rattle.aseba_router.proofs.ToldLaw.{told-law}
use Rattle.aseba_router.proofs.law.told_in_shares.Goals as goal

pub returns : goal.returns
returns c = told-law
