use Rattle.aseba_message.proofs.OneCut.{cut-found, cut-is}
use Rattle.aseba_message.proofs.law.one_cut.Goals as goal

pub returns-clause-found : goal.returns-clause-found
returns-clause-found c = cut-found

pub returns-clause-only : goal.returns-clause-only
returns-clause-only c = cut-is
