use Rattle.aseba_payload.proofs.Fields.{bytes-by_index}
use Rattle.aseba_payload.proofs.Meanings.{said-is, only-said, wrong-none, none-wrong}
use Rattle.aseba_payload.proofs.law.payload_is_said.Goals as goal

pub returns-clause-said : goal.returns-clause-said
returns-clause-said c = said-is

pub returns-clause-only : goal.returns-clause-only
returns-clause-only c = λ m p each. only-said m p (bytes-by_index m.payload each)

pub returns-clause-none : goal.returns-clause-none
returns-clause-none c = wrong-none

pub returns-clause-wrong : goal.returns-clause-wrong
returns-clause-wrong c = λ m each. none-wrong m (bytes-by_index m.payload each)
