use Rattle.aseba_expand.proofs.PlainLaw.{plain-expands}
use Rattle.aseba_expand.proofs.plain_expands.Goals as goal

pub returns : goal.returns
returns c = plain-expands
