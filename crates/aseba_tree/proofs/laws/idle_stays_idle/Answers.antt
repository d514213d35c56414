use Rattle.aseba_tree.proofs.Steps.{step-idle}
use Rattle.aseba_tree.proofs.laws.idle_stays_idle.Goals as goal

pub returns : goal.returns
returns c = step-idle
