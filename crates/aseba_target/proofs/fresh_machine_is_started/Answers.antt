use Rattle.aseba_target.proofs.Started.{started_begun}
use Rattle.aseba_target.proofs.fresh_machine_is_started.Goals as goal

pub returns : goal.returns
returns c = started_begun
