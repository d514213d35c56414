use Rattle.aseba_record.proofs.Written.{old_written, new_written}
use Rattle.aseba_record.proofs.laws.recorded_is_read.Goals as goal

pub returns-clause-new : goal.returns-clause-new
returns-clause-new c = new_written

pub returns-clause-old : goal.returns-clause-old
returns-clause-old c = old_written
