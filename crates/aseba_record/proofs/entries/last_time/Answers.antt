use Rattle.aseba_record.proofs.LastTime.{last_is}
use Rattle.aseba_record.proofs.entries.last_time.Goals as goal

pub returns-in-len1-up : goal.returns-in-len1-up
returns-in-len1-up c = last_is 0 c.args.timed.now c.last-item.result c.in-len1-up.len_at_least c.last-item.is
