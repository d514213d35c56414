use Rattle.aseba_driver.proofs.FieldsRead.{last_is}
use Rattle.aseba_driver.proofs.reading.last_time.Goals as goal

pub returns-in-len1-up : goal.returns-in-len1-up
returns-in-len1-up c = last_is 0 c.args.script.now c.last-item.result c.in-len1-up.len_at_least c.last-item.is
