use Rattle.std.proofs.lemmas.Result.{IfOk-weaker}
use Rattle.aseba_record.proofs.Written.{old_line_written}
use Rattle.aseba_record.proofs.spelling.record_line.Goals as goal

pub returns-clause-read : goal.returns-clause-read
returns-clause-read c = IfOk-weaker c.numbered_line.result _ _ (λ line e. old_line_written (record { time = c.args.time; frame = c.args.frame.now }) line c.is_entry.ensures e) c.numbered_line.ensures
