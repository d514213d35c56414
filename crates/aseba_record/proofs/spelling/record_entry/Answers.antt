use Rattle.std.proofs.lemmas.Result.{IfOk-weaker}
use Rattle.aseba_record.proofs.Written.{new_line_written}
use Rattle.aseba_record.proofs.spelling.record_entry.Goals as goal

pub returns-clause-read : goal.returns-clause-read
returns-clause-read c = λ plain.
    IfOk-weaker c.named_line.result _ _ (λ line e. new_line_written c.args.project.now (record { time = c.args.time; frame = c.args.frame.now }) line c.is_entry.ensures e plain) c.named_line.ensures
