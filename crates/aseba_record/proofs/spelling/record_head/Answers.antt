use Rattle.aseba_record.proofs.Rows.{head_written}
use Rattle.aseba_record.proofs.spelling.record_head.Goals as goal

pub returns : goal.returns
returns c = head_written c.args.project.now.events _ _ _ _ _ c.new-out.ensures c.in_ok-push.ensures.ok (rw c.as_slice.ensures at c.in_ok-push_events.ensures) c.in_ok-push-2.ensures.ok c.into_bytes.ensures
