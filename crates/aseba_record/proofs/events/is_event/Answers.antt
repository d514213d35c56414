use Rattle.std.proofs.Common.{ap, ◌∙◌}
use Rattle.aseba_record.specs.Events.{is_event}
use Rattle.aseba_record.proofs.events.is_event.Goals as goal

pub returns : goal.returns
returns c = rw c.as_slice.ensures at (c.is_event_of.ensures c.frame.inside.source) ∙ ap is_event c.frame.view_is
