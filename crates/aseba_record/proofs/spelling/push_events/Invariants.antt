use Rattle.std.proofs.Common.{◌≡◌, ◌++◌, take, codes}
use Rattle.std.specs.List.{flat_map}
use Rattle.aseba_record.specs.Texts.{event_text}
use Rattle.aseba_record.proofs.spelling.push_events.Given as goal

abbrev pub invariant-loop-event : goal.invariant-loop-event
invariant-loop-event l = l.out ≡ l.initial.out ++ flat_map (λ e. event_text e ++ codes "\n") (take l.event-index l.events)
