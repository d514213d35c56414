use Rattle.std.proofs.Common.{◌≡◌, ◌+◌, ◌≤◌, [], length}
use Rattle.std.specs.Str.Lines.{lines}
use Rattle.aseba_words.specs.declared.limits.TheConstants.{MOST_EVENTS}
use Rattle.aseba_record.specs.Reading.{head_from}
use Rattle.aseba_record.proofs.head.read_head.Given as goal

-- reading on from here gives what reading from the start gives
abbrev pub invariant-loop-rest : goal.invariant-loop-rest
invariant-loop-rest l = record {
  same : head_from l.n l.events (lines l.rest) ≡ head_from 2 [] (lines l.text);
  few : length l.events ≤ MOST_EVENTS;
  room : l.n + length l.rest ≤ 2 + length l.text;
}

abbrev pub decreases-loop-rest : goal.decreases-loop-rest
decreases-loop-rest l = length l.rest
