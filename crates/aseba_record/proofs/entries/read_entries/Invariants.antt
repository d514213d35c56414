use Rattle.std.proofs.Common.{◌≡◌, ◌+◌, ◌≤◌, [], length}
use Rattle.std.specs.Str.Lines.{lines}
use Rattle.aseba_record.specs.Reading.{entries_from}
use Rattle.aseba_record.proofs.entries.read_entries.Given as goal

-- reading on from here gives what reading from the start gives
abbrev pub invariant-loop-rest : goal.invariant-loop-rest
invariant-loop-rest l = record {
  same : entries_from l.format l.n l.timed (lines l.rest) ≡ entries_from l.format l.first [] (lines l.text);
  room : l.n + length l.rest ≤ l.first + length l.text;
}

abbrev pub decreases-loop-rest : goal.decreases-loop-rest
decreases-loop-rest l = length l.rest
