use Rattle.std.proofs.Common.{◌≡◌, ◌+◌, ◌≤◌, length, take, drop}
use Rattle.std.specs.Str.Lines.{lines}
use Rattle.aseba_describe.specs.NativeLines.{natives_told}
use Rattle.aseba_describe.proofs.finding.native_line.Given as goal

-- some lines were passed, and the natives of which they tell
abbrev pub invariant-loop-rest : goal.invariant-loop-rest
invariant-loop-rest l = record {
  behind : drop l.n (lines l.text) ≡ lines l.rest;
  told : natives_told (take l.n (lines l.text)) + l.left ≡ l.others;
  few : l.n + length l.rest ≤ length l.text;
}

abbrev pub decreases-loop-rest : goal.decreases-loop-rest
decreases-loop-rest l = length l.rest
