use Rattle.std.proofs.Common.{◌≡◌, true, take}
use Rattle.aseba_text.proofs.LineLaws.{has_no_end}
use Rattle.aseba_text.proofs.lines.first_line.Given as goal

abbrev pub invariant-loop-i : goal.invariant-loop-i
invariant-loop-i l = has_no_end (take l.i l.text) ≡ true
