use Rattle.std.proofs.Common.{◌≡◌, ◌≤◌, length, take}
use Rattle.aseba_tools.specs.ProjectWord.{headings}
use Rattle.aseba_tools.proofs.natives.first_other.Given as goal

-- the natives so far are the known ones
abbrev pub invariant-loop-i : goal.invariant-loop-i
invariant-loop-i l = (take l.i (headings l.natives) ≡ take l.i (headings l.known)) × (l.i ≤ length l.natives)
