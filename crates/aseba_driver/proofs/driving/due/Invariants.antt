use Rattle.std.proofs.Common.{◌≡◌, ◌++◌, take, drop}
use Rattle.aseba_driver.specs.Driven.{due_by}
use Rattle.aseba_driver.proofs.driving.due.Given as goal

-- all entries so far are due
abbrev pub invariant-loop-i : goal.invariant-loop-i
invariant-loop-i l = due_by l.ticks l.script ≡ take l.i l.script ++ due_by l.ticks (drop l.i l.script)
