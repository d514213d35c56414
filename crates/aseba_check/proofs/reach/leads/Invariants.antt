use Rattle.std.proofs.Common.{◌-◌, length, map}
use Rattle.aseba_check.specs.Looked.{looked}
use Rattle.aseba_check.specs.Cycles.{call_view, led_to, Reached}
use Rattle.aseba_check.proofs.reach.leads.Given as goal

abbrev pub invariant-loop-marks : goal.invariant-loop-marks
invariant-loop-marks l = Reached (map call_view l.calls) l.from (looked l.marks)

abbrev pub decreases-loop-marks : goal.decreases-loop-marks
decreases-loop-marks l = length (map call_view l.calls) - led_to (looked l.marks) (map call_view l.calls)
