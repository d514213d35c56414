use Rattle.std.proofs.Common.{◌≡◌, None, take, drop, map}
use Rattle.aseba_check.specs.Cycles.{call_view, cycles_told}
use Rattle.aseba_check.proofs.recursion.closing_fault.Given as goal

abbrev pub invariant-loop-place : goal.invariant-loop-place
invariant-loop-place l = cycles_told (map call_view (take l.place l.calls)) l.fault (map call_view (drop l.place l.calls)) ≡ cycles_told (map call_view (take l.front l.calls)) None (map call_view (drop l.front l.calls))
