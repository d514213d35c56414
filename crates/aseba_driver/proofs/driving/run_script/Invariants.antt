use Rattle.std.proofs.Common.{◌≡◌, drop}
use Rattle.aseba_driver.proofs.EntriesDone.{InScript}
use Rattle.aseba_driver.proofs.driving.run_script.Given as goal

-- some entries are done, their lines were written, and no put failed
abbrev pub invariant-loop-entry : goal.invariant-loop-entry
invariant-loop-entry g l =
    InScript l.legend l.entries l.until l.fn.machine (g.S.Sink.taken l.fn.out) (drop l.entry-index l.entries) l.moment l.machine (g.S.Sink.taken l.out)
    × (g.S.Sink.faults l.out ≡ g.S.Sink.faults l.fn.out)
