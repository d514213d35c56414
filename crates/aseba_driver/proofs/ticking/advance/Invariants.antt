use Rattle.std.proofs.Common.{◌≡◌}
use Rattle.aseba_driver.proofs.TicksTold.{InTicks}
use Rattle.aseba_driver.proofs.ticking.advance.Given as goal

-- some ticks are done, their lines were written, and no put failed
abbrev pub invariant-loop-tick : goal.invariant-loop-tick
invariant-loop-tick g l =
    InTicks l.legend l.fn.moment l.fn.machine (g.S.Sink.taken l.fn.out) l.until l._tick l.now l.machine (g.S.Sink.taken l.out)
    × (g.S.Sink.faults l.out ≡ g.S.Sink.faults l.fn.out)
