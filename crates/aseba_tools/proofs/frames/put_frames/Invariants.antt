use Rattle.std.proofs.Common.{◌≡◌, ◌-◌, length}
use Rattle.aseba_tools.proofs.Streams.{InStream}
use Rattle.aseba_tools.proofs.frames.put_frames.Given as goal

-- so many bytes were taken, the lines of their frames were gathered, and no put failed
abbrev pub invariant-loop-place : goal.invariant-loop-place
invariant-loop-place g l =
    InStream l.bytes (g.S.Sink.taken l.fn.out) l.fn.page l.place l.reader (g.S.Sink.taken l.out) l.page
    × (g.S.Sink.faults l.out ≡ g.S.Sink.faults l.fn.out)

abbrev pub decreases-loop-place : goal.decreases-loop-place
decreases-loop-place g l = length l.bytes - l.place
