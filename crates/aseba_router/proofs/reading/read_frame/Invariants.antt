-- These bytes came, none of them ended a frame, and the reader holds them.
use Rattle.std.proofs.Common.{◌≡◌, ◌-◌}
use Rattle.aseba_message.specs.Reader.{begun_len}
use Rattle.aseba_router.proofs.FrameRead.{Begun}
use Rattle.aseba_router.proofs.reading.read_frame.Given as goal

abbrev pub invariant-loop-reader : goal.invariant-loop-reader
invariant-loop-reader g l = record {
  begun : Begun (g.I.LinkIn.contents l.fn.input) (g.I.LinkIn.contents l.input) l.reader;
  faults : g.I.LinkIn.faults l.input ≡ g.I.LinkIn.faults l.fn.input;
  mark : g.I.LinkIn.mark l.input ≡ g.I.LinkIn.mark l.fn.input;
}

abbrev pub decreases-loop-reader : goal.decreases-loop-reader
decreases-loop-reader g l = 1030 - begun_len l.reader
