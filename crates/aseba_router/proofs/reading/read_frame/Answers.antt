use Rattle.std.proofs.Common.{◌∙◌}
use Rattle.aseba_router.proofs.FrameRead.{begun-more, faults-more, begun-whole, begun-over}
use Rattle.aseba_router.proofs.reading.read_frame.Goals as goal

pub loop-reader-preserved : goal.loop-reader-preserved
loop-reader-preserved g c =
    let so_far = c.loop-reader.invariant.begun in
    let read = c.in-More.ensures.read so_far.bytes so_far.begun in
    record {
      begun = begun-more _ _ _ _ _ _ _ _ so_far c.loop-reader.invariant.faults read;
      faults = faults-more _ _ _ _ _ _ _ _ so_far c.loop-reader.invariant.faults read;
      mark = c.in-More.ensures.mark ∙ c.loop-reader.invariant.mark;
    }

pub returns-in-Whole-clause-heard : goal.returns-in-Whole-clause-heard
returns-in-Whole-clause-heard g c =
    let so_far = c.loop-reader.invariant.begun in
    begun-whole _ _ _ _ _ _ _ _ so_far c.loop-reader.invariant.faults c.in_ok-frame-in-Whole.field-0 c.in_ok-frame-in-Whole.ensures.said (c.in-Whole.ensures.read so_far.bytes so_far.begun)

pub returns-in-Over-clause-heard : goal.returns-in-Over-clause-heard
returns-in-Over-clause-heard g c =
    let so_far = c.loop-reader.invariant.begun in
    begun-over _ _ _ _ _ _ _ _ so_far c.loop-reader.invariant.faults (c.in-Over.ensures.read so_far.bytes so_far.begun)
