use Rattle.std.proofs.Common.{◌∙◌}
use Rattle.std.specs.Vec.Iter.{into_iter_items}
use Rattle.aseba_queue_tests.proofs.Joining.{gathers}
use Rattle.aseba_queue_tests.proofs.producers.gather.Goals as goal

pub loop-producer-preserved : goal.loop-producer-preserved
loop-producer-preserved c =
    let kept = c.loop-producer.invariant in
    let more = gathers c.args.queue.now c.in-Some.producer _ (into_iter_items c.next.new.self) _ _ _ _ c.in-Some.ensures.steps.0 c.take_in.ensures.one kept.1 kept.2 kept.4 in
    (c.take_in.ensures.queue, more.0, more.1, more.2 ∙ kept.3, more.3, more.4 ∙ kept.5)
