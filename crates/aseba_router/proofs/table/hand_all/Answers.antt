use Rattle.std.proofs.Common.{◌∙◌, ◌<◌, length, refl, arith}
use Rattle.aseba_router.proofs.Loops.{hand-more}
use Rattle.aseba_router.proofs.table.hand_all.Goals as goal

pub loop-index-preserved : goal.loop-index-preserved
loop-index-preserved g c =
    let within : c.loop-index.index < length c.loop-index.places = omega (arith, c.loop-index.invariant.done.count) in
    record {
      done = hand-more c.args.at c.args.places.now c.loop-index.places _ (g.P.Ports.queue c.args.ports.now) (g.P.Ports.queue c.loop-index.ports) (g.P.Ports.queue c.hand.new.ports) c.loop-index.index c.index-places-index.result
          c.hand.new.self c.hand.result within refl c.hand.ensures.handed c.hand.ensures.others c.loop-index.invariant.done;
      count = c.hand.ensures.count ∙ c.loop-index.invariant.count;
      end = refl;
    }
