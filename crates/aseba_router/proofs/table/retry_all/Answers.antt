use Rattle.std.proofs.Common.{◌∙◌, ◌<◌, length, refl, arith}
use Rattle.aseba_router.proofs.Loops.{try-more}
use Rattle.aseba_router.proofs.table.retry_all.Goals as goal

pub loop-index-preserved : goal.loop-index-preserved
loop-index-preserved g c =
    let within : c.loop-index.index < length c.loop-index.places = omega (arith, c.loop-index.invariant.done.count) in
    record {
      done = try-more c.args.places.now c.loop-index.places _ (g.P.Ports.queue c.args.ports.now) (g.P.Ports.queue c.loop-index.ports) (g.P.Ports.queue c.retry.new.ports) c.loop-index.index c.index-places-index.result
          c.retry.new.self within refl c.retry.ensures.tried c.retry.ensures.others c.loop-index.invariant.done;
      count = c.retry.ensures.count ∙ c.loop-index.invariant.count;
      end = refl;
    }
