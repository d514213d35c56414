use Rattle.aseba_check.specs.Looked.{looked}
use Rattle.aseba_check.specs.Cycles.{rank_by}
use Rattle.aseba_check.proofs.CycleLaws.{ranked-more}
use Rattle.aseba_check.proofs.recursion.descending.Goals as goal

pub loop-place-preserved : goal.loop-place-preserved
loop-place-preserved c =
    ranked-more (rank_by (looked c.args.ranks.now)) c.args.calls.now c.loop-place.place c.index-calls-place.result c.loop-place-test.true c.index-calls-place.is c.loop-place.invariant (c.goes_down.ensures.0 c.if-not-goes_down.false)
