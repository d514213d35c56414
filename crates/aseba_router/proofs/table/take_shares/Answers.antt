use Rattle.std.proofs.Common.{◌<◌, length, refl, arith}
use Rattle.std.specs.Arc.{arc_value}
use Rattle.aseba_router.proofs.Loops.{share-more, kept-then}
use Rattle.aseba_router.proofs.table.take_shares.Goals as goal

pub returns-in_err-take_share-clause-kept : goal.returns-in_err-take_share-clause-kept
returns-in_err-take_share-clause-kept c =
    let within : c.loop-index.index < length c.loop-index.places = omega arith in
    kept-then c.args.echo c.args.sayer (arc_value c.args.frame.now) c.args.places.now c.loop-index.places _ c.loop-index.index c.index-places-index.result c.take_share.new.self within refl
    c.take_share.ensures.port c.loop-index.invariant

pub loop-index-preserved : goal.loop-index-preserved
loop-index-preserved c =
    let within : c.loop-index.index < length c.loop-index.places = omega arith in
    share-more c.args.echo c.args.sayer (arc_value c.args.frame.now) c.args.places.now c.loop-index.places _ c.loop-index.index c.index-places-index.result c.take_share.new.self within refl
    c.in_ok-take_share.ensures.shared c.loop-index.invariant
