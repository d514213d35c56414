use Rattle.std.proofs.Common.{◌≡◌, arith}
use Rattle.aseba_router.proofs.Happening.{joined-index}
use Rattle.aseba_router.proofs.table.join.Goals as goal

pub returns : goal.returns
returns c =
    let same : c.from.result ≡ c.args.session.port = omega arith in
    joined-index c.args.session c.args.places.now c.from.result c.index-places-from.result c.join.new.self same c.requires c.join.ensures
