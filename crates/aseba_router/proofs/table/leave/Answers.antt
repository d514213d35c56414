use Rattle.std.proofs.Common.{◌≡◌, ◌<◌, length, arith}
use Rattle.std.proofs.lemmas.Result.{on_ok_weaker, on_err_weaker}
use Rattle.aseba_router.proofs.Happening.{left-index, kept-index}
use Rattle.aseba_router.proofs.table.leave.Goals as goal

pub returns-clause-happened : goal.returns-clause-happened
returns-clause-happened g c =
    let same : c.from.result ≡ c.args.session.port = omega arith in
    on_ok_weaker c.leave.result
    (λ left. left-index c.args.session c.args.at c.args.places.now (g.P.Ports.queue c.args.ports.now) (g.P.Ports.queue c.leave.new.ports) c.from.result c.index-places-from.result c.leave.new.self same c.requires.port
    c.leave.ensures.others left)
    c.leave.ensures.left

pub returns-clause-kept : goal.returns-clause-kept
returns-clause-kept g c =
    let within : c.from.result < length c.args.places.now = omega arith in
    on_err_weaker c.leave.result (λ refused. (kept-index c.args.places.now c.from.result c.index-places-from.result c.leave.new.self within refused.0, refused.1)) c.leave.ensures.refused
