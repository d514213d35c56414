use Rattle.std.proofs.Common.{ap, sym, subst}
use Rattle.std.proofs.lemmas.Result.{on_ok_weaker}
use Rattle.aseba_router.specs.Handed.{Happened}
use Rattle.aseba_router.specs.Hub.{Act}
use Rattle.aseba_router.specs.Shown.{act}
use Rattle.aseba_router.proofs.table.happen.Goals as goal

pub returns-in-Join-clause-happened : goal.returns-in-Join-clause-happened
returns-in-Join-clause-happened g c =
    subst (λ (x : Act). Happened x c.args.echo c.args.at c.args.places.now (g.P.Ports.queue c.args.ports.now) c.join.new.places (g.P.Ports.queue c.args.ports.now)) (sym (ap act c.in-Join.is))
    (c.join.ensures c.args.echo c.args.at (g.P.Ports.queue c.args.ports.now))

pub returns-in-Leave-clause-happened : goal.returns-in-Leave-clause-happened
returns-in-Leave-clause-happened g c =
    on_ok_weaker c.leave.result
    (λ left. subst (λ (x : Act). Happened x c.args.echo c.args.at c.args.places.now (g.P.Ports.queue c.args.ports.now) c.leave.new.places (g.P.Ports.queue c.leave.new.ports)) (sym (ap act c.in-Leave.is)) (left c.args.echo))
    c.leave.ensures.happened
