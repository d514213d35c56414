use Rattle.std.proofs.Common.{◌≡◌, ◌^◌, length, arith}
use Rattle.std.proofs.lemmas.List.{with_items_is}
use Rattle.std.specs.Vec.{with_items}
use Rattle.aseba_router.proofs.Happening.{room-open, room-more, retried-open, room-retried}
use Rattle.aseba_router.proofs.router.Router.retry.Goals as goal

pub retry_all-requires-clause-room : goal.retry_all-requires-clause-room
retry_all-requires-clause-room g c =
    let queue = g.P.Ports.queue c.args.ports.now in
    room-more c.self.inside.items (2 ^ 62) c.deref_mut.result.now queue c.self.invariant.1
    (room-open c.self.inside.places.items c.deref_mut.result.now c.self.inside.items c.self.inside.echo c.args.self.now queue c.deref_mut.ensures.value c.self.view_is c.requires.room)

pub returns-clause-retried : goal.returns-clause-retried
returns-clause-retried g c =
    let long : length c.retry_all.new.places ≡ c.self.inside.places.len = omega arith in
    retried-open c.self.inside.echo c.self.inside.items c.self.inside.places.items c.deref_mut.result.now c.retry_all.new.places _ c.args.self.now (g.P.Ports.queue c.args.ports.now) (g.P.Ports.queue c.retry_all.new.ports)
    c.deref_mut.ensures.value c.self.view_is (with_items_is c.self.inside.places c.retry_all.new.places long) c.retry_all.ensures.tried

pub returns-clause-room : goal.returns-clause-room
returns-clause-room g c =
    let long : length c.retry_all.new.places ≡ c.self.inside.places.len = omega arith in
    room-retried c.args.self.now _ (g.P.Ports.queue c.args.ports.now) (g.P.Ports.queue c.retry_all.new.ports)
    (retried-open c.self.inside.echo c.self.inside.items c.self.inside.places.items c.deref_mut.result.now c.retry_all.new.places (with_items c.self.inside.places c.retry_all.new.places).items c.args.self.now
    (g.P.Ports.queue c.args.ports.now) (g.P.Ports.queue c.retry_all.new.ports) c.deref_mut.ensures.value c.self.view_is (with_items_is c.self.inside.places c.retry_all.new.places long) c.retry_all.ensures.tried)
    c.requires.room
