use Rattle.std.proofs.Common.{◌≡◌, length, sym, subst, arith}
use Rattle.std.proofs.lemmas.List.{with_items_is}
use Rattle.std.proofs.lemmas.Result.{err_from_is_err_and}
use Rattle.std.specs.Vec.{with_items}
use Rattle.aseba_router.specs.Routed.{IsRoomy, Table}
use Rattle.aseba_router.specs.Rows.{ports_of}
use Rattle.aseba_router.specs.Shown.{act}
use Rattle.aseba_router.proofs.Happening.{room-open, routed-open, kept-open, room-after}
use Rattle.aseba_router.proofs.router.Router.event.Goals as goal

pub happen-requires-clause-room : goal.happen-requires-clause-room
happen-requires-clause-room g c =
    room-open c.self.inside.places.items c.deref_mut.result.now c.self.inside.items c.self.inside.echo c.args.self.now (g.P.Ports.queue c.args.ports.now) c.deref_mut.ensures.value c.self.view_is c.requires.room

pub returns-in_err-happen-clause-unchanged : goal.returns-in_err-happen-clause-unchanged
returns-in_err-happen-clause-unchanged g c =
    let p = err_from_is_err_and c.from_residual.result c.from_residual.ensures.1 in
    let long : length c.happen.new.places ≡ c.self.inside.places.len = omega arith in
    let same = kept-open c.self.inside.echo c.self.inside.items c.self.inside.places.items c.deref_mut.result.now c.happen.new.places (with_items c.self.inside.places c.happen.new.places).items c.args.self.now
    c.deref_mut.ensures.value c.self.view_is (with_items_is c.self.inside.places c.happen.new.places long) c.in_err-happen.ensures.kept.0 in
    rw p.1 (same, c.in_err-happen.ensures.kept.1)

pub returns-in_err-happen-clause-room : goal.returns-in_err-happen-clause-room
returns-in_err-happen-clause-room g c =
    let long : length c.happen.new.places ≡ c.self.inside.places.len = omega arith in
    let same = kept-open c.self.inside.echo c.self.inside.items c.self.inside.places.items c.deref_mut.result.now c.happen.new.places (with_items c.self.inside.places c.happen.new.places).items c.args.self.now
    c.deref_mut.ensures.value c.self.view_is (with_items_is c.self.inside.places c.happen.new.places long) c.in_err-happen.ensures.kept.0 in
    subst (λ (ports : g.row.P.Denot). IsRoomy (record { ports = ports_of (with_items c.self.inside.places c.happen.new.places).items; items = c.self.inside.items; echo = c.self.inside.echo }) (g.P.Ports.queue ports)) (sym c.in_err-happen.ensures.kept.1)
    (subst (λ (t : Table). IsRoomy t (g.P.Ports.queue c.args.ports.now)) (sym same) c.requires.room)

pub returns-clause-routed : goal.returns-clause-routed
returns-clause-routed g c =
    let long : length c.happen.new.places ≡ c.self.inside.places.len = omega arith in
    routed-open (act c.args.item) c.self.inside.echo c.self.inside.items c.self.inside.places.items c.deref_mut.result.now c.happen.new.places (with_items c.self.inside.places c.happen.new.places).items c.args.self.now
    (g.P.Ports.queue c.args.ports.now) (g.P.Ports.queue c.happen.new.ports) c.deref_mut.ensures.value c.self.view_is (with_items_is c.self.inside.places c.happen.new.places long) c.in_ok-happen.ensures.happened

pub returns-clause-room : goal.returns-clause-room
returns-clause-room g c =
    let long : length c.happen.new.places ≡ c.self.inside.places.len = omega arith in
    room-after (act c.args.item) c.args.self.now _ (g.P.Ports.queue c.args.ports.now) (g.P.Ports.queue c.happen.new.ports)
    (routed-open (act c.args.item) c.self.inside.echo c.self.inside.items c.self.inside.places.items c.deref_mut.result.now c.happen.new.places (with_items c.self.inside.places c.happen.new.places).items c.args.self.now
    (g.P.Ports.queue c.args.ports.now) (g.P.Ports.queue c.happen.new.ports) c.deref_mut.ensures.value c.self.view_is (with_items_is c.self.inside.places c.happen.new.places long) c.in_ok-happen.ensures.happened)
    c.requires.room
