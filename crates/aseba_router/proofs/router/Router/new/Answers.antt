use Rattle.std.proofs.Common.{◌≡◌, ◌∙◌, ◌+◌, List, length, replicate, ap, subst, sym, arith}
use Rattle.std.proofs.lemmas.List.{length_push}
use Rattle.aseba_router.specs.Port.{Port, unused}
use Rattle.aseba_router.specs.Routed.{IsRoomy}
use Rattle.aseba_router.proofs.Made.{ports-more}
use Rattle.aseba_router.proofs.Rooms.{room-first}
use Rattle.aseba_router.proofs.router.Router.new.Goals as goal

pub loop-preserved : goal.loop-preserved
loop-preserved c = record {
  made = ports-more c.loop.places.items c.push.new.self.items c.loop.counter c.new.result c.in_ok-push.ensures.items c.new.ensures c.loop.invariant.made;
  count = ap length c.in_ok-push.ensures.items ∙ length_push c.loop.places.items c.new.result ∙ ap (λ n. n + 1) c.loop.invariant.count;
}

pub invariant_of-result : goal.invariant_of-result
invariant_of-result c = (omega (arith, c.loop.invariant.count, c.ranges.ports), omega arith)

pub returns-clause-made : goal.returns-clause-made
returns-clause-made c =
    let all : c.loop.counter ≡ c.args.ports = omega arith in
    ap (λ (ports : List Port). record { ports = ports; items = 0; echo = c.args.echo }) (c.loop.invariant.made ∙ ap (λ n. replicate n unused) all)

pub returns-clause-room : goal.returns-clause-room
returns-clause-room c =
    λ queues none. subst (λ (ports : List Port). IsRoomy (record { ports = ports; items = 0; echo = c.args.echo }) queues) (sym c.loop.invariant.made)
    (room-first c.loop.counter c.args.echo queues none)
