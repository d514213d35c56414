use Rattle.std.proofs.Common.{◌≡◌, ◌∙◌, ap, sym, arith}
use Rattle.aseba_router.specs.Middle.{middle}
use Rattle.aseba_router.specs.Hub.{joins}
use Rattle.aseba_router.specs.declared.session.Session.{Session}
use Rattle.aseba_router.specs.Turns.{admitted}
use Rattle.aseba_router.proofs.Taking.{open-stays, open-opens}
use Rattle.aseba_router.proofs.turning.open.Goals as goal

pub returns-then-not-may_open : goal.returns-then-not-may_open
returns-then-not-may_open g c = open-stays c.args.places c.args.port (middle c.args.exchange.now) c.args.wires.now c.requires (sym c.may_open.ensures ∙ c.if-not-may_open.true)

pub returns : goal.returns
returns g c =
    let same : c.from.result ≡ c.args.port = omega arith in
    open-opens c.args.places c.args.port c.from.result (middle c.args.exchange.now) (middle c.admit.new.self) c.args.wires.now c.index-wires-from.result c.open.new.self c.requires (sym c.may_open.ensures ∙ c.if-not-may_open.false) same
    (c.in_ok-admit.ensures ∙ ap (λ (s : Session). admitted (joins s) (middle c.args.exchange.now)) c.session_of.ensures) c.open.ensures
