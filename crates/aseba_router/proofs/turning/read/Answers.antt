use Rattle.std.proofs.Common.{◌≡◌, ◌∙◌, ap, sym, arith}
use Rattle.aseba_router.specs.Middle.{middle}
use Rattle.aseba_router.specs.Hub.{Act}
use Rattle.aseba_router.specs.Turns.{admitted}
use Rattle.aseba_router.proofs.Taking.{read-stays, read-reads}
use Rattle.aseba_router.proofs.turning.read.Goals as goal

pub returns-then-not-may_read : goal.returns-then-not-may_read
returns-then-not-may_read g c = read-stays c.args.places c.args.port (middle c.args.exchange.now) c.args.wires.now c.requires (sym c.may_read.ensures ∙ c.if-not-may_read.true)

pub returns : goal.returns
returns g c =
    let same : c.from.result ≡ c.args.port = omega arith in
    read-reads c.args.places c.args.port c.from.result (middle c.args.exchange.now) (middle c.admit.new.self) c.args.wires.now c.index-wires-from.result c.hear.new.self c.in_ok-heard.heard c.requires (sym c.may_read.ensures ∙ c.if-not-may_read.false) same
    (c.in_ok-admit.ensures ∙ ap (λ (x : Act). admitted x (middle c.args.exchange.now)) c.in_ok-item_of.ensures) c.in_ok-heard.ensures
