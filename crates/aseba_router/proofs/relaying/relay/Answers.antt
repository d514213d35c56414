use Rattle.std.proofs.Common.{◌≡◌, ◌∙◌, map, min, length, refl, sym, ap}
use Rattle.std.proofs.lemmas.List.{length-map, with_items_is}
use Rattle.aseba_router.specs.Ends.{Ends}
use Rattle.aseba_router.specs.Middle.{middle}
use Rattle.aseba_router.specs.Relayed.{fresh}
use Rattle.aseba_router.specs.Shown.{act}
use Rattle.aseba_router.specs.Turns.{untouched}
use Rattle.aseba_router.proofs.AllTurns.{all-relayed, map-both}
use Rattle.aseba_router.proofs.TurnsTaken.{lines-untouched}
use Rattle.aseba_router.proofs.relaying.relay.Goals as goal

pub returns : goal.returns
returns g c =
    let ends_of : g.row.I.Denot × g.row.O.Denot → Ends =
    λ link. record { input = g.I.LinkIn.contents link.0; input_mark = g.I.LinkIn.mark link.0; read_faults = g.I.LinkIn.faults link.0; taken = g.O.LinkOut.taken link.1; output_mark = g.O.LinkOut.mark link.1; put_faults = g.O.LinkOut.faults link.1 } in
    let told : length c.in_ok-wires.wires.items ≡ length (map ends_of c.args.links) =
    ap length c.in_ok-wires.ensures ∙ length-map c.args.links (λ link. fresh (ends_of link)) ∙ sym (length-map c.args.links ends_of) in
    let count_is : c.len-count.result ≡ length (map ends_of c.args.links) = c.len-count.ensures ∙ c.in_ok-wires.wires.ok.0 ∙ told in
    let places_are : c.min-places.result ≡ min (length (map ends_of c.args.links)) c.args.config.now.ports = c.min-places.ensures ∙ ap (λ n. min n c.from.result) count_is ∙ ap (min (length (map ends_of c.args.links))) c.from.ensures in
    let fresh_are : c.deref_mut.result.now ≡ map fresh (map ends_of c.args.links) = c.deref_mut.ensures.value ∙ c.in_ok-wires.ensures ∙ sym (map-both fresh ends_of c.args.links) in
    let took = c.in_ok-take_turns.ensures (map ends_of c.args.links) (λ p. untouched) (lines-untouched c.min-places.result (map ends_of c.args.links) c.deref_mut.result.now fresh_are) in
    let as_long : length c.take_turns.new.wires ≡ c.in_ok-wires.wires.len = took.all.count ∙ sym told ∙ sym c.in_ok-wires.wires.ok.0 in
    let after_are = c.in_ok-links_of.ensures ∙ ap (map (λ w. w.ends)) (with_items_is c.in_ok-wires.wires c.take_turns.new.wires as_long) in
    all-relayed c.args.config.now.ports c.args.config.now.queue _ _ c.args.config.now.echo c.args.turns.now (map ends_of c.args.links) (map ends_of c.in_ok-links_of.field-0) _ c.take_turns.new.wires _ (middle c.take_turns.new.exchange) (map act c.take_turns.new.exchange.routed) c.in_ok-full.full
    places_are count_is fresh_are c.in_ok-exchange.ensures.first c.in_ok-take_turns.ensures refl after_are c.in_ok-full.ensures
