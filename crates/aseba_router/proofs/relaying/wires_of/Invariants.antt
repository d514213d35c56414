-- The links so far, and those that are left, are all links.
use Rattle.std.proofs.Common.{◌≡◌, ◌++◌, map}
use Rattle.std.specs.Vec.Iter.{into_iter_items}
use Rattle.aseba_router.specs.Relayed.{fresh}
use Rattle.aseba_router.proofs.relaying.wires_of.Given as goal

abbrev pub invariant-loop-link : goal.invariant-loop-link
invariant-loop-link g l =
    l.wires.items ++ map (λ link. fresh (record { input = g.I.LinkIn.contents link.0; input_mark = g.I.LinkIn.mark link.0; read_faults = g.I.LinkIn.faults link.0; taken = g.O.LinkOut.taken link.1; output_mark = g.O.LinkOut.mark link.1; put_faults = g.O.LinkOut.faults link.1 })) (into_iter_items l.link-iterator)
    ≡ map (λ link. fresh (record { input = g.I.LinkIn.contents link.0; input_mark = g.I.LinkIn.mark link.0; read_faults = g.I.LinkIn.faults link.0; taken = g.O.LinkOut.taken link.1; output_mark = g.O.LinkOut.mark link.1; put_faults = g.O.LinkOut.faults link.1 })) l.fn.links
