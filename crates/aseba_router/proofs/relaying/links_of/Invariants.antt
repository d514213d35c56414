-- The links so far, and those that are left, are all links.
use Rattle.std.proofs.Common.{◌≡◌, ◌++◌, map}
use Rattle.std.specs.Vec.Iter.{into_iter_items}
use Rattle.aseba_router.proofs.relaying.links_of.Given as goal

abbrev pub invariant-loop-wire : goal.invariant-loop-wire
invariant-loop-wire g l =
    map (λ link. (record { input = g.I.LinkIn.contents link.0; input_mark = g.I.LinkIn.mark link.0; read_faults = g.I.LinkIn.faults link.0; taken = g.O.LinkOut.taken link.1; output_mark = g.O.LinkOut.mark link.1; put_faults = g.O.LinkOut.faults link.1 })) l.links ++ map (λ wire. wire.ends) (into_iter_items l.wire-iterator)
    ≡ map (λ wire. wire.ends) l.fn.wires.items
