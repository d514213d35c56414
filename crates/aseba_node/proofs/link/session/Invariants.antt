use Rattle.std.proofs.Common.{◌≡◌, length}
use Rattle.aseba_node.proofs.Turning.{InSession}
use Rattle.aseba_node.proofs.link.session.Given as goal

-- so many turns were done, and no call of the link failed
abbrev pub invariant-loop : goal.invariant-loop
invariant-loop g l = record {
  did : InSession l.fn.node (record { input = g.I.LinkPoll.contents l.fn.input; taken = g.O.LinkOut.taken l.fn.output }) l.counter l.place l.reader l.node
      (record { input = g.I.LinkPoll.contents l.input; taken = g.O.LinkOut.taken l.output });
  reads : g.I.LinkPoll.faults l.input ≡ g.I.LinkPoll.faults l.fn.input;
  writes : g.O.LinkOut.faults l.output ≡ g.O.LinkOut.faults l.fn.output;
  input_mark : g.I.LinkPoll.mark l.input ≡ g.I.LinkPoll.mark l.fn.input;
  output_mark : g.O.LinkOut.mark l.output ≡ g.O.LinkOut.mark l.fn.output;
}
