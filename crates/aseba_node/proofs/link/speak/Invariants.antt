use Rattle.std.proofs.Common.{◌≡◌, length}
use Rattle.aseba_node.proofs.Speaking.{Speaking}
use Rattle.aseba_node.proofs.link.speak.Given as goal

-- the oldest frames were written, and no put failed
abbrev pub invariant-loop-frame : goal.invariant-loop-frame
invariant-loop-frame g l = record {
  spoke : Speaking l.fn.node (g.O.LinkOut.taken l.fn.output) l.node (g.O.LinkOut.taken l.output);
  faults : g.O.LinkOut.faults l.output ≡ g.O.LinkOut.faults l.fn.output;
  mark : g.O.LinkOut.mark l.output ≡ g.O.LinkOut.mark l.fn.output;
}

abbrev pub decreases-loop-frame : goal.decreases-loop-frame
decreases-loop-frame g l = length l.node.waiting
