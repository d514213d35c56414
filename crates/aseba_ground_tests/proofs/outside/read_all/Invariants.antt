use Rattle.std.proofs.Common.{◌≡◌}
use Rattle.aseba_edge.specs.Link.{Gave}
use Rattle.aseba_ground_tests.proofs.outside.read_all.Given as goal

-- what was kept is what the input gave, and it hasn't failed
abbrev pub invariant-loop : goal.invariant-loop
invariant-loop g l = record {
  gave : Gave (g.I.LinkIn.contents l.fn.input) l.bytes.items (g.I.LinkIn.contents l.input);
  count : g.I.LinkIn.faults l.input ≡ g.I.LinkIn.faults l.fn.input;
}
