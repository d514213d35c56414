use Rattle.std.specs.Io.KnownBytes.{Keeps}
use Rattle.aseba_edge.proofs.reading.read_once.Given as goal

-- nothing was given so far
abbrev pub invariant-loop : goal.invariant-loop
invariant-loop g l = Keeps (g.I.Read.remaining l.fn.input) (g.I.Read.remaining l.input)
