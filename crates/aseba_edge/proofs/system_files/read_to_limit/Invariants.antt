use Rattle.std.proofs.Common.{◌≤◌, vec_len}
use Rattle.std.specs.Io.KnownBytes.{Consumes}
use Rattle.aseba_edge.proofs.system_files.read_to_limit.Given as goal

-- what was read is what the input gave, and it is within the limit
abbrev pub invariant-loop : goal.invariant-loop
invariant-loop g l = record {
  within : vec_len l.bytes ≤ l.limit;
  gave : Consumes (g.I.Read.remaining l.fn.input) (g.I.Read.remaining l.input) l.bytes.items;
}
