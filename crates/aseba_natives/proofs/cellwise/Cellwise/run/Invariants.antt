-- Going on from here gives what going on from the start gives.
use Rattle.std.proofs.Common.{◌≡◌, ◌-◌, slice_index}
use Rattle.aseba_words.specs.Natives.{each}
use Rattle.aseba_natives.specs.Call.{cell, with_cell}
use Rattle.aseba_natives.specs.Operation.{cellwise_value}
use Rattle.aseba_natives.proofs.cellwise.Cellwise.run.Given as goal

abbrev pub invariant-loop-k : goal.invariant-loop-k
invariant-loop-k l =
    each cell with_cell (slice_index l.starts 0) (cellwise_value l.self l.starts) (l.k-end - l.k) l.k l.cells
    ≡ each cell with_cell (slice_index l.starts 0) (cellwise_value l.self l.starts) l.k-end 0 l.initial.cells
