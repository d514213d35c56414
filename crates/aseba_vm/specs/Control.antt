-- What is done to a machine from outside, beside events: cells are written, and a handler is paused or stopped.
use Rattle.std.specs.Prelude.{ℕ, ◌+◌, nat_le, if◌then◌else◌, false, List, length, map, ℤ, Some, Result, Ok, Err}
use Rattle.aseba_vm.specs.declared.refusals.OutOfCells.{OutOfCells}
use Rattle.aseba_vm.specs.State.{State, ended}
use Rattle.aseba_vm.specs.Lists.{overwritten}

-- values from a cell on: held while a handler is active, else stored
abbrev pub written : ℕ → List ℤ → State → State
written start values s =
    if s.active then record s { held = overwritten start (map Some values) s.held } else record s { cells = overwritten start values s.cells }

-- the same where all of them have a cell
unfoldable pub hold_written : ℕ → List ℤ → State → Result Unit OutOfCells × State
hold_written start values s =
    let end = start + length values in
    if nat_le end s.shape.cells then (Ok tt, written start values s) else (Err (record { end = end; size = s.shape.cells }), s)

-- the handler ends without a notice, and the machine isn't paused
abbrev pub stopped : State → State
stopped s = record (ended s) { paused = false }
