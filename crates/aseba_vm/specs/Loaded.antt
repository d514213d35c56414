-- A machine as it is made, how code comes into it, and how it begins anew.
use Rattle.std.specs.Prelude.{ℕ, ◌+◌, nat_le, if◌then◌else◌, Bool, true, false, List, [], length, replicate, ℤ, pos, Option, Some, None, Result, Ok, Err}
use Rattle.aseba_vm.specs.declared.shape.Shape.{Shape}
use Rattle.aseba_vm.specs.declared.refusals.OutOfCode.{OutOfCode}
use Rattle.aseba_vm.specs.State.{State, named, none_held}
use Rattle.aseba_vm.specs.Lists.{overwritten, handler_of}

-- all cells 0 but the id's
abbrev pub fresh_cells : Shape → ℕ → List ℤ
fresh_cells shape id = named shape.id id (replicate shape.cells (pos 0))

-- without code, idle and not paused
unfoldable pub made : Shape → ℕ → State
made shape id = record {
  shape = shape;
  id = id;
  code = replicate shape.code 0;
  cells = fresh_cells shape id;
  stack = [];
  pc = 0;
  active = false;
  paused = false;
  held = replicate shape.cells None;
}

-- words into the code from a place on, where they all fit
unfoldable pub loaded : ℕ → List ℕ → State → Result Unit OutOfCode × State
loaded start words s =
    let end = start + length words in
    if nat_le end s.shape.code
    then (Ok tt, record s { code = overwritten start words s.code })
    else (Err (record { end = end; size = s.shape.code }), s)

-- the number of the event that begins the init code
abbrev pub init_event : ℕ
init_event = 65535

-- the init code begins, where there is one
abbrev pub started : Option ℕ → State → State
started None s = record s { pc = 0; active = false }
started (Some address) s = record s { pc = address; active = true }

-- nothing is held, on the stack or in a cell but the id; the code stays
unfoldable pub reset_state : Bool → State → State
reset_state paused s =
    started (handler_of init_event s.code) (record s { cells = fresh_cells s.shape s.id; stack = []; paused = paused; held = none_held s.held })
