-- What an arriving event does.
use Rattle.std.specs.Prelude.{ℕ, true, if◌then◌else◌, List, take, ℤ, Option, Some, None}
use Rattle.aseba_vm.specs.declared.arrival.Arrival.{Arrival}
use Rattle.aseba_vm.specs.declared.arrival.Arrival.TheVariants.{NoHandler, Dropped, Killed, Started}
use Rattle.aseba_vm.specs.declared.shape.Shape.{Shape}
use Rattle.aseba_vm.specs.State.{State, ended, named}
use Rattle.aseba_vm.specs.Lists.{overwritten, handler_of}

-- the sender and the arguments, cut at their cells, in the cells that are named for them
abbrev pub told : Shape → ℕ → List ℤ → List ℤ → List ℤ
told shape source args cells = overwritten shape.args_at (take shape.args_len args) (named shape.source source cells)

-- the handler at an address begins
abbrev pub begun : ℕ → ℕ → List ℤ → State → State
begun address source args s = record s { cells = told s.shape source args s.cells; pc = address; active = true }

-- with a handler at this address: a machine that is paused inside a handler drops the event, any other handler is killed by it
abbrev pub arrived_at : Option ℕ → ℕ → List ℤ → State → Arrival × State
arrived_at None source args s = (NoHandler, s)
arrived_at (Some address) source args s =
    if s.active then (if s.paused then (Dropped, s) else (Killed s.pc, begun address source args (ended s))) else (Started, begun address source args s)

unfoldable pub arrived : ℕ → ℕ → List ℤ → State → Arrival × State
arrived event source args s = arrived_at (handler_of event s.code) source args s
