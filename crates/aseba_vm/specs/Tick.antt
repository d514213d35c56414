-- One tick of a machine, on every state and every word.
use Rattle.std.specs.Prelude.{true, if◌then◌else◌, slice_get, Result, Ok, Err}
use Rattle.aseba_vm.specs.declared.tick.Tick.{Tick}
use Rattle.aseba_vm.specs.declared.tick.Tick.TheVariants.{Idle, Paused, Sent}
use Rattle.aseba_vm.specs.declared.tick.Notice.{Notice}
use Rattle.aseba_vm.specs.declared.tick.NodeFault.TheVariants.{Code}
use Rattle.aseba_vm.specs.State.{State, ended}
use Rattle.aseba_vm.specs.Instructions.{opcode_of}
use Rattle.aseba_vm.specs.Outcome.{Outcome, faulting, given}
use Rattle.aseba_vm.specs.Rows.{row}

-- a notice ends the handler and sets paused
abbrev pub settled : Result Tick Notice → State → Tick × State
settled (Ok tick) s = (tick, s)
settled (Err notice) s = (Sent notice, record (ended s) { paused = true })

-- the instruction at the counter
abbrev pub stepped : State → Outcome Tick
stepped s = given (slice_get s.code s.pc) (faulting Code s) (λ word. row (opcode_of word) word s)

-- nothing where the machine is idle or paused, else one instruction
unfoldable pub ticked : State → Tick × State
ticked s =
    if s.active then (if s.paused then (Paused, s) else (let outcome = stepped s in settled outcome.0 outcome.1)) else (Idle, s)
