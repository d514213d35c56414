-- What a node does of its own in a tick, and what it does at each message.
use Rattle.std.specs.Prelude.{ℕ, zero, suc, ◌+◌, ◌==◌, nat_le, Bool, if◌then◌else◌, List, map, length, take, drop, codes, ℤ, Option, None, Some, Result, Ok, Err}
use Rattle.std.specs.Int.{cast_signed, w16}
use Rattle.aseba_message.specs.Message.{Message}
use Rattle.aseba_payload.specs.declared.payload.Payload.{Payload}
use Rattle.aseba_payload.specs.declared.payload.Payload.TheVariants.{User, KilledAt, State, BreakSet, Present, GetDescription, SetBytecode, Reset, Run, Pause, Step, Stop, GetState, SetBreak, ClearBreak, ClearBreaks, GetVariables, SetVariables, GetNodeDescription, ListNodes}
use Rattle.aseba_payload.specs.Meaning.{payload_of}
use Rattle.aseba_vm.specs.declared.tick.Tick.{Tick}
use Rattle.aseba_vm.specs.declared.tick.Tick.TheVariants.{Sent}
use Rattle.aseba_vm.specs.declared.arrival.Arrival.{Arrival}
use Rattle.aseba_vm.specs.declared.arrival.Arrival.TheVariants.{NoHandler, Dropped, Killed, Started}
use Rattle.aseba_vm.specs.State.{State as Machine}
use Rattle.aseba_vm.specs.Tick.{ticked}
use Rattle.aseba_vm.specs.Arrival.{arrived}
use Rattle.aseba_vm.specs.Control.{hold_written}
use Rattle.aseba_vm.specs.Loaded.{loaded}
use Rattle.aseba_debug.specs.declared.command.Command.{Command}
use Rattle.aseba_debug.specs.declared.command.Command.TheVariants as commands
use Rattle.aseba_debug.specs.declared.reply.Reply.{Reply}
use Rattle.aseba_debug.specs.declared.reply.Reply.TheVariants.{Nothing, State as Standing, Stepped, Break}
use Rattle.aseba_debug.specs.Commanded.{commanded, checked}
use Rattle.aseba_node.specs.NodeState.{NodeState}
use Rattle.aseba_node.specs.Saying.{say, say_all}
use Rattle.aseba_node.specs.Told.{version, description_of, words_of, runs_of, state_of, error_at, notice_of}

-- a machine that came to a breakpoint is paused, and says where it stands
abbrev pub stopped_by : Bool × Machine → NodeState → NodeState
stopped_by found n = let after = record n { machine = found.1 } in if found.0 then say (state_of found.1) after else after

abbrev pub stopping : NodeState → NodeState
stopping n = stopped_by (checked n.breaks n.machine) n

-- what a tick sends is said
abbrev pub sending : Tick → NodeState → NodeState
sending (Sent notice) n = say (notice_of n.machine.cells notice) n
sending _ n = n

-- One tick: what it sends is said, and then it may stop at a breakpoint.
abbrev pub tick_done : Tick × Machine → NodeState → NodeState
tick_done done n = stopping (sending done.0 (record n { machine = done.1 }))

unfoldable pub ticked_node : NodeState → NodeState
ticked_node n = tick_done (ticked n.machine) n

-- so many ticks
unfoldable pub ran : ℕ → NodeState → NodeState
ran zero n = n
ran (suc ticks) n = ran ticks (ticked_node n)

-- An event: where it kills a handler, this is said first; where its handler began, it may stop there at a breakpoint.
abbrev pub met : Arrival → NodeState → NodeState
met NoHandler n = n
met Dropped n = n
met (Killed pc) n = stopping (say (KilledAt pc) n)
met Started n = stopping n

abbrev pub cells_of : List ℕ → List ℤ
cells_of words = map (cast_signed w16) words

abbrev pub arrival_done : Arrival × Machine → NodeState → NodeState
arrival_done done n = met done.0 (record n { machine = done.1 })

unfoldable pub heard : (event source : ℕ) → List ℕ → NodeState → NodeState
heard event source words n = arrival_done (arrived event source (cells_of words) n.machine) n

-- its description is said
abbrev pub described : NodeState → NodeState
described n = say_all (description_of n.description) n

-- what is refused is said to be out of range
abbrev pub refused : NodeState → NodeState
refused n = say (error_at n.machine (codes "range")) n

abbrev pub unless_refused : {E : Type 0} → Result (Unit {0}) E → NodeState → NodeState
unless_refused (Ok _) n = n
unless_refused (Err _) n = refused n

abbrev pub taken_or_refused : {E : Type 0} → Result (Unit {0}) E × Machine → NodeState → NodeState
taken_or_refused done n = unless_refused done.0 (record n { machine = done.1 })

-- cells are said, where the machine has all of them
unfoldable pub told_cells : (start len : ℕ) → NodeState → NodeState
told_cells start len n =
    if nat_le (start + len) (length n.machine.cells)
    then say_all (runs_of start (words_of (take len (drop start n.machine.cells)))) n
    else refused n

-- what the debugger replies is said; a step says what its tick sent first
abbrev pub replied : Reply → NodeState → NodeState
replied Nothing n = n
replied (Standing pc flags) n = say (State pc flags) n
replied (Stepped tick pc flags) n = say (State pc flags) (sending tick n)
replied (Break pc taken) n = say (BreakSet pc (if taken then 1 else 0)) n

abbrev pub command_done : Reply × Machine × List ℕ → NodeState → NodeState
command_done done n = replied done.0 (record n { machine = done.1; breaks = done.2 })

unfoldable pub debugged : Command → NodeState → NodeState
debugged command n = command_done (commanded command n.machine n.breaks) n

-- what is for one node is done by that node
abbrev pub for_node : ℕ → NodeState → NodeState → NodeState
for_node node n done = if node == n.id then done else n

-- The table of messages, with the source of each. What other nodes say is nothing to a node.
unfoldable pub received : (source : ℕ) → Payload → NodeState → NodeState
received source (User event words) n = heard event source words n
received source (GetDescription v) n = described n
received source (GetNodeDescription node v) n = for_node node n (described n)
received source (SetBytecode node start words) n = for_node node n (taken_or_refused (loaded start words n.machine) n)
received source (Reset node) n = for_node node n (debugged commands.Reset n)
received source (Run node) n = for_node node n (debugged commands.Run n)
received source (Pause node) n = for_node node n (debugged commands.Pause n)
received source (Step node) n = for_node node n (debugged commands.Step n)
received source (Stop node) n = for_node node n (debugged commands.Stop n)
received source (GetState node) n = for_node node n (debugged commands.State n)
received source (SetBreak node pc) n = for_node node n (debugged (commands.Set pc) n)
received source (ClearBreak node pc) n = for_node node n (debugged (commands.Clear pc) n)
received source (ClearBreaks node) n = for_node node n (debugged commands.ClearAll n)
received source (GetVariables node start len) n = for_node node n (told_cells start len n)
received source (SetVariables node start words) n = for_node node n (taken_or_refused (hold_written start (cells_of words) n.machine) n)
received source (ListNodes v) n = say (Present version) n
received source _ n = n

-- a message without a payload is nothing to a node either
abbrev pub received_if : (source : ℕ) → Option Payload → NodeState → NodeState
received_if source None n = n
received_if source (Some p) n = received source p n

unfoldable pub delivered : Message → NodeState → NodeState
delivered m n = received_if m.source (payload_of m) n
