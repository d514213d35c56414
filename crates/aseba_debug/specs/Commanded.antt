-- The commands of a debugger: what each answers, and the machine and its breakpoints behind it.
use Rattle.std.specs.Prelude.{ℕ, ◌+◌, ◌&&◌, not, Bool, true, false, List, [], if◌then◌else◌}
use Rattle.aseba_vm.specs.State.{State as Machine}
use Rattle.aseba_vm.specs.Tick.{ticked}
use Rattle.aseba_vm.specs.Loaded.{reset_state}
use Rattle.aseba_vm.specs.Control.{stopped}
use Rattle.aseba_vm.specs.Sending.{SendsInside}
use Rattle.aseba_debug.specs.declared.command.Command.{Command}
use Rattle.aseba_debug.specs.declared.command.Command.TheVariants.{Reset, Run, Pause, Step, Stop, State, Set, Clear, ClearAll}
use Rattle.aseba_debug.specs.declared.reply.Reply.{Reply}
use Rattle.aseba_debug.specs.declared.reply.Reply.TheVariants.{Nothing, State as Standing, Stepped, Break}
use Rattle.aseba_debug.specs.Breaks.{is_set, may_stand, with_break, without}

-- bit 0: a handler is active; bit 1: the machine is paused
abbrev pub flags_of : Machine → ℕ
flags_of m = (if m.active then 1 else 0) + (if m.paused then 2 else 0)

-- where a machine stands
abbrev pub standing : Machine → Reply
standing m = Standing m.pc (flags_of m)

-- The tick of a step: the paused flag is lifted for it, and set again behind it.
abbrev pub stepped : Machine → Reply × Machine
stepped m =
    let after = ticked (record m { paused = false }) in
    let behind = record after.1 { paused = true } in
    (Stepped after.0 behind.pc (flags_of behind), behind)

-- only a handler that is paused is stepped
abbrev pub step_reply : Machine → Reply × Machine
step_reply m = if m.active && m.paused then stepped m else (standing m, m)

-- a breakpoint where one may stand, and whether it is there
abbrev pub set_break : ℕ → (code : List ℕ) → List ℕ → Reply × List ℕ
set_break pc code breaks =
    let taken = may_stand pc code breaks in
    (Break pc taken, if taken then with_break pc breaks else breaks)

-- the reply to a command, and the machine and its breakpoints behind it
abbrev pub Done : Type 0
Done = Reply × Machine × List ℕ

-- what is done to the machine alone, and told by where it stands then
abbrev pub moved : Machine → List ℕ → Done
moved m breaks = (standing m, m, breaks)

-- The table of commands.
abbrev pub commanded : Command → Machine → List ℕ → Done
commanded Reset m breaks = moved (reset_state true m) breaks
commanded Run m breaks = moved (record m { paused = false }) breaks
commanded Pause m breaks = moved (record m { paused = true }) breaks
commanded Step m breaks = let done = step_reply m in (done.0, done.1, breaks)
commanded Stop m breaks = moved (stopped m) breaks
commanded State m breaks = moved m breaks
commanded (Set pc) m breaks = let done = set_break pc m.code breaks in (done.0, m, done.1)
commanded (Clear pc) m breaks = (Nothing, m, without pc breaks)
commanded ClearAll m breaks = (Nothing, m, [])

-- a machine that runs and has come to a breakpoint
abbrev pub stops_at : List ℕ → Machine → Bool
stops_at breaks m = m.active && not m.paused && is_set m.pc breaks

-- it is paused there, which is answered
abbrev pub checked : List ℕ → Machine → Bool × Machine
checked breaks m = if stops_at breaks m then (true, record m { paused = true }) else (false, m)

-- an event that a step tells of takes along cells that are there
abbrev pub TellsInside : (cells : ℕ) → Reply → Type 0
TellsInside cells (Stepped tick pc flags) = SendsInside cells tick
TellsInside cells _ = Unit {0}
