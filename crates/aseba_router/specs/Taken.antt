-- What a turn does to the links and to the middle of the switch.
use Rattle.std.specs.Prelude.{◌≡◌, ℕ, ◌+◌, ◌<◌, ◌≤◌, Bool, false, List, [], ◌∷◌, length, slice_index_or, slice_set, None}
use Rattle.std.specs.List.{flat_map}
use Rattle.aseba_edge.specs.Counts.{Counts}
use Rattle.aseba_edge.specs.Link.{Gave}
use Rattle.aseba_message.specs.Message.{Message}
use Rattle.aseba_message.specs.Frames.{spelling}
use Rattle.aseba_message.specs.Cut.{rest_of}
use Rattle.aseba_router.specs.declared.stage.Stage.{Stage}
use Rattle.aseba_router.specs.declared.stage.Stage.TheVariants.{Away, There, Gone}
use Rattle.aseba_router.specs.declared.turn.Turn.{Turn}
use Rattle.aseba_router.specs.Ends.{Ends, IsOver, WireState, WireWrote, Wrote}
use Rattle.aseba_router.specs.Hub.{Put, frame, end}
use Rattle.aseba_router.specs.Middle.{IsSound}
use Rattle.aseba_router.specs.Turns.{Line, Middle, Switch, Turned}

-- the ends of no link
abbrev pub no_ends : Ends
no_ends = record { input = None; input_mark = None; read_faults = 0; taken = None; output_mark = None; put_faults = 0 }

abbrev pub ends_at : List Ends → ℕ → Ends
ends_at links p = slice_index_or links p no_ends

abbrev pub wire_at : List WireState → ℕ → WireState
wire_at wires p = slice_index_or wires p (record { ends = no_ends; stage = Away; broken = false })

-- the frames among what a port's queue was given
abbrev pub frames_in : List Put → List Message
frames_in [] = []
frames_in (frame f ∷ later) = f ∷ frames_in later
frames_in (end s ∷ later) = frames_in later

-- Why a session has left, which is read no more: its last bytes are no frame, and its link failed or is at its end or a length that no frame has stands there. Until then no read failed.
abbrev pub ReadSoFar : Stage → List ℕ → (before after : Ends) → Type 0
ReadSoFar Away read before after = (read ≡ []) × (rest_of read ≡ []) × (after.read_faults ≡ before.read_faults)
ReadSoFar There read before after = (rest_of read ≡ []) × (after.read_faults ≡ before.read_faults)
ReadSoFar Gone read before after = (failed : Bool) × Counts failed before.read_faults after.read_faults × IsOver failed read after.input

-- what became of a link whose ends were these: its input gave what was read, and its output took the spellings of the frames that were taken for it out of its port's queue, or at a fault the first bytes of them
pub record IsLine (before : Ends) (wire : WireState) (line : Line) : Type 0 where
  pub stage : wire.stage ≡ line.stage
  pub came : Gave before.input line.read wire.ends.input
  pub reads : ReadSoFar line.stage line.read before wire.ends
  pub wrote : Wrote (flat_map spelling (frames_in line.popped)) wire.broken before.taken wire.ends.taken before.put_faults wire.ends.put_faults
  pub input_mark : wire.ends.input_mark ≡ before.input_mark
  pub output_mark : wire.ends.output_mark ≡ before.output_mark

-- what became of all links, of which the first so many have a port
pub record AllLines (places : ℕ) (before : List Ends) (wires : List WireState) (lines : ℕ → Line) : Type 0 where
  pub count : length wires ≡ length before
  pub each : (p : ℕ) → p < length wires → IsLine (ends_at before p) (wire_at wires p) (lines p)
  pub others : (p : ℕ) → places ≤ p → (lines p).stage ≡ Away

abbrev pub switch : Middle → (ℕ → Line) → Switch
switch m lines = record { middle = m; lines = lines }

-- whatever became of the links before, a turn was taken
pub record TookTurn (places : ℕ) (turn : Turn) (old : Middle) (wires : List WireState) (new : Middle) (wires' : List WireState) : Type 0 where
  pub turned : (before : List Ends) (lines : ℕ → Line) → AllLines places before wires lines → (lines' : ℕ → Line) × Turned places turn (switch old lines) (switch new lines') × AllLines places before wires' lines'
  pub sound : (n : ℕ) → places ≤ n → IsSound n old → IsSound n new
  pub few : new.table.items ≤ old.table.items + 1
  pub count : length wires' ≡ length wires

-- an entry was taken by a link
abbrev pub WireTook : Put → WireState → WireState → Type 0
WireTook (frame f) old new = WireWrote f old new
WireTook (end s) old new = new ≡ old

-- the link of a port took an entry
pub record TookAt (p : ℕ) (put : Put) (old new : List WireState) : Type 0 where
  pub wire : WireState
  pub took : WireTook put (wire_at old p) wire
  pub rest : new ≡ slice_set old p wire
