-- What the switch on one thread promises of all its turns.
use Rattle.std.specs.Prelude.{◌≡◌, ℕ, ◌<◌, ◌≤◌, Bool, false, if◌then◌else◌, nat_lt, List, ◌++◌, length, map, min, slice_index_or, Option, None}
use Rattle.aseba_router.specs.declared.stage.Stage.TheVariants.{Away}
use Rattle.aseba_router.specs.Routed.{Table, full_of}
use Rattle.aseba_router.specs.declared.turn.Turn.{Turn}
use Rattle.aseba_router.specs.Ends.{Ends, WireState}
use Rattle.aseba_router.specs.Hub.{Act, Put, owed}
use Rattle.aseba_router.specs.Memory.{queue_at}
use Rattle.aseba_router.specs.Rows.{port_at}
use Rattle.aseba_router.specs.Taken.{AllLines, frames_in, switch}
use Rattle.aseba_router.specs.Told.{Deed, Follows, items, refused}
use Rattle.aseba_router.specs.Turns.{Line, Middle, Ran, Switch, at_first, session_of, untouched}

-- turns were taken, from a switch to which nothing had happened: they ran, and this became of the links
pub record TookTurns (places : ℕ) (start : Switch) (before : List Ends) (turns : List Turn) (now : Middle) (wires : List WireState) : Type 0 where
  pub lines : ℕ → Line
  pub ran : Ran places start turns (switch now lines)
  pub all : AllLines places before wires lines

-- a link to which nothing happened
abbrev pub fresh : Ends → WireState
fresh ends = record { ends = ends; stage = Away; broken = false }

-- for each link the place of the first push that came back for its session: none where it has no port
pub record AllFull (table : Table) (places count : ℕ) (full : List (Option ℕ)) : Type 0 where
  pub count_is : length full ≡ count
  pub each : (p : ℕ) → p < count → slice_index_or full p None ≡ (if nat_lt p places then full_of table p else None)

-- What the session of a link got. Its port's row, and what was taken out of its queue and then what is left there, follow from the items that were routed, each with a push that came back in its event or none. The row tells the place of the first of them that came
-- back for the session. The frames that were taken, and then those that are left in the queue, are the ones that it is owed.
pub record Served (echo : Bool) (p : ℕ) (m : Middle) (popped : List Put) : Type 0 where
  pub deeds : List Deed
  pub routed : items deeds ≡ m.routed
  pub follows : Follows echo p deeds (port_at m.table.ports p) (popped ++ (queue_at m.queues p).list)
  pub first : full_of m.table p ≡ refused (session_of p) deeds
  pub got : frames_in popped ++ frames_in (queue_at m.queues p).list ≡ owed echo (session_of p) (full_of m.table p) m.routed

-- The turns ran: the items are those that were routed, and this became of the links. Each session got what it is owed, as far as entries were taken for it, and links without a port weren't touched.
pub record Relayed (ports queue : ℕ) (echo : Bool) (turns : List Turn) (before after : List Ends) (items : List Act) (full : List (Option ℕ)) : Type 0 where
  pub middle : Middle
  pub wires : List WireState
  pub took : TookTurns (min (length before) ports) (at_first ports queue echo) before turns middle wires
  pub items_are : items ≡ middle.routed
  pub links : after ≡ map (λ w. w.ends) wires
  pub full_are : AllFull middle.table (min (length before) ports) (length before) full
  pub served : (p : ℕ) → p < min (length before) ports → Served echo p middle (took.lines p).popped
  pub past : (p : ℕ) → min (length before) ports ≤ p → took.lines p ≡ untouched
