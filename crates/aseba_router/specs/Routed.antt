-- What the router does to all ports.
use Rattle.std.specs.Prelude.{◌≡◌, ℕ, ◌+◌, ◌<◌, ◌≤◌, Bool, List, length, Option}
use Rattle.aseba_router.specs.Hub.{Act, joins, says, leaves}
use Rattle.aseba_router.specs.Port.{Port, Steps, Retries}
use Rattle.aseba_router.specs.Queue.{Queue, Counted}
use Rattle.aseba_router.specs.Rows.{port_at}

-- the router: its table, how many items there were, and whether a session hears itself
pub record Table : Type 0 where
  pub ports : List Port
  pub items : ℕ
  pub echo : Bool

-- an item at one port: a push to it came back, or none did
pub record Happens (echo : Bool) (p place : ℕ) (item : Act) (old : Port) (before : Queue) (new : Port) (after : Queue) : Type 0 where
  pub back : Bool
  pub step : Steps echo p place item back old before.list new after.list
  pub counted : Counted back before after

-- an item at all ports of the table; queues past them stay
pub record Routed (item : Act) (old : Table) (before : ℕ → Queue) (new : Table) (after : ℕ → Queue) : Type 0 where
  pub items : new.items ≡ old.items + 1
  pub echo : new.echo ≡ old.echo
  pub count : length new.ports ≡ length old.ports
  pub each : (p : ℕ) → p < length old.ports → Happens old.echo p old.items item (port_at old.ports p) (before p) (port_at new.ports p) (after p)
  pub others : (p : ℕ) → length old.ports ≤ p → after p ≡ before p

-- the port of an item's session
abbrev pub port_of : Act → ℕ
port_of (joins s) = s.port
port_of (says s f) = s.port
port_of (leaves s) = s.port

-- another try at one port
pub record Tries (old : Port) (before : Queue) (new : Port) (after : Queue) : Type 0 where
  pub back : Bool
  pub again : Retries back old before.list new after.list
  pub counted : Counted back before after

-- another try at all ports
pub record Retried (old : Table) (before : ℕ → Queue) (new : Table) (after : ℕ → Queue) : Type 0 where
  pub items : new.items ≡ old.items
  pub echo : new.echo ≡ old.echo
  pub count : length new.ports ≡ length old.ports
  pub each : (p : ℕ) → p < length old.ports → Tries (port_at old.ports p) (before p) (port_at new.ports p) (after p)
  pub others : (p : ℕ) → length old.ports ≤ p → after p ≡ before p

-- no port has had more entries, with the Ends that wait for it, than there were items
abbrev pub IsRoomy : Table → (ℕ → Queue) → Type 0
IsRoomy table queues = (p : ℕ) → p < length table.ports → length (queues p).list + length (port_at table.ports p).waiting ≤ table.items

-- the place of the first push that came back for the last session of a port
abbrev pub full_of : Table → ℕ → Option ℕ
full_of table p = (port_at table.ports p).full
