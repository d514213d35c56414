-- What the router does to a row at a time.
use Rattle.std.specs.Prelude.{◌≡◌, ℕ, ◌+◌, ◌<◌, ◌≤◌, Bool, List, length, None, Some, option_map, if◌then◌else◌}
use Rattle.aseba_message.specs.Message.{Message}
use Rattle.aseba_router.specs.declared.place.Place.{Place}
use Rattle.aseba_router.specs.declared.session.Session.{Session}
use Rattle.aseba_router.specs.Hub.{Act, Put, frame}
use Rattle.aseba_router.specs.Port.{hears, marked, Given}
use Rattle.aseba_router.specs.Queue.{Queue, Counted}
use Rattle.aseba_router.specs.Rows.{Row, row_at}
use Rattle.aseba_router.specs.Routed.{Happens, Tries}

-- a row whose session has its share of a frame, if it hears it
abbrev pub shared : Bool → Session → Message → Row → Row
shared echo sayer f old = record { port = old.port; share = if hears echo sayer old.port.session old.port.full then Some f else None }

-- an entry was pushed behind the Ends that wait, or something came back
pub record Gave (put : Put) (back : Bool) (waiting : List Session) (old : Queue) (waiting' : List Session) (new : Queue) : Type 0 where
  pub given : Given (Some put) back old.list waiting new.list waiting'
  pub counted : Counted back old new

-- a row's share was pushed, if it had one
pub record Hands (back : Bool) (place : ℕ) (old : Row) (before : Queue) (new : Row) (after : Queue) : Type 0 where
  pub session : new.port.session ≡ old.port.session
  pub full : new.port.full ≡ marked place back old.port.full
  pub given : Given (option_map frame old.share) back before.list old.port.waiting after.list new.port.waiting
  pub counted : Counted back before after

-- an item happened to each row
pub record Happened (item : Act) (echo : Bool) (place : ℕ) (old : List Place) (before : ℕ → Queue) (new : List Place) (after : ℕ → Queue) : Type 0 where
  pub count : length new ≡ length old
  pub each : (p : ℕ) → p < length old → Happens echo p place item (row_at old p).port (before p) (row_at new p).port (after p)
  pub others : (p : ℕ) → length old ≤ p → after p ≡ before p

-- each row's share was pushed
pub record AllHanded (place : ℕ) (old : List Place) (before : ℕ → Queue) (new : List Place) (after : ℕ → Queue) : Type 0 where
  pub count : length new ≡ length old
  pub each : (p : ℕ) → p < length old → (back : Bool) × Hands back place (row_at old p) (before p) (row_at new p) (after p)
  pub others : (p : ℕ) → length old ≤ p → after p ≡ before p

-- each row's Ends were tried
pub record AllTried (old : List Place) (before : ℕ → Queue) (new : List Place) (after : ℕ → Queue) : Type 0 where
  pub count : length new ≡ length old
  pub each : (p : ℕ) → p < length old → Tries (row_at old p).port (before p) (row_at new p).port (after p)
  pub others : (p : ℕ) → length old ≤ p → after p ≡ before p

-- each row has room for all that it may be given
abbrev pub HaveRoom : ℕ → List Place → (ℕ → Queue) → Type 0
HaveRoom items places queues = (p : ℕ) → p < length places → length (queues p).list + length (row_at places p).port.waiting ≤ items

-- each row's session has its share of a frame, if it hears it
pub record AllShared (echo : Bool) (sayer : Session) (f : Message) (old new : List Place) : Type 0 where
  pub count : length new ≡ length old
  pub each : (p : ℕ) → p < length old → row_at new p ≡ shared echo sayer f (row_at old p)

-- shares apart, all rows are as they were
pub record KeptPorts (old new : List Place) : Type 0 where
  pub count : length new ≡ length old
  pub each : (p : ℕ) → (row_at new p).port ≡ (row_at old p).port
