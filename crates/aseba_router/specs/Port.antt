-- What an item does to one port: to its row in the router's table, and to the list of what was pushed to it.
use Rattle.std.specs.Prelude.{◌≡◌, ℕ, ◌<◌, ◌≤◌, Bool, true, false, ◌&&◌, ◌||◌, not, ◌==◌, if◌then◌else◌, List, [], ◌∷◌, ◌++◌, length, map, Option, None, Some, MatchBool}
use Rattle.aseba_router.specs.declared.session.Session.{Session}
use Rattle.aseba_router.specs.Hub.{Act, joins, says, leaves, Put, frame, end, same}

-- a row of the table: the session that is in, the sessions whose Ends wait, and the place of the first push that came back for the last session
pub record Port : Type 0 where
  pub session : Option Session
  pub waiting : List Session
  pub full : Option ℕ

-- a port that no session has held
abbrev pub unused : Port
unused = record { session = None; waiting = []; full = None }

-- whether a port's session is this one
abbrev pub is_session : Session → Option Session → Bool
is_session s None = false
is_session s (Some t) = same t s

-- the session of port p behind an item
abbrev pub session_after : ℕ → Act → Option Session → Option Session
session_after p (joins s) now = if s.port == p then Some s else now
session_after p (says s f) now = now
session_after p (leaves s) now = if (s.port == p) && is_session s now then None else now

-- whether a port hears a session: its own session is in and isn't dropped, and is another one, or there is echo
abbrev pub hears : Bool → Session → Option Session → Option ℕ → Bool
hears echo s None full = false
hears echo s (Some t) None = echo || not (same t s)
hears echo s (Some t) (Some place) = false

-- the entry that port p is to get by an item: a frame for a session that hears it, and an End for its session that leaves
abbrev pub asks : Bool → ℕ → Port → Act → Option Put
asks echo p port (joins s) = None
asks echo p port (says s f) = if hears echo s port.session port.full then Some (frame f) else None
asks echo p port (leaves s) = if (s.port == p) && is_session s port.session then Some (end s) else None

-- the first place at which a push came back
abbrev pub marked : ℕ → Bool → Option ℕ → Option ℕ
marked place false full = full
marked place true None = Some place
marked place true (Some first) = Some first

-- A session is dropped at the item by which a push to its port came back. What is known of that goes with the port's next session.
abbrev pub full_after : ℕ → ℕ → Act → Bool → Option ℕ → Option ℕ
full_after p place (joins s) back full = if s.port == p then None else full
full_after p place (says s f) back full = marked place back full
full_after p place (leaves s) back full = marked place back full

abbrev pub ends : List Session → List Put
ends waiting = map end waiting

-- what waits on of an entry that came back: a frame is lost
abbrev pub kept : Put → List Put
kept (frame f) = []
kept (end s) = end s ∷ []

-- an End that came back waits
abbrev pub Waits : Put → List Session → Type 0
Waits (frame f) waiting = Unit {0}
Waits (end s) waiting = 0 < length waiting

-- Before a push the Ends that wait are pushed, in order. Where nothing came back, all of them and then the entry are in the list, and nothing waits. Where something came
-- back, nothing behind it was pushed: the list and then what waits are as before, and an End that was to be pushed waits behind the others.
abbrev pub Pushed : Put → Bool → List Put → List Session → List Put → List Session → Type 0
Pushed put false list waiting list' waiting' = (list' ≡ list ++ ends waiting ++ put ∷ []) × (waiting' ≡ [])
Pushed put true list waiting list' waiting' = (list' ++ ends waiting' ≡ list ++ ends waiting ++ kept put) × (length list ≤ length list') × Waits put waiting'

-- without an entry nothing is pushed
abbrev pub Given : Option Put → Bool → List Put → List Session → List Put → List Session → Type 0
Given None back list waiting list' waiting' = (back ≡ false) × (list' ≡ list) × (waiting' ≡ waiting)
Given (Some put) back list waiting list' waiting' = Pushed put back list waiting list' waiting'

-- what an item at a place does to port p, where a push came back or none did
pub record Steps (echo : Bool) (p place : ℕ) (item : Act) (back : Bool) (old : Port) (list : List Put) (new : Port) (list' : List Put) : Type 0 where
  pub session : new.session ≡ session_after p item old.session
  pub full : new.full ≡ full_after p place item back old.full
  pub given : Given (asks echo p old item) back list old.waiting list' new.waiting

-- What another try of the waiting Ends does to a port: they are pushed in order, up to the first that comes back.
pub record Retries (back : Bool) (old : Port) (list : List Put) (new : Port) (list' : List Put) : Type 0 where
  pub session : new.session ≡ old.session
  pub full : new.full ≡ old.full
  pub given : list' ++ ends new.waiting ≡ list ++ ends old.waiting
  pub grew : length list ≤ length list'
  pub left : MatchBool back (0 < length new.waiting) (new.waiting ≡ [])
