-- What a port's sessions get, one behind the other, of all that happens.
use Rattle.std.specs.Prelude.{◌≡◌, ℕ, ◌+◌, Bool, false, ◌&&◌, ◌||◌, ◌==◌, if◌then◌else◌, List, [], ◌∷◌, ◌++◌, length, map, Option, None, Some}
use Rattle.std.specs.List.{flat_map}
use Rattle.aseba_router.specs.declared.session.Session.{Session}
use Rattle.aseba_router.specs.Hub.{Act, joins, says, leaves, Put, frame, end, same, in_after, inside, since, owed}
use Rattle.aseba_router.specs.Port.{Port, unused, Steps, Retries}

-- an item, and whether a push to the port in question came back in its event
pub record Deed : Type 0 where
  pub item : Act
  pub back : Bool

abbrev pub items : List Deed → List Act
items deeds = map (λ d. d.item) deeds

-- the place of the first push that came back for a session, which is one that came back while it was in
abbrev pub refused_from : Session → Bool → ℕ → List Deed → Option ℕ
refused_from s b place [] = None
refused_from s b place (d ∷ later) = if b && d.back then Some place else refused_from s (in_after s b d.item) (place + 1) later

abbrev pub refused : Session → List Deed → Option ℕ
refused s deeds = refused_from s false 0 deeds

-- the sessions of a port, in the order in which they joined
abbrev pub joined : ℕ → List Act → List Session
joined p [] = []
joined p (joins s ∷ later) = if s.port == p then s ∷ joined p later else joined p later
joined p (says s f ∷ later) = joined p later
joined p (leaves s ∷ later) = joined p later

-- what a port is told for a session: the frames that it is owed, and its End once it has left
abbrev pub share : Bool → List Deed → Session → List Put
share echo deeds s = map frame (owed echo s (refused s deeds) (items deeds)) ++ (if inside s (items deeds) then [] else end s ∷ [])

-- what a port is told: its sessions' shares, one behind the other
abbrev pub told : Bool → ℕ → List Deed → List Put
told echo p deeds = flat_map (share echo deeds) (joined p (items deeds))

-- whether a session has joined
abbrev pub came : Session → List Act → Bool
came s [] = false
came s (joins t ∷ later) = same s t || came s later
came s (says t f ∷ later) = came s later
came s (leaves t ∷ later) = came s later

-- a session joins once, and not before each session of its port has left
abbrev pub Fits : List Act → Act → Type 0
Fits before (joins s) = (came s before ≡ false) × ((t : Session) → t.port ≡ s.port → inside t before ≡ false)
Fits before (says s f) = Unit {0}
Fits before (leaves s) = Unit {0}

-- How a port came to stand as it does, and its list: by items, each at its place, and by tries of the Ends that wait, in any order and with any pushes that came back.
pub data Follows (echo : Bool) (p : ℕ) : List Deed → Port → List Put → Type 0 where
  nothing : {deeds : List Deed} {port : Port} {list : List Put} → deeds ≡ [] → port ≡ unused → list ≡ [] → Follows echo p deeds port list
  stepped : {deeds : List Deed} {port : Port} {list : List Put} (before : List Deed) (item : Act) (back : Bool) (old : Port) (list_before : List Put) → Follows echo p before old list_before
      → Fits (items before) item → deeds ≡ before ++ record { item = item; back = back } ∷ [] → Steps echo p (length before) item back old list_before port list → Follows echo p deeds port list
  retried : {deeds : List Deed} {port : Port} {list : List Put} (back : Bool) (old : Port) (list_before : List Put) → Follows echo p deeds old list_before
      → Retries back old list_before port list → Follows echo p deeds port list

-- the same where nothing came back: all that was said since the session joined, and its End once it has left
abbrev pub whole_share : Bool → List Act → Session → List Put
whole_share echo acts s = map frame (since echo s acts) ++ (if inside s acts then [] else end s ∷ [])
