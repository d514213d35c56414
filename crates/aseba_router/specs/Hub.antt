-- What happens to a hub, as one list of items, and what each session is owed of it. Nothing here knows of ports, queues or tables.
use Rattle.std.specs.Prelude.{ℕ, Bool, false, ◌&&◌, ◌||◌, not, ◌==◌, if◌then◌else◌, List, [], ◌∷◌, ◌++◌, take, Option, None, Some}
use Rattle.aseba_message.specs.Message.{Message}
use Rattle.aseba_router.specs.declared.session.Session.{Session}

-- an item: a session joins, says a frame, or leaves
pub data Act : Type 0 where
  joins : Session → Act
  says : Session → Message → Act
  leaves : Session → Act

-- what a port's queue is given: a frame for its session, or the word that nothing follows for a session
pub data Put : Type 0 where
  frame : Message → Put
  end : Session → Put

abbrev pub same : Session → Session → Bool
same s t = (s.port == t.port) && (s.nth == t.nth)

-- the frames that a session says
abbrev pub said : Session → List Act → List Message
said s [] = []
said s (joins t ∷ later) = said s later
said s (says t f ∷ later) = if same s t then f ∷ said s later else said s later
said s (leaves t ∷ later) = said s later

-- whether a session is in behind an item, when it was so before
abbrev pub in_after : Session → Bool → Act → Bool
in_after s b (joins t) = b || same s t
in_after s b (says t f) = b
in_after s b (leaves t) = b && not (same s t)

-- what a session that is in hears of an item: what others say, and with echo what it says itself
abbrev pub heard : Bool → Session → Act → List Message
heard echo s (joins t) = []
heard echo s (says t f) = if echo || not (same s t) then f ∷ [] else []
heard echo s (leaves t) = []

abbrev pub heard_if : Bool → Bool → Session → Act → List Message
heard_if b echo s x = if b then heard echo s x else []

abbrev pub inside_from : Session → Bool → List Act → Bool
inside_from s b [] = b
inside_from s b (x ∷ later) = inside_from s (in_after s b x) later

abbrev pub since_from : Bool → Session → Bool → List Act → List Message
since_from echo s b [] = []
since_from echo s b (x ∷ later) = heard_if b echo s x ++ since_from echo s (in_after s b x) later

-- whether a session is in behind these items
abbrev pub inside : Session → List Act → Bool
inside s items = inside_from s false items

-- what was said since a session joined and before it left
abbrev pub since : Bool → Session → List Act → List Message
since echo s items = since_from echo s false items

-- the items before a place, or all of them where there is none
abbrev pub cut : Option ℕ → List Act → List Act
cut None items = items
cut (Some place) items = take place items

-- what a session is owed: what was said since it joined, before the place of the first push that was refused for it
abbrev pub owed : Bool → Session → Option ℕ → List Act → List Message
owed echo s refused items = since echo s (cut refused items)
