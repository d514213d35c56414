-- Lists in which a run of elements gives way to others, and the table of handlers at the code's front.
use Rattle.std.specs.Prelude.{ℕ, ◌+◌, ◌-◌, ◌==◌, if◌then◌else◌, List, [], ◌∷◌, length, take, Option, Some, None}
use Rattle.std.specs.List.{splice}

-- the new elements in the place of as many, from the start on
abbrev pub overwritten : {A : Type 0} → ℕ → List A → List A → List A
overwritten start new old = splice old start (start + length new) new

-- the address beside the first entry of the event, in a table of events and addresses by turns
abbrev pub address_of : ℕ → List ℕ → Option ℕ
address_of event (entry ∷ address ∷ table) = if entry == event then Some address else address_of event table
address_of event _ = None

-- the address at which an event's handler begins; the first word of the code is the length of the table with itself
abbrev pub handler_of : ℕ → List ℕ → Option ℕ
handler_of event [] = None
handler_of event (size ∷ words) = address_of event (take (size - 1) words)
