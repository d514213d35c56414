-- What a recording holds: events of users, each with the time at which it came.
use Rattle.std.specs.Prelude.{◌≡◌, ℕ, ◌<◌, ◌^◌, Bool, true, false, ◌&&◌, nat_le, IsTrue, All, List, [], ◌∷◌, map, Option, Some}
use Rattle.std.specs.List.{AllByRecursion}
use Rattle.aseba_words.specs.declared.limits.TheConstants.{MOST_EVENTS, MOST_EVENT_CELLS}
use Rattle.aseba_text.specs.Names.{are_distinct}
use Rattle.aseba_tree.specs.Inside.{IsUpTo, InsideSized}
use Rattle.aseba_tree.specs.declared.description.Sized.{Sized}
use Rattle.aseba_message.specs.Message.{Message}
use Rattle.aseba_message.specs.Cut.{IsMessage}
use Rattle.aseba_payload.specs.declared.payload.Payload.{Payload}
use Rattle.aseba_payload.specs.declared.payload.Payload.TheVariants.{User}
use Rattle.aseba_payload.specs.Layout.{IsByte}
use Rattle.aseba_payload.specs.Meaning.{payload_of}
use Rattle.aseba_describe.specs.Plain.{PlainSized}
use Rattle.aseba_dump.specs.declared.timed.Timed.{Timed}

abbrev pub is_user : Option Payload → Bool
is_user (Some (User kind words)) = true
is_user _ = false

-- a frame that says an event of a user
abbrev pub is_event : Message → Bool
is_event m = is_user (payload_of m)

abbrev pub IsEvent : Message → Type 0
IsEvent m = IsTrue (is_event m)

-- an event that can stand in a frame, at a time below 2^63
pub record IsEntry (t : Timed) : Type 0 where
  pub time : t.time < 2 ^ 63
  pub frame : IsMessage t.frame
  pub bytes : AllByRecursion IsByte t.frame.payload
  pub event : IsEvent t.frame

-- from a time on, the times never fall
abbrev pub never_fall : ℕ → List Timed → Bool
never_fall time [] = true
never_fall time (t ∷ ts) = nat_le time t.time && never_fall t.time ts

-- what can be recorded: events whose times never fall
pub record AreEntries (timed : List Timed) : Type 0 where
  pub each : AllByRecursion IsEntry timed
  pub order : never_fall 0 timed ≡ true

-- The events whose names a recording may give: as many as a project may have, each by a name of its own.
pub record AreNamed (events : List Sized) : Type 0 where
  pub inside : IsUpTo MOST_EVENTS (InsideSized 0 MOST_EVENT_CELLS) events
  pub plain : All PlainSized events
  pub own : IsTrue (are_distinct (map (λ e. e.name) events))
