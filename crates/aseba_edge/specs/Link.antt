-- What a link gives, and what it has left to give.
use Rattle.std.specs.Prelude.{◌≡◌, ℕ, ◌<◌, ◌≤◌, Bool, true, false, List, [], ◌∷◌, ◌++◌, length, take, drop, nat_le, if◌then◌else◌, ◌==◌, Option, None, Some, flat_map, option_map}
use Rattle.aseba_edge.specs.Sink.{and_then}
use Rattle.aseba_edge.specs.declared.poll.PollAnswer.{PollAnswer}
use Rattle.aseba_edge.specs.declared.poll.PollAnswer.TheVariants.{Bytes, Later}
use Rattle.aseba_edge.specs.declared.poll.Polled.{Polled}
use Rattle.aseba_edge.specs.declared.poll.Polled.TheVariants.{Piece, NotYet, Ended, Failed}

-- an input as it stands: the answers that it has given, each as it was given, those that it has left, and whether it has answered its end
pub record Input (Answer : Type 0) : Type 0 where
  pub given : List Answer
  pub left : List Answer
  pub has_ended : Bool

-- an input that has given nothing
abbrev pub IsUnread : {Answer : Type 0} → Input Answer → Type 0
IsUnread input = (input.given ≡ []) × (input.has_ended ≡ false)

-- the bytes that an input has given
abbrev pub bytes_given : Input (List ℕ) → List ℕ
bytes_given input = flat_map (λ piece. piece) input.given

-- the same, where it is told
abbrev pub told_bytes : Option (Input (List ℕ)) → Option (List ℕ)
told_bytes contents = option_map bytes_given contents

-- these bytes were given, and no others
pub record Gave (before : Option (Input (List ℕ))) (bytes : List ℕ) (after : Option (Input (List ℕ))) : Type 0 where
  pub bytes_are : told_bytes after ≡ and_then (told_bytes before) bytes

-- whether nothing is left
abbrev pub is_empty : {Answer : Type 0} → List Answer → Bool
is_empty [] = true
is_empty (next ∷ later) = false

-- what is left behind an answer of which there is room for the first bytes: its rest is the next answer
abbrev pub left_behind : ℕ → List ℕ → List (List ℕ) → List (List ℕ)
left_behind room answer later = if nat_le (length answer) room then later else drop room answer ∷ later

-- the bytes that a read gives: as many of the next answer's as there is room for
abbrev pub next_bytes : ℕ → List (List ℕ) → List ℕ
next_bytes room [] = []
next_bytes room (answer ∷ later) = take room answer

-- an input behind a read that had this much room
abbrev pub read_on : ℕ → List (List ℕ) → Input (List ℕ) → Input (List ℕ)
read_on room [] input = record input { has_ended = true }
read_on room (answer ∷ later) input = record input { given = input.given ++ take room answer ∷ []; left = left_behind room answer later }

-- a read without room changes nothing
abbrev pub after_read : ℕ → Input (List ℕ) → Input (List ℕ)
after_read room input = if room == 0 then input else read_on room input.left input

-- the answer of a polled input, as it is given where there is this much room
abbrev pub as_given : ℕ → PollAnswer → PollAnswer
as_given room (Bytes bytes) = Bytes (take room bytes)
as_given room Later = Later

-- what is left behind it
abbrev pub left_behind_poll : ℕ → PollAnswer → List PollAnswer → List PollAnswer
left_behind_poll room (Bytes bytes) later = if nat_le (length bytes) room then later else Bytes (drop room bytes) ∷ later
left_behind_poll room Later later = later

-- an input behind a poll that had this much room
abbrev pub polled_on : ℕ → List PollAnswer → Input PollAnswer → Input PollAnswer
polled_on room [] input = record input { has_ended = true }
polled_on room (answer ∷ later) input = record input { given = input.given ++ as_given room answer ∷ []; left = left_behind_poll room answer later }

-- the first answer of a list, as it is given; none where nothing is left
abbrev pub next_given : ℕ → List PollAnswer → Option PollAnswer
next_given room [] = None
next_given room (answer ∷ later) = Some (as_given room answer)

-- A poll answers what its list says: the next bytes, which stand in the buffer then, or that they aren't there yet, or the end.
abbrev pub IsPolled : Option PollAnswer → Polled → List ℕ → Type 0
IsPolled next (Piece count) buffer = next ≡ Some (Bytes (take count buffer))
IsPolled next NotYet buffer = next ≡ Some Later
IsPolled next Ended buffer = next ≡ None
IsPolled next Failed buffer = Unit {0}

-- an input behind a poll that was answered so: a fault leaves it as it was
abbrev pub after_poll : ℕ → Polled → Input PollAnswer → Input PollAnswer
after_poll room (Piece count) input = polled_on room input.left input
after_poll room NotYet input = polled_on room input.left input
after_poll room Ended input = polled_on room input.left input
after_poll room Failed input = input

-- a piece has at least one byte, and no more than there is room for
abbrev pub IsInRoom : ℕ → Polled → Type 0
IsInRoom room (Piece count) = (0 < count) × (count ≤ room)
IsInRoom room NotYet = Unit {0}
IsInRoom room Ended = Unit {0}
IsInRoom room Failed = Unit {0}

-- the answer that counts as a fault
abbrev pub is_failed : Polled → Bool
is_failed (Piece count) = false
is_failed NotYet = false
is_failed Ended = false
is_failed Failed = true
