-- What the parts of a session do.
use Rattle.std.specs.Prelude.{◌≡◌, ℕ, ◌+◌, ◌≤◌, Bool, true, false, List, [], ◌∷◌, ◌++◌, length, take, Option, None, Some, IfSome, Result, Ok, Err}
use Rattle.std.specs.List.{flat_map}
use Rattle.aseba_edge.specs.Link.{Input}
use Rattle.aseba_edge.specs.Sink.{Took, TookFirst}
use Rattle.aseba_edge.specs.declared.poll.PollAnswer.{PollAnswer}
use Rattle.aseba_message.specs.Frames.{spelling, is_bad}
use Rattle.aseba_message.specs.Cut.{IsBadAt, StandsAt}
use Rattle.aseba_node.specs.NodeState.{NodeState}
use Rattle.aseba_node.specs.Session.{Gave, IsAtEnd, bytes_in, quiet, room, turned}
use Rattle.aseba_node.specs.declared.link.SessionEnd.{SessionEnd}
use Rattle.aseba_node.specs.declared.link.SessionEnd.TheVariants.{BadFrame, ReadFault, WriteFault, Mem}

-- the end that tells of a failed poll, and the one that tells of a failed put
abbrev pub is_read_fault : {T : Type 0} → Result T SessionEnd → Bool
is_read_fault (Err ReadFault) = true
is_read_fault _ = false

abbrev pub is_write_fault : {T : Type 0} → Result T SessionEnd → Bool
is_write_fault (Err WriteFault) = true
is_write_fault _ = false

-- a reader has taken these bytes, which are so many, and no length in them is bad
pub record Behind (bytes : List ℕ) (place : ℕ) (held : List ℕ) : Type 0 where
  pub stands : StandsAt bytes held
  pub good : is_bad held ≡ false
  pub many : length bytes ≡ place

-- an answer came, whose bytes are the first of a buffer
pub record CameIn (before : Option (Input PollAnswer)) (count : ℕ) (buffer : List ℕ) (after : Option (Input PollAnswer)) : Type 0 where
  pub answer : PollAnswer
  pub bytes : bytes_in answer ≡ take count buffer
  pub gave : Gave before (answer ∷ []) after

-- none came any more
pub record CameToEnd (before after : Option (Input PollAnswer)) : Type 0 where
  pub gave : Gave before [] after
  pub ended : IfSome after IsAtEnd

-- what came of a poll
abbrev pub Polls : (before : Option (Input PollAnswer)) → Result (Option ℕ) SessionEnd → (buffer : List ℕ) → (after : Option (Input PollAnswer)) → Type 0
Polls before (Ok (Some count)) buffer after = (count ≤ room) × CameIn before count buffer after
Polls before (Ok None) buffer after = CameToEnd before after
Polls before (Err end) buffer after = (end ≡ ReadFault) × (after ≡ before)

-- why the hearing of a stream ended early
abbrev pub HeardBad : List ℕ → SessionEnd → Type 0
HeardBad bytes (BadFrame place) = IsBadAt bytes place
HeardBad bytes ReadFault = ⊥
HeardBad bytes WriteFault = ⊥
HeardBad bytes Mem = Unit {0}

-- why the speaking of a node ended early
abbrev pub IsUnspoken : SessionEnd → Type 0
IsUnspoken (BadFrame place) = ⊥
IsUnspoken ReadFault = ⊥
IsUnspoken WriteFault = Unit {0}
IsUnspoken Mem = Unit {0}

-- what a node says in a turn
abbrev pub turn_text : NodeState → (before piece : List ℕ) → List ℕ
turn_text n before piece = flat_map spelling (turned before piece n).waiting

-- a turn was done
pub record TurnDone (n : NodeState) (before piece : List ℕ) (place : ℕ) (taken : Option (List ℕ)) (held : List ℕ) (behind : NodeState) (after : Option (List ℕ)) : Type 0 where
  pub reader : Behind (before ++ piece) (place + length piece) held
  pub node : behind ≡ quiet (turned before piece n)
  pub wrote : Took taken (turn_text n before piece) after

-- why a turn ended early, and what was written in it
abbrev pub TurnEnded : NodeState → (before piece : List ℕ) → (taken : Option (List ℕ)) → SessionEnd → (after : Option (List ℕ)) → Type 0
TurnEnded n before piece taken (BadFrame place) after = IsBadAt (before ++ piece) place × (after ≡ taken)
TurnEnded n before piece taken ReadFault after = ⊥
TurnEnded n before piece taken WriteFault after = TookFirst taken (turn_text n before piece) after
TurnEnded n before piece taken Mem after = TookFirst taken (turn_text n before piece) after
