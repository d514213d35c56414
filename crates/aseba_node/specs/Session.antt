-- A node's session on a link: turns, each of which takes one answer of the link.
use Rattle.std.specs.Prelude.{◌≡◌, ℕ, ◌≤◌, ◌<◌, ◌⊎◌, false, true, List, [], ◌∷◌, ◌++◌, length, drop, Option, None, Some, IfSome}
use Rattle.std.specs.List.{flat_map}
use Rattle.aseba_edge.specs.Link.{Input, as_given, left_behind_poll}
use Rattle.aseba_edge.specs.Sink.{Took, TookFirst}
use Rattle.aseba_edge.specs.declared.poll.PollAnswer.{PollAnswer}
use Rattle.aseba_edge.specs.declared.poll.PollAnswer.TheVariants.{Bytes, Later}
use Rattle.aseba_message.specs.Message.{Message}
use Rattle.aseba_message.specs.Frames.{spelling, is_bad}
use Rattle.aseba_message.specs.Cut.{frames_of, IsBadAt, IsGoodStream}
use Rattle.aseba_node.specs.NodeState.{NodeState}
use Rattle.aseba_node.specs.Delivered.{delivered, ran}
use Rattle.aseba_node.specs.declared.link.SessionEnd.{SessionEnd}
use Rattle.aseba_node.specs.declared.link.SessionEnd.TheVariants.{BadFrame, ReadFault, WriteFault, Mem}

-- Turns

-- the bytes of an answer, and of answers in order
abbrev pub bytes_in : PollAnswer → List ℕ
bytes_in (Bytes bytes) = bytes
bytes_in Later = []

abbrev pub bytes_of : List PollAnswer → List ℕ
bytes_of answers = flat_map bytes_in answers

-- the frames that end in a piece of a stream, of which these bytes came before
abbrev pub ended_in : (before piece : List ℕ) → List Message
ended_in before piece = drop (length (frames_of before)) (frames_of (before ++ piece))

-- messages are delivered in order
abbrev pub delivered_all : List Message → NodeState → NodeState
delivered_all [] n = n
delivered_all (m ∷ later) n = delivered_all later (delivered m n)

-- how many ticks are done in a turn
unfoldable pub turn_ticks : ℕ
turn_ticks = 100

-- One turn: the frames that end in the piece are delivered, and then the ticks are done.
abbrev pub turned : (before piece : List ℕ) → NodeState → NodeState
turned before piece n = ran turn_ticks (delivered_all (ended_in before piece) n)

-- what a node has said is taken
abbrev pub quiet : NodeState → NodeState
quiet n = record n { waiting = [] }

-- Turns on these answers, when these bytes came before them: what is said in them, and the node behind them.
abbrev pub turns_from : (before : List ℕ) → List PollAnswer → NodeState → List Message × NodeState
turns_from before [] n = ([], n)
turns_from before (answer ∷ later) n =
    let after = turned before (bytes_in answer) n in
    let others = turns_from (before ++ bytes_in answer) later (quiet after) in
    (after.waiting ++ others.0, others.1)

abbrev pub turns : List PollAnswer → NodeState → List Message × NodeState
turns answers n = turns_from [] answers n

-- the bytes of what is said in them
abbrev pub turns_text : List PollAnswer → NodeState → List ℕ
turns_text answers n = flat_map spelling (turns answers n).0

-- The link

-- the room for one answer
unfoldable pub room : ℕ
room = 4096

-- answers are the first ones of a list, each as there is room for it, and these are left
abbrev pub TakenFrom : List PollAnswer → (before after : List PollAnswer) → Type 0
TakenFrom [] before after = after ≡ before
TakenFrom (answer ∷ later) [] after = ⊥
TakenFrom (answer ∷ later) (next ∷ before) after = (answer ≡ as_given room next) × TakenFrom later (left_behind_poll room next before) after

-- an input has given answers
pub record GaveAnswers (before : Input PollAnswer) (answers : List PollAnswer) (after : Input PollAnswer) : Type 0 where
  pub given : after.given ≡ before.given ++ answers
  pub left : TakenFrom answers before.left after.left

-- the same, where it tells what it gave
abbrev pub Gave : Option (Input PollAnswer) → List PollAnswer → Option (Input PollAnswer) → Type 0
Gave None answers after = after ≡ None
Gave (Some before) answers None = ⊥
Gave (Some before) answers (Some after) = GaveAnswers before answers after

-- it has come to its end
pub record IsAtEnd (input : Input PollAnswer) : Type 0 where
  pub left : input.left ≡ []
  pub said : input.has_ended ≡ true

-- A session

-- what a session has of the outside: an input, and the bytes that an output has taken, where they are told
pub record Ends : Type 0 where
  pub input : Option (Input PollAnswer)
  pub taken : Option (List ℕ)

-- turns were done, in which these answers came, and all that was said was written
pub record DidTurns (n : NodeState) (before : Ends) (answers : List PollAnswer) (after : Ends) : Type 0 where
  pub gave : Gave before.input answers after.input
  pub good : IsGoodStream (bytes_of answers)
  pub wrote : Took before.taken (turns_text answers n) after.taken

-- all turns were done, or the link had ended
pub record DidAll (n : NodeState) (count : ℕ) (before after : Ends) (behind : NodeState) : Type 0 where
  pub answers : List PollAnswer
  pub did : DidTurns n before answers after
  pub few : length answers ≤ count
  pub all : (length answers ≡ count) ⊎ IfSome after.input IsAtEnd
  pub node : behind ≡ (turns answers n).1

-- In the answer behind those of the turns stands the second byte of a length that no frame may have. Nothing of that turn was written.
pub record MetBadFrame (n : NodeState) (count : ℕ) (before after : Ends) (place : ℕ) : Type 0 where
  pub answers : List PollAnswer
  pub last : PollAnswer
  pub gave : Gave before.input (answers ++ last ∷ []) after.input
  pub good : IsGoodStream (bytes_of answers)
  pub bad : IsBadAt (bytes_of (answers ++ last ∷ [])) place
  pub wrote : Took before.taken (turns_text answers n) after.taken
  pub few : length answers < count

-- so many turns at most were done, and then the input failed
pub record DidSome (n : NodeState) (count : ℕ) (before after : Ends) : Type 0 where
  pub answers : List PollAnswer
  pub did : DidTurns n before answers after
  pub few : length answers < count

-- of what is said in the turns on these answers, the first bytes were written
pub record WrotePart (n : NodeState) (count : ℕ) (before after : Ends) : Type 0 where
  pub answers : List PollAnswer
  pub gave : Gave before.input answers after.input
  pub few : length answers ≤ count
  pub wrote : TookFirst before.taken (turns_text answers n) after.taken

abbrev pub EndedBy : NodeState → ℕ → (before after : Ends) → SessionEnd → Type 0
EndedBy n count before after (BadFrame place) = MetBadFrame n count before after place
EndedBy n count before after ReadFault = DidSome n count before after
EndedBy n count before after WriteFault = WrotePart n count before after
EndedBy n count before after Mem = WrotePart n count before after
