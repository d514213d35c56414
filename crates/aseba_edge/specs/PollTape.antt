-- Bytes that are given in pieces to one who polls, kept as turns.
use Rattle.std.specs.Prelude.{◌≡◌, ℕ, ◌+◌, ◌<◌, ◌==◌, Bool, List, [], ◌∷◌, length, take, drop, if◌then◌else◌}
use Rattle.aseba_edge.specs.declared.poll.PollAnswer.{PollAnswer}
use Rattle.aseba_edge.specs.declared.poll.PollAnswer.TheVariants.{Bytes, Later}
use Rattle.aseba_edge.specs.declared.turn.Turn.{Turn}
use Rattle.aseba_edge.specs.declared.turn.Turn.TheVariants.{Piece, Wait}
use Rattle.aseba_edge.specs.Link.{Input}

-- how many bytes turns have
abbrev pub bytes_in : List Turn → ℕ
bytes_in [] = 0
bytes_in (Piece size ∷ later) = size + bytes_in later
bytes_in (Wait ∷ later) = bytes_in later

-- how many answers turns can be at most, where a piece may be given a byte at a time
abbrev pub most_answers : List Turn → ℕ
most_answers [] = 0
most_answers (Piece size ∷ later) = size + most_answers later
most_answers (Wait ∷ later) = 1 + most_answers later

-- the answers of turns, whose pieces lie one behind the other
abbrev pub answers_of : List Turn → List ℕ → List PollAnswer
answers_of [] bytes = []
answers_of (Piece size ∷ later) bytes = Bytes (take size bytes) ∷ answers_of later (drop size bytes)
answers_of (Wait ∷ later) bytes = Later ∷ answers_of later bytes

-- what is left of a piece, and then the later turns: none of it where nothing is left
abbrev pub pending : ℕ → List Turn → List Turn
pending rest later = if rest == 0 then later else Piece rest ∷ later

-- an input that has given these turns from its first bytes, and has those left behind them
abbrev pub input_of : List ℕ → List Turn → ℕ → List Turn → Bool → Input PollAnswer
input_of bytes given at left has_ended =
    record { given = answers_of given bytes; left = answers_of left (drop at bytes); has_ended = has_ended }

-- no piece is empty
abbrev pub NoneEmpty : List Turn → Type 0
NoneEmpty [] = Unit {0}
NoneEmpty (Piece size ∷ later) = (0 < size) × NoneEmpty later
NoneEmpty (Wait ∷ later) = NoneEmpty later

-- the given bytes end here, and with what is left they are all bytes; no piece that is left is empty
pub record IsTape (length_of_bytes : ℕ) (given : List Turn) (at : ℕ) (left : List Turn) : Type 0 where
  pub given_so_far : bytes_in given ≡ at
  pub whole : at + bytes_in left ≡ length_of_bytes
  pub not_empty : NoneEmpty left

-- the answers without pieces that have no byte
abbrev pub full : List PollAnswer → List PollAnswer
full [] = []
full (Bytes [] ∷ later) = full later
full (Bytes (byte ∷ bytes) ∷ later) = Bytes (byte ∷ bytes) ∷ full later
full (Later ∷ later) = Later ∷ full later

-- the turn of an answer, none where it has no byte, and its bytes
abbrev pub turn_of : PollAnswer → List Turn
turn_of (Bytes []) = []
turn_of (Bytes (byte ∷ bytes)) = Piece (length (byte ∷ bytes)) ∷ []
turn_of Later = Wait ∷ []

abbrev pub bytes_of : PollAnswer → List ℕ
bytes_of (Bytes bytes) = bytes
bytes_of Later = []

-- these bytes are these answers, one behind the other, whose turns are these
pub record Laid (bytes : List ℕ) (turns : List Turn) (answers : List PollAnswer) : Type 0 where
  pub answers_are : answers_of turns bytes ≡ answers
  pub whole : bytes_in turns ≡ length bytes
  pub not_empty : NoneEmpty turns
