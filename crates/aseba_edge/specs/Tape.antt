-- Bytes that are given in pieces, kept as lengths.
use Rattle.std.specs.Prelude.{◌≡◌, ℕ, ◌+◌, ◌<◌, ◌==◌, Bool, List, [], ◌∷◌, take, drop, if◌then◌else◌, length}
use Rattle.aseba_edge.specs.Link.{Input}

-- how many bytes pieces of these lengths have
abbrev pub bytes_in : List ℕ → ℕ
bytes_in [] = 0
bytes_in (size ∷ later) = size + bytes_in later

-- the pieces of these lengths, one behind the other
abbrev pub pieces_of : List ℕ → List ℕ → List (List ℕ)
pieces_of [] bytes = []
pieces_of (size ∷ later) bytes = take size bytes ∷ pieces_of later (drop size bytes)

-- what is left of a piece, and then the later ones: none of it where nothing is left
abbrev pub pending : ℕ → List ℕ → List ℕ
pending rest later = if rest == 0 then later else rest ∷ later

-- an input that has given pieces of these lengths from its first bytes, and has pieces of those lengths left behind them
abbrev pub input_of : List ℕ → List ℕ → ℕ → List ℕ → Bool → Input (List ℕ)
input_of bytes given at left has_ended =
    record { given = pieces_of given bytes; left = pieces_of left (drop at bytes); has_ended = has_ended }

-- no piece is empty
abbrev pub NoneEmpty : List ℕ → Type 0
NoneEmpty [] = Unit {0}
NoneEmpty (size ∷ later) = (0 < size) × NoneEmpty later

-- the given bytes end here, and with what is left they are all bytes; no piece that is left is empty
pub record IsTape (length_of_bytes : ℕ) (given : List ℕ) (at : ℕ) (left : List ℕ) : Type 0 where
  pub given_so_far : bytes_in given ≡ at
  pub whole : at + bytes_in left ≡ length_of_bytes
  pub not_empty : NoneEmpty left

-- the pieces that have a byte
abbrev pub full : List (List ℕ) → List (List ℕ)
full [] = []
full ([] ∷ later) = full later
full ((byte ∷ bytes) ∷ later) = (byte ∷ bytes) ∷ full later

-- the length of a piece, none where it has no byte
abbrev pub size_of : List ℕ → List ℕ
size_of [] = []
size_of (byte ∷ bytes) = length (byte ∷ bytes) ∷ []

-- these bytes are these pieces, one behind the other, whose lengths are these
pub record Laid (bytes sizes : List ℕ) (pieces : List (List ℕ)) : Type 0 where
  pub pieces_are : pieces_of sizes bytes ≡ pieces
  pub whole : bytes_in sizes ≡ length bytes
  pub not_empty : NoneEmpty sizes
