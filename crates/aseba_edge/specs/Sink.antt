-- What puts take of what they are given.
use Rattle.std.specs.Prelude.{◌≡◌, ℕ, ◌<◌, List, ◌++◌, length, take, Option, option_map, None, Some, ◌-◌, Result, Ok, Err}
use Rattle.aseba_edge.specs.declared.sink.PutFault.{PutFault}

-- what was taken, where that is told, with these bytes more
abbrev pub and_then : Option (List ℕ) → List ℕ → Option (List ℕ)
and_then taken bytes = option_map (λ before. before ++ bytes) taken

-- the bytes of a piece that a put took: all of it, or as many as the fault says
abbrev pub part_taken : {T : Type 0} → List ℕ → Result T PutFault → List ℕ
part_taken piece (Ok _) = piece
part_taken piece (Err fault) = take fault.taken piece

-- all of a text was taken, in however many pieces
pub record Took (before : Option (List ℕ)) (text : List ℕ) (after : Option (List ℕ)) : Type 0 where
  pub bytes : after ≡ and_then before text

-- as many of a piece's first bytes were taken, and fewer than it has
pub record TookFewer (count : ℕ) (before : Option (List ℕ)) (piece : List ℕ) (after : Option (List ℕ)) : Type 0 where
  pub fewer : count < length piece
  pub bytes : after ≡ and_then before (take count piece)

-- how many bytes were added
abbrev pub grown : Option (List ℕ) → Option (List ℕ) → ℕ
grown None after = 0
grown (Some before) None = 0
grown (Some before) (Some after) = length after - length before

-- the bytes that were added are the first of a text, and nothing else changed
abbrev pub TookFirst : Option (List ℕ) → List ℕ → Option (List ℕ) → Type 0
TookFirst before text after = after ≡ and_then before (take (grown before after) text)
