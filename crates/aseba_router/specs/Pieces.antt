-- A frame that is being read, piece by piece.
use Rattle.std.specs.Prelude.{◌≡◌, ℕ, ◌<◌, Bool, true, false, List, [], ◌++◌, take, Option, None, Some, IfSome, MatchBool}
use Rattle.aseba_edge.specs.Counts.{Counts}
use Rattle.aseba_edge.specs.Link.{Input, Gave}
use Rattle.aseba_message.specs.Frames.{is_bad, is_frame, message_of}
use Rattle.aseba_message.specs.Reader.{begun_len}
use Rattle.aseba_message.specs.Cut.{StandsAt, frames_of}
use Rattle.aseba_router.specs.Ends.{IsAtEnd, IsOneFrame, IsOver}
use Rattle.aseba_router.specs.declared.step.Step.{Step}
use Rattle.aseba_router.specs.declared.step.Step.TheVariants.{More, Whole, Over}

-- what a read gave: the bytes in the front of a buffer, or none where the link failed or is at its end
abbrev pub CameBy : Option ℕ → List ℕ → Bool → Option (Input (List ℕ)) → Option (Input (List ℕ)) → Type 0
CameBy (Some count) buffer failed before after = (failed ≡ false) × Gave before (take count buffer) after
CameBy None buffer failed before after = Gave before [] after × MatchBool failed (Unit {0}) (IfSome after IsAtEnd)

pub record Came (count : Option ℕ) (buffer : List ℕ) (before after : Option (Input (List ℕ))) (faults faults' : ℕ) : Type 0 where
  pub failed : Bool
  pub counts : Counts failed faults faults'
  pub came : CameBy count buffer failed before after

-- A frame has begun, or is to begin: these bytes came, none of them ended a frame, and a reader holds them.
pub record IsBegun (bytes held : List ℕ) : Type 0 where
  pub stands : StandsAt bytes held
  pub frames : frames_of bytes ≡ []
  pub good : is_bad held ≡ false

-- what a piece more did, when all the bytes are these
abbrev pub Stepped : Step → Bool → List ℕ → (held held' : List ℕ) → Option (Input (List ℕ)) → Type 0
Stepped More failed bytes held held' input = (failed ≡ false) × IsBegun bytes held' × (begun_len held < begun_len held') × (begun_len held' < 1030)
Stepped Whole failed bytes held held' input = (failed ≡ false) × IsOneFrame bytes (message_of held') × (is_frame held' ≡ true)
Stepped Over failed bytes held held' input = (frames_of bytes ≡ []) × IsOver failed bytes input

-- a piece was read, behind these bytes
pub record PieceRead (step : Step) (bytes : List ℕ) (before after : Option (Input (List ℕ))) (faults faults' : ℕ) (held held' : List ℕ) : Type 0 where
  pub piece : List ℕ
  pub came : Gave before piece after
  pub failed : Bool
  pub count : Counts failed faults faults'
  pub did : Stepped step failed (bytes ++ piece) held held' after
