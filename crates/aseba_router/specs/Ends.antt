-- The two ends of a link, and what is read from the one and written to the other.
use Rattle.std.specs.Prelude.{◌≡◌, ℕ, ◌⊎◌, Bool, true, false, List, [], ◌∷◌, Option, None, Some, IfSome, is_some, if◌then◌else◌, MatchBool}
use Rattle.aseba_edge.specs.Counts.{Counts}
use Rattle.aseba_edge.specs.Link.{Input, Gave}
use Rattle.aseba_edge.specs.Sink.{Took, TookFirst}
use Rattle.aseba_message.specs.Message.{Message}
use Rattle.aseba_message.specs.Frames.{spelling, is_bad}
use Rattle.aseba_message.specs.Cut.{frames_of, rest_of}
use Rattle.aseba_router.specs.declared.stage.Stage.{Stage}
use Rattle.aseba_router.specs.declared.stage.Stage.TheVariants.{Gone}

-- what a link tells of its ends: what its input has given and has left, the bytes that its output has taken, their marks, and how many of their calls failed
pub record Ends : Type 0 where
  pub input : Option (Input (List ℕ))
  pub input_mark : Option ℕ
  pub read_faults : ℕ
  pub taken : Option (List ℕ)
  pub output_mark : Option ℕ
  pub put_faults : ℕ

-- an input is at its end, and has said so
pub record IsAtEnd (input : Input (List ℕ)) : Type 0 where
  pub left : input.left ≡ []
  pub said : input.has_ended ≡ true

-- these bytes are one frame, and no more
pub record IsOneFrame (bytes : List ℕ) (m : Message) : Type 0 where
  pub frames : frames_of bytes ≡ m ∷ []
  pub rest : rest_of bytes ≡ []

-- Why no frame comes any more: a read failed, or the input is at its end, or a length stands there that no frame may have.
abbrev pub IsOver : Bool → List ℕ → Option (Input (List ℕ)) → Type 0
IsOver failed bytes input = MatchBool failed (Unit {0}) (IfSome input IsAtEnd ⊎ (is_bad (rest_of bytes) ≡ true))

-- what the bytes are that came: one frame and no more, or no frame
abbrev pub IsHeard : Option Message → Bool → List ℕ → Option (Input (List ℕ)) → Type 0
IsHeard (Some m) failed bytes input = (failed ≡ false) × IsOneFrame bytes m
IsHeard None failed bytes input = (frames_of bytes ≡ []) × IsOver failed bytes input

-- An input was read for one frame: these bytes came, and it is heard or none comes any more.
pub record Heard (heard : Option Message) (before after : Option (Input (List ℕ))) (faults faults' : ℕ) : Type 0 where
  pub bytes : List ℕ
  pub came : Gave before bytes after
  pub failed : Bool
  pub count : Counts failed faults faults'
  pub what : IsHeard heard failed bytes after

-- An output was given a text: it took all of it, or at a fault its first bytes.
pub record Wrote (text : List ℕ) (broken : Bool) (before after : Option (List ℕ)) (faults faults' : ℕ) : Type 0 where
  pub took : MatchBool broken (TookFirst before text after) (Took before text after)
  pub count : Counts broken faults faults'

-- a link of the switch: its ends, how far its session has come, and whether a put to it has failed
pub record WireState : Type 0 where
  pub ends : Ends
  pub stage : Stage
  pub broken : Bool

-- a link was read
pub record WireHeard (heard : Option Message) (old new : WireState) : Type 0 where
  pub read : Heard heard old.ends.input new.ends.input old.ends.read_faults new.ends.read_faults
  pub rest : new ≡ record old { ends = record old.ends { input = new.ends.input; read_faults = new.ends.read_faults }; stage = if is_some heard then old.stage else Gone }

-- a frame was written to a link, if no put to it had failed
pub record WireWrote (f : Message) (old new : WireState) : Type 0 where
  pub put : MatchBool old.broken (new ≡ old) (Wrote (spelling f) new.broken old.ends.taken new.ends.taken old.ends.put_faults new.ends.put_faults)
  pub rest : new ≡ record old { ends = record old.ends { taken = new.ends.taken; put_faults = new.ends.put_faults }; broken = new.broken }
