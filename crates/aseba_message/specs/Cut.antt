-- A stream, cut into its frames.
use Rattle.std.specs.Prelude.{◌≡◌, ℕ, zero, suc, ◌<◌, ◌≤◌, ◌^◌, Bool, true, false, if◌then◌else◌, List, [], ◌∷◌, ◌++◌, length, drop}
use Rattle.std.specs.List.{AllByRecursion, flat_map}
use Rattle.std.specs.Bool.{MatchBool}
use Rattle.aseba_message.specs.Message.{Message}
use Rattle.aseba_message.specs.Frames.{spelling, is_bad, has_frame, frame_len, message_of}
use Rattle.aseba_message.specs.Reader.{begun}
use Rattle.aseba_message.specs.declared.reader.Fed.{Fed}
use Rattle.aseba_message.specs.declared.reader.Fed.TheVariants.{More, Whole, TooLong}

abbrev pub behind : Message → List Message × List ℕ → List Message × List ℕ
behind m cut = (m ∷ cut.0, cut.1)

-- the first frames of a stream, as many as there are up to this number, and what remains
abbrev pub cut_up_to : ℕ → List ℕ → List Message × List ℕ
cut_up_to zero bytes = ([], bytes)
cut_up_to (suc most) bytes =
    if has_frame bytes then behind (message_of bytes) (cut_up_to most (drop (frame_len bytes) bytes)) else ([], bytes)

-- all of them: no stream has more frames than bytes
abbrev pub frames_of : List ℕ → List Message
frames_of bytes = (cut_up_to (length bytes) bytes).0

-- what remains is no whole frame; it begins with a bad length, or it may become a frame
abbrev pub rest_of : List ℕ → List ℕ
rest_of bytes = (cut_up_to (length bytes) bytes).1

-- what can stand in a frame
abbrev pub IsMessage : Message → Type 0
IsMessage m = (length m.payload ≤ 1024) × (m.source < 2 ^ 16) × (m.kind < 2 ^ 16)

-- the stream is these frames, one after the other, and then what isn't a whole frame
pub record IsCut (bytes : List ℕ) (frames : List Message) (rest : List ℕ) : Type 0 where
  pub whole : bytes ≡ flat_map spelling frames ++ rest
  pub each : AllByRecursion IsMessage frames
  pub last : has_frame rest ≡ false

-- no length in the stream is one that no frame may have
abbrev pub IsGoodStream : List ℕ → Type 0
IsGoodStream bytes = is_bad (rest_of bytes) ≡ false

-- behind its frames, at this place, stands a length that no frame may have
pub record IsBadAt (bytes : List ℕ) (place : ℕ) : Type 0 where
  pub bad : is_bad (rest_of bytes) ≡ true
  pub behind : place ≡ length (flat_map spelling (frames_of bytes))

-- A reader that has taken all of a stream holds what remains of it, and at a bad length only that. A frame that has just ended is still held.
abbrev pub StandsAt : List ℕ → List ℕ → Type 0
StandsAt bytes held = MatchBool (is_bad held) ((more : List ℕ) × (rest_of bytes ≡ held ++ more)) (rest_of bytes ≡ begun held)

-- the frame that a reader has just ended
abbrev pub ended : Fed → List ℕ → List Message
ended More held = []
ended Whole held = message_of held ∷ []
ended (TooLong len) held = []

abbrev pub is_too_long : Fed → Bool
is_too_long More = false
is_too_long Whole = false
is_too_long (TooLong len) = true
