-- Frames as lines.
use Rattle.std.specs.Prelude.{ℕ, Bool, if◌then◌else◌, List, [], ◌∷◌, ◌++◌, Option, Some, None, codes, decimal, flat_map}
use Rattle.hex.specs.Hex.{encode_lower}
use Rattle.aseba_words.specs.Spelled.{blank_number, word_text}
use Rattle.aseba_tree.specs.declared.project.Project.{Project}
use Rattle.aseba_message.specs.Message.{Message}
use Rattle.aseba_payload.specs.declared.payload.Payload.{Payload}
use Rattle.aseba_payload.specs.Meaning.{payload_of}
use Rattle.aseba_dump.specs.declared.timed.Timed.{Timed}
use Rattle.aseba_dump.specs.Said.{said, said_text}

-- each byte as two hexadecimal digits in lower case, or a dash where there is none
abbrev pub bytes_text : List ℕ → List ℕ
bytes_text [] = codes "-"
bytes_text (b ∷ bs) = encode_lower (b ∷ bs)

-- a message as it stands: its type and its bytes
abbrev pub raw_text : Message → List ℕ
raw_text m = codes "raw " ++ word_text m.kind ++ codes " " ++ bytes_text m.payload

-- by what it says; as it stands where it says nothing
abbrev pub meant_text : Project → Message → Option Payload → List ℕ
meant_text project m (Some p) = said_text (said project p)
meant_text project m None = raw_text m

abbrev pub message_text : Project → (raw : Bool) → Message → List ℕ
message_text project raw m = if raw then raw_text m else meant_text project m (payload_of m)

-- the line of a message that came at a time, with its end
abbrev pub dump_line : Project → (raw : Bool) → (time : ℕ) → Message → List ℕ
dump_line project raw time m = decimal time ++ blank_number m.source ++ codes " " ++ message_text project raw m ++ codes "\n"

-- the lines of messages, each with the time at which it came
abbrev pub dump_text : Project → (raw : Bool) → List Timed → List ℕ
dump_text project raw timed = flat_map (λ t. dump_line project raw t.time t.frame) timed
