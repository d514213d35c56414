-- What a dump of a stream of frames tells, line by line: as data and as text.
use Rattle.std.specs.Prelude.{ℕ, nat_eq, ◌||◌, if◌then◌else◌, List, [], ◌∷◌, ◌++◌, map, length, codes, decimal, flat_map}
use Rattle.hex.specs.Hex.{encode_lower}
use Rattle.aseba_message.specs.Message.{Message}
use Rattle.aseba_message.specs.Frames.{is_bad}
use Rattle.aseba_message.specs.Cut.{frames_of, rest_of}
use Rattle.aseba_tree.specs.Line.{blank_number, word_text}

-- a frame as it stands, with the time at which it came; so many bytes at the end of a stream that are no whole frame
pub data DumpLine : Type 0 where
  raw : (time : ℕ) → Message → DumpLine
  rest : (count : ℕ) → DumpLine

-- each byte as two hexadecimal digits in lower case, or a dash where there is none
abbrev pub payload_text : List ℕ → List ℕ
payload_text [] = codes "-"
payload_text (b ∷ bs) = encode_lower (b ∷ bs)

-- a line's text without its end
abbrev pub dump_line_text : DumpLine → List ℕ
dump_line_text (raw time m) = decimal time ++ blank_number m.source ++ codes " raw " ++ word_text m.kind ++ codes " " ++ payload_text m.payload
dump_line_text (rest count) = codes "rest " ++ decimal count

-- lines in order, each with a line feed behind it
abbrev pub dump_lines_text : List DumpLine → List ℕ
dump_lines_text lines = flat_map (λ line. dump_line_text line ++ codes "\n") lines

-- the lines of frames that came at one time
abbrev pub raw_lines : (time : ℕ) → List Message → List DumpLine
raw_lines time frames = map (raw time) frames

-- The line of what remains of a stream: there is none where nothing remains, or where it begins with a length that no frame may have.
abbrev pub rest_lines : List ℕ → List DumpLine
rest_lines remains = if is_bad remains || nat_eq (length remains) 0 then [] else rest (length remains) ∷ []

-- the lines of a whole stream that came at time 0
abbrev pub raw_dump : List ℕ → List DumpLine
raw_dump bytes = raw_lines 0 (frames_of bytes) ++ rest_lines (rest_of bytes)

-- and their text
abbrev pub raw_dump_text : List ℕ → List ℕ
raw_dump_text bytes = dump_lines_text (raw_dump bytes)
