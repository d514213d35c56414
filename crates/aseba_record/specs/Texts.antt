-- Recordings as texts, in both formats: a line for each event, which begins with its time and its source.
use Rattle.std.specs.Prelude.{ℕ, List, [], ◌∷◌, ◌++◌, map, codes, decimal, flat_map, slice_get, option_map, unwrap_or}
use Rattle.aseba_words.specs.Spelled.{blank_number, word_text}
use Rattle.aseba_tree.specs.declared.description.Sized.{Sized}
use Rattle.aseba_tree.specs.declared.project.Project.{Project}
use Rattle.aseba_message.specs.Message.{Message}
use Rattle.aseba_payload.specs.Reading.{words_of}
use Rattle.aseba_dump.specs.declared.timed.Timed.{Timed}
use Rattle.aseba_dump.specs.DumpText.{bytes_text}
use Rattle.aseba_dump.specs.Field.{signed_words}
use Rattle.aseba_record.specs.declared.format.Format.{Format}
use Rattle.aseba_record.specs.declared.format.Format.TheVariants.{Old, New}

-- an event as it stands in format 2: its name, or its number where no name is given for it
abbrev pub event_word : List Sized → ℕ → List ℕ
event_word events n = unwrap_or (option_map (λ e. e.name) (slice_get events n)) (decimal n)

-- what a line says of a frame. In format 1: its number as four hexadecimal digits, and its bytes; in format 2: the event, and its words as signed numbers
abbrev pub said : Format → Message → List ℕ
said Old m = word_text m.kind ++ codes " " ++ bytes_text m.payload
said (New events) m = event_word events m.kind ++ signed_words (words_of m.payload)

-- a line without its end
abbrev pub entry_text : Format → Timed → List ℕ
entry_text format t = decimal t.time ++ blank_number t.frame.source ++ codes " " ++ said format t.frame

-- the lines in front of the events, without their ends. Format 1 has none; format 2 tells its own name, and each event with its size
abbrev pub event_text : Sized → List ℕ
event_text e = codes "event " ++ (e.name ++ codes " " ++ decimal e.size)

abbrev pub first_row : List ℕ
first_row = codes "aseba-recording 2"

abbrev pub last_row : List ℕ
last_row = codes "frames"

abbrev pub head_rows : Format → List (List ℕ)
head_rows Old = []
head_rows (New events) = first_row ∷ map event_text events ++ last_row ∷ []

-- lines with their ends
abbrev pub rows_text : List (List ℕ) → List ℕ
rows_text rows = flat_map (λ row. row ++ codes "\n") rows

abbrev pub entry_line : Format → Timed → List ℕ
entry_line format t = entry_text format t ++ codes "\n"

-- the recording of a project's network, and one in the old format, which tells no project
abbrev pub head_text : Project → List ℕ
head_text project = rows_text (head_rows (New project.events))

abbrev pub record_text : Project → List Timed → List ℕ
record_text project timed = head_text project ++ flat_map (entry_line (New project.events)) timed

abbrev pub old_record_text : List Timed → List ℕ
old_record_text timed = flat_map (entry_line Old) timed
