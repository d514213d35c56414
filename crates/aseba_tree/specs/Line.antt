-- What a run tells, line by line: as data, so that runs can be compared field by field, and as text.
use Rattle.std.specs.Prelude.{ℕ, ℤ, List, [], ◌∷◌, ◌++◌, codes, decimal, flat_map}
use Rattle.std.specs.Fmt.{signed_decimal}
pub use Rattle.aseba_words.specs.Spelled.{blank_number, blank_cells, word_text}
use Rattle.aseba_tree.specs.Code.{Name}

-- an event by its name, or by the number of one that the project doesn't have
pub data Event : Type 0 where
  named : Name → Event
  numbered : ℕ → Event

-- What happens at a moment: a handler began; an event has no handler; it found a paused handler; it killed the running handler before its
-- effect of a source line; cells were set from outside; an event was sent with cells; a line stopped at a division by zero, or at an index
-- out of bounds with the variable's size.
pub data Report : Type 0 where
  began : Event → Report
  ignored : Event → Report
  dropped : Event → Report
  killed : (line : ℕ) → Report
  was_set : Name → Report
  sent : Event → List ℤ → Report
  division : (line : ℕ) → Report
  bounds : (line size : ℕ) → (index : ℤ) → Report

-- A line: a report with the number of ticks before its moment and of effects up to it, its own included; at the end a variable with its cells,
-- and the numbers of all ticks and all effects.
pub data Line : Type 0 where
  told : (ticks effects : ℕ) → Report → Line
  var : Name → List ℤ → Line
  end : (ticks effects : ℕ) → Line

-- the report with its source line, where it has one, read from another table
abbrev pub report_by : (ℕ → ℕ) → Report → Report
report_by f (began e) = began e
report_by f (ignored e) = ignored e
report_by f (dropped e) = dropped e
report_by f (killed line) = killed (f line)
report_by f (was_set name) = was_set name
report_by f (sent e cells) = sent e cells
report_by f (division line) = division (f line)
report_by f (bounds line size index) = bounds (f line) size index

abbrev pub line_by : (ℕ → ℕ) → Line → Line
line_by f (told t k report) = told t k (report_by f report)
line_by f (var name cells) = var name cells
line_by f (end t k) = end t k

-- an event as it is told
abbrev pub event_text : Event → List ℕ
event_text (named name) = name
event_text (numbered n) = decimal n

abbrev pub report_text : Report → List ℕ
report_text (began e) = codes "event " ++ event_text e
report_text (ignored e) = codes "ignored " ++ event_text e
report_text (dropped e) = codes "dropped " ++ event_text e
report_text (killed line) = codes "killed " ++ decimal line
report_text (was_set name) = codes "set " ++ name
report_text (sent e cells) = codes "emit " ++ event_text e ++ blank_cells cells
report_text (division line) = codes "division " ++ decimal line
report_text (bounds line size index) = codes "bounds " ++ decimal line ++ blank_number size ++ codes " " ++ signed_decimal index

-- a line's text without its end
abbrev pub line_text : Line → List ℕ
line_text (told t k report) = decimal t ++ blank_number k ++ codes " " ++ report_text report
line_text (var name cells) = codes "var " ++ name ++ blank_cells cells
line_text (end t k) = codes "end " ++ decimal t ++ blank_number k

-- lines in order, each with a line feed behind it
abbrev pub lines_text : List Line → List ℕ
lines_text [] = []
lines_text (line ∷ lines) = line_text line ++ codes "\n" ++ lines_text lines

-- the line that shows a program's words
abbrev pub code_text : List ℕ → List ℕ
code_text words = codes "code" ++ flat_map (λ word. codes " " ++ word_text word) words
