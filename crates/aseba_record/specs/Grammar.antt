-- Which text spells which recording, and what the first bad line of any other text is.
use Rattle.std.specs.Prelude.{◌≡◌, ℕ, ◌+◌, ◌-◌, ◌<◌, ◌≤◌, ◌⊎◌, Bool, false, List, [], ◌∷◌, ◌++◌, length, take, map}
use Rattle.std.specs.Str.Lines.{lines}
use Rattle.aseba_text.specs.Names.{is_same}
use Rattle.aseba_dump.specs.declared.timed.Timed.{Timed}
use Rattle.aseba_record.specs.declared.format.Format.{Format}
use Rattle.aseba_record.specs.declared.format.Format.TheVariants.{Old, New}
use Rattle.aseba_record.specs.declared.fault.RecordError.{RecordError}
use Rattle.aseba_record.specs.declared.fault.RecordError.TheVariants as error
use Rattle.aseba_record.specs.Events.{AreEntries, AreNamed}
use Rattle.aseba_record.specs.Texts.{head_rows, entry_text, first_row}

-- the names that a head gives are those of a project's events
abbrev pub IsFormat : Format → Type 0
IsFormat Old = Unit {0}
IsFormat (New events) = AreNamed events

-- Lines spell a recording in a format: those of its head, and then one for each event.
pub record RowsIn (format : Format) (rows : List (List ℕ)) (timed : List Timed) : Type 0 where
  pub known : IsFormat format
  pub said : rows ≡ head_rows format ++ map (entry_text format) timed
  pub entries : AreEntries timed

-- No line of format 1 is the first one of format 2, so lines spell a recording in one format at most.
abbrev pub RecordingRows : List (List ℕ) → List Timed → Type 0
RecordingRows rows timed = (format : Format) × RowsIn format rows timed

-- The lines of a text end with a line feed, or a carriage return and a line feed; the last line may have no end.
abbrev pub Recording : List ℕ → List Timed → Type 0
Recording text timed = RecordingRows (lines text) timed

-- whether a text is of format 2: its first line says so
abbrev pub begins_new : List (List ℕ) → Bool
begins_new [] = false
begins_new (row ∷ rows) = is_same row first_row

abbrev pub is_new : List ℕ → Bool
is_new text = begins_new (lines text)

-- lines with which a recording may begin
abbrev pub BeginsRecording : List (List ℕ) → Type 0
BeginsRecording rows = (more : List (List ℕ)) × (timed : List Timed) × RecordingRows (rows ++ more) timed

-- The first bad line, counted from 1. A recording may begin with the lines before it. With it too, none may; or it is the line behind the last, and
-- these lines are no whole recording.
pub record IsBadLine (rows : List (List ℕ)) (n : ℕ) : Type 0 where
  pub least : 1 ≤ n
  pub most : n ≤ length rows + 1
  pub before : BeginsRecording (take (n - 1) rows)
  pub breaks : n ≤ length rows → BeginsRecording (take n rows) → ⊥
  pub lacks : length rows < n → (timed : List Timed) → RecordingRows rows timed → ⊥

-- the error tells of the text's first bad line; want of memory tells nothing of it
abbrev pub TellsLine : List ℕ → RecordError → Type 0
TellsLine text (error.Line n) = IsBadLine (lines text) n
TellsLine text error.Mem = Unit {0}

-- A text spells one recording, or it has one first bad line.
pub record IsDecided (text : List ℕ) : Type 0 where
  pub some : ((timed : List Timed) × Recording text timed) ⊎ ((n : ℕ) × IsBadLine (lines text) n)
  pub one_recording : (timed other : List Timed) → Recording text timed → Recording text other → timed ≡ other
  pub one_line : (m n : ℕ) → IsBadLine (lines text) m → IsBadLine (lines text) n → m ≡ n
  pub never_both : (timed : List Timed) (n : ℕ) → Recording text timed → IsBadLine (lines text) n → ⊥
