-- What a line of a script says, by its fields.
use Rattle.std.specs.Prelude.{◌≡◌, ℕ, ◌+◌, ℤ, ◌&&◌, nat_lt, nat_le, List, [], ◌∷◌, ◌++◌, length, position, bytes_eq, codes, Option, Some, None, Result, Ok, Err, if◌then◌else◌}
use Rattle.aseba_text.specs.Options.{◌>>=◌, when}
use Rattle.aseba_text.specs.Fields.{fields}
use Rattle.aseba_text.specs.Lines.{is_skipped}
use Rattle.aseba_text.specs.Numbers.{number_from, cell_of}
use Rattle.aseba_text.specs.Names.{is_same}
use Rattle.aseba_words.specs.declared.limits.TheConstants.{MOST_EVENT_CELLS}
use Rattle.aseba_tree.specs.Code.{Name, Project}
use Rattle.aseba_tree.specs.Line.{named}
use Rattle.aseba_tree.specs.Events.{event_number}
use Rattle.aseba_tree.specs.Layout.{Placed, placed_named}
use Rattle.aseba_tree.specs.declared.description.Sized.{Sized}
use Rattle.aseba_tree.specs.declared.description.Local.{Local}
use Rattle.aseba_driver.specs.declared.entry.Act.TheVariants.{Event, Set}
use Rattle.aseba_driver.specs.declared.entry.Entry.{Entry}
use Rattle.aseba_driver.specs.declared.fields.TheConstants.{MOST_TIME}
use Rattle.aseba_driver.specs.declared.fault.LineFault.{LineFault}
use Rattle.aseba_driver.specs.declared.fault.LineFault.TheVariants as fault

-- What a function returned is what reading gives, unless memory ran out.
abbrev pub Fails : {Y : Type 0} → LineFault → Option Y → Type 0
Fails fault.Mem read = Unit {0}
Fails fault.Bad read = read ≡ None

abbrev pub Gives : {X Y : Type 0} → (X → Y) → Result X LineFault → Option Y → Type 0
Gives view (Ok x) read = read ≡ Some (view x)
Gives view (Err e) read = Fails e read

-- the first event of a name
abbrev pub place_of_event : Name → List Sized → Option ℕ
place_of_event name events = position (λ event. bytes_eq event.name name) events

abbrev pub place_of_local : Name → List Local → Option ℕ
place_of_local name locals = position (λ local. bytes_eq local.name name) locals

-- the first field, behind which there are others
abbrev pub first_of : List (List ℕ) → Option (List ℕ × List (List ℕ))
first_of (field ∷ next ∷ fields) = Some (field, next ∷ fields)
first_of _ = None

-- cells, one in each field
abbrev pub cells_of : List (List ℕ) → Option (List ℤ)
cells_of [] = Some []
cells_of (field ∷ fields) = do
  cell ← cell_of field
  cells ← cells_of fields
  Some (cell ∷ cells)

-- the source behind the word `from`, or else 0, and the fields behind it
abbrev pub source_behind : List (List ℕ) → Option (ℕ × List (List ℕ))
source_behind [] = None
source_behind (field ∷ fields) = do
  source ← number_from 0 65535 field
  Some (source, fields)

unfoldable pub source_of : List (List ℕ) → Option (ℕ × List (List ℕ))
source_of [] = Some (0, [])
source_of (word ∷ fields) = if is_same word (codes "from") then source_behind fields else Some (0, word ∷ fields)

-- the name of an event of the project, maybe its source, and at most 256 arguments
unfoldable pub event_of : Project → (time : ℕ) → List (List ℕ) → Option Entry
event_of project time [] = None
event_of project time (name ∷ fields) = do
  event ← event_number project (named name)
  s ← source_of fields
  args ← cells_of s.1
  when (nat_le (length args) MOST_EVENT_CELLS) (record { time = time; name = name; act = Event event s.0 args })

-- the name of a variable, the first of its cells that are set, and at least one value, all inside it
unfoldable pub values_of : Placed → (time : ℕ) → Name → List (List ℕ) → Option Entry
values_of place time name [] = None
values_of place time name (word ∷ fields) = do
  first ← number_from 0 65535 word
  values ← cells_of fields
  when (nat_lt 0 (length values) && nat_le (first + length values) place.size) (record { time = time; name = name; act = Set (place.start + first) values })

unfoldable pub set_of : List Placed → (time : ℕ) → List (List ℕ) → Option Entry
set_of places time fields = do
  c ← first_of fields
  place ← placed_named places c.0
  values_of place time c.0 c.1

-- the time, and the word that tells whether an event arrives or cells are set
unfoldable pub entry_of : Project → List Placed → List ℕ → Option Entry
entry_of project places line = do
  c ← first_of (fields line)
  time ← number_from 0 MOST_TIME c.0
  d ← first_of c.1
  if is_same d.0 (codes "event") then event_of project time d.1 else if is_same d.0 (codes "set") then set_of places time d.1 else None

-- the time of the last entry, or another where there is none
abbrev pub last_time : ℕ → List Entry → ℕ
last_time time [] = time
last_time time (entry ∷ entries) = last_time entry.time entries

-- entries and one more line, whose entry isn't earlier than the last
unfoldable pub with_line : Project → List Placed → List Entry → List ℕ → Option (List Entry)
with_line project places entries line = if is_skipped line then Some entries else do
  entry ← entry_of project places line
  when (nat_le (last_time 0 entries) entry.time) (entries ++ entry ∷ [])
