-- Reading a recording from its text, line by line.
use Rattle.std.specs.Prelude.{◌≡◌, ℕ, ◌+◌, ◌*◌, ◌-◌, ◌≤◌, ◌%◌, ℤ, ◌==◌, Bool, not, ◌&&◌, nat_lt, nat_le, List, [], ◌∷◌, ◌++◌, length, drop, map, position, bytes_eq, codes, Option, Some, None, Result, Ok, Err, if◌then◌else◌}
use Rattle.std.specs.Int.{w16, cast_unsigned}
use Rattle.std.specs.Option.{option_or}
use Rattle.hex.specs.Hex.{encode_lower, decode_of}
use Rattle.hex.specs.declared.error.FromHexError.{FromHexError}
use Rattle.aseba_words.specs.Bytes.{is_within}
use Rattle.aseba_words.specs.declared.limits.TheConstants.{MOST_EVENTS, MOST_EVENT_CELLS}
use Rattle.aseba_text.specs.Options.{◌>>=◌, when}
use Rattle.aseba_text.specs.Fields.{cut, fields}
use Rattle.aseba_text.specs.Numbers.{number_from, cell_of}
use Rattle.aseba_text.specs.Names.{is_same, stands_in}
use Rattle.aseba_tree.specs.declared.description.Sized.{Sized}
use Rattle.aseba_message.specs.Message.{Message}
use Rattle.aseba_payload.specs.Layout.{word_bytes}
use Rattle.aseba_describe.specs.Reading.{sized_of}
use Rattle.aseba_dump.specs.declared.timed.Timed.{Timed}
use Rattle.aseba_record.specs.declared.format.Format.{Format}
use Rattle.aseba_record.specs.declared.format.Format.TheVariants.{Old, New}
use Rattle.aseba_record.specs.declared.fault.LineFault.{LineFault}
use Rattle.aseba_record.specs.declared.fault.LineFault.TheVariants as fault
use Rattle.aseba_record.specs.declared.fault.RecordError.{RecordError}
use Rattle.aseba_record.specs.declared.fault.RecordError.TheVariants as error
use Rattle.aseba_record.specs.declared.entries.TheConstants.{MOST_TIME}
use Rattle.aseba_record.specs.Texts.{last_row}
use Rattle.aseba_record.specs.Grammar.{begins_new}

-- What a function returned is what reading gives, unless memory ran out.
abbrev pub Fails : {Y : Type 0} → LineFault → Option Y → Type 0
Fails fault.Mem read = Unit {0}
Fails fault.Bad read = read ≡ None

abbrev pub Gives : {X Y : Type 0} → (X → Y) → Result X LineFault → Option Y → Type 0
Gives view (Ok x) read = read ≡ Some (view x)
Gives view (Err e) read = Fails e read

-- Format 1

-- a hexadecimal digit in lower case
abbrev pub digit_of : ℕ → Option ℕ
digit_of b = if is_within 48 57 b then Some (b - 48) else if is_within 97 102 b then Some (b - 87) else None

-- an event's number as four of them
unfoldable pub kind_of : List ℕ → Option ℕ
kind_of (a ∷ b ∷ c ∷ d ∷ []) = do
  p ← digit_of a
  q ← digit_of b
  r ← digit_of c
  s ← digit_of d
  when (nat_lt p 8) (p * 4096 + q * 256 + r * 16 + s)
kind_of _ = None

-- bytes in their one spelling
abbrev pub spelled_by : List ℕ → Result (List ℕ) FromHexError → Option (List ℕ)
spelled_by text (Ok bytes) = when (is_same (encode_lower bytes) text) bytes
spelled_by text (Err e) = None

-- some words, at most 1024 bytes
abbrev pub are_words : List ℕ → Bool
are_words bytes = nat_lt 0 (length bytes) && nat_le (length bytes) 1024 && (length bytes % 2) == 0

unfoldable pub bytes_of : List ℕ → Option (List ℕ)
bytes_of text = do
  bytes ← spelled_by text (decode_of text)
  when (are_words bytes) bytes

abbrev pub payload_of : List ℕ → Option (List ℕ)
payload_of text = if is_same text (codes "-") then Some [] else bytes_of text

unfoldable pub old_of : (source : ℕ) → List ℕ → Option Message
old_of source text = do
  c ← cut text
  kind ← kind_of c.0
  payload ← payload_of c.1
  Some (record { source = source; kind = kind; payload = payload })

-- Format 2

-- the place of the first event of this name
abbrev pub place_of : List ℕ → List Sized → Option ℕ
place_of name events = position (λ e. bytes_eq e.name name) events

-- the number of an event behind so many that have names
abbrev pub number_behind : ℕ → List ℕ → Option ℕ
number_behind names word = do
  n ← number_from 0 32767 word
  when (nat_le names n) n

abbrev pub event_in : List Sized → List ℕ → Option ℕ
event_in events word = option_or (place_of word events) (number_behind (length events) word)

-- the bytes of cells, one cell in each field
abbrev pub cells_of : List (List ℕ) → Option (List ℕ)
cells_of [] = Some []
cells_of (field ∷ fields) = do
  cell ← cell_of field
  bytes ← cells_of fields
  Some (word_bytes (cast_unsigned w16 cell) ++ bytes)

-- bytes, and behind them those of a cell
abbrev pub AddsCell : {U : Type 0} → List ℕ → List ℕ → List ℕ → Result U LineFault → Type 0
AddsCell old field new (Ok u) = (cell : ℤ) × (cell_of field ≡ Some cell) × (new ≡ old ++ word_bytes (cast_unsigned w16 cell))
AddsCell old field new (Err e) = Fails e (cell_of field)

unfoldable pub new_by : List Sized → (source : ℕ) → List (List ℕ) → Option Message
new_by events source [] = None
new_by events source (word ∷ fields) = do
  kind ← event_in events word
  payload ← cells_of fields
  when (nat_le (length payload) 1024) (record { source = source; kind = kind; payload = payload })

-- Both formats

-- the names of a format are few enough for their places to be numbers of events
abbrev pub HasFew : Format → Type 0
HasFew Old = Unit {0}
HasFew (New events) = length events ≤ MOST_EVENTS

abbrev pub said_by : Format → (source : ℕ) → List ℕ → Option Message
said_by Old source text = old_of source text
said_by (New events) source text = new_by events source (fields text)

-- the time and the source, and then what the format tells
unfoldable pub entry_of : Format → List ℕ → Option Timed
entry_of format line = do
  c ← cut line
  time ← number_from 0 MOST_TIME c.0
  d ← cut c.1
  source ← number_from 0 65535 d.0
  frame ← said_by format source d.1
  Some (record { time = time; frame = frame })

-- the time of the last event, or another where there is none
abbrev pub last_time : ℕ → List Timed → ℕ
last_time time [] = time
last_time time (t ∷ ts) = last_time t.time ts

-- events and one more line, whose event isn't earlier than the last
unfoldable pub with_entry : Format → List Timed → List ℕ → Option (List Timed)
with_entry format timed line = do
  t ← entry_of format line
  when (nat_le (last_time 0 timed) t.time) (timed ++ t ∷ [])

-- what the lines from one number on say, or the first bad line
abbrev pub goes_on : {A B : Type 0} → (A → Result B ℕ) → ℕ → Option A → Result B ℕ
goes_on others n None = Err n
goes_on others n (Some x) = others x

abbrev pub entries_from : Format → ℕ → List Timed → List (List ℕ) → Result (List Timed) ℕ
entries_from format n timed [] = Ok timed
entries_from format n timed (line ∷ lines) = goes_on (λ more. entries_from format (n + 1) more lines) n (with_entry format timed line)

-- a line of the head of format 2
abbrev pub fields_behind_event : List ℕ × List ℕ → Option Sized
fields_behind_event c = if is_same c.0 (codes "event") then sized_of 0 MOST_EVENT_CELLS c.1 else None

unfoldable pub named_of : List ℕ → Option Sized
named_of line = cut line >>= λ c. fields_behind_event c

abbrev pub is_free : List ℕ → List Sized → Bool
is_free name events = not (stands_in name (map (λ e. e.name) events))

unfoldable pub with_event : List Sized → List ℕ → Option (List Sized)
with_event events line = do
  e ← named_of line
  when (nat_lt (length events) MOST_EVENTS && is_free e.name events) (events ++ e ∷ [])

-- the events of a head, the number of the line behind it, and the lines from there on
abbrev pub Head : Type 0
Head = List Sized × (ℕ × List (List ℕ))

abbrev pub head_from : ℕ → List Sized → List (List ℕ) → Result Head ℕ
head_from n events [] = Err n
head_from n events (line ∷ lines) =
    if is_same line last_row then Ok (events, (n + 1, lines))
    else goes_on (λ more. head_from (n + 1) more lines) n (with_event events line)

abbrev pub behind_head : Result Head ℕ → Result (List Timed) ℕ
behind_head (Ok head) = entries_from (New head.0) head.1.0 [] head.1.1
behind_head (Err n) = Err n

abbrev pub recording_of : List (List ℕ) → Result (List Timed) ℕ
recording_of rows = if begins_new rows then behind_head (head_from 2 [] (drop 1 rows)) else entries_from Old 1 [] rows

-- What a reader returned is what reading gives, unless memory ran out.
abbrev pub FailsAt : {Y : Type 0} → RecordError → Result Y ℕ → Type 0
FailsAt error.Mem read = Unit {0}
FailsAt (error.Line n) read = read ≡ Err n

abbrev pub Reads : {X Y : Type 0} → (X → Y) → Result X RecordError → Result Y ℕ → Type 0
Reads view (Ok x) read = read ≡ Ok (view x)
Reads view (Err e) read = FailsAt e read
