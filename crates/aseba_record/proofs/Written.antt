-- What is written is read again.
use Rattle.std.proofs.Common.{◌≡◌, ℕ, ℤ, pos, negsuc, zero, suc, ◌-◌, ◌/◌, ◌%◌, ◌<◌, ◌≤◌, ◌^◌, ◌==◌, nat_lt, nat_le, Bool, true, false, not, ◌&&◌, List, [], ◌∷◌, ◌++◌, length, get_or, slice_index, take, map, codes, decimal, refl, sym, ap, ◌∙◌, subst, arith, cond, append_assoc, append-nil}
use Rattle.std.specs.Prelude.{Some, unwrap_or, slice_get, option_map}
use Rattle.std.specs.List.{list_all, AllByRecursion}
use Rattle.std.specs.Fmt.{signed_decimal, digit_glyph}
use Rattle.std.specs.Int.{w16, cast_signed}
use Rattle.std.specs.Str.Lines.{lines, strip_carriage_return}
use Rattle.std.proofs.lemmas.Bool.{eqb-true}
use Rattle.std.proofs.lemmas.Grind.{common_steps}
use Rattle.std.proofs.lemmas.Int.{ints}
use Rattle.std.proofs.lemmas.List.Elements.{recursion_from_All}
use Rattle.std.proofs.lemmas.List.Folds.{list_all-append}
use Rattle.hex.specs.Hex.{encode_with, encode_lower, lower_digits, hex_digit_value}
use Rattle.hex.proofs.HexLemmas.{IsDigits-lower_digits}
use Rattle.aseba_words.specs.Bytes.{is_name_start, is_word_byte}
use Rattle.aseba_words.specs.Spelled.{word_text, blank_number}
use Rattle.aseba_words.specs.declared.limits.TheConstants.{MOST_EVENT_CELLS}
use Rattle.aseba_text.specs.Names.{are_distinct}
use Rattle.aseba_text.specs.Numbers.{IsCell}
use Rattle.aseba_text.proofs.Options.{and_takes, and_true}
use Rattle.aseba_text.proofs.CellLaws.{leb_from, leb_to, no_other}
use Rattle.aseba_text.proofs.LineLaws.{first_ends}
use Rattle.aseba_tree.specs.Inside.{InsideSized}
use Rattle.aseba_tree.specs.Tokens.{is_name}
use Rattle.aseba_tree.specs.declared.description.Sized.{Sized}
use Rattle.aseba_tree.specs.declared.project.Project.{Project}
use Rattle.aseba_message.specs.Message.{Message}
use Rattle.aseba_payload.specs.Layout.{IsWord}
use Rattle.aseba_payload.specs.Reading.{words_of}
use Rattle.aseba_describe.specs.Plain.{IsPlain}
use Rattle.aseba_describe.proofs.Apart.{distinct_together}
use Rattle.aseba_dump.specs.DumpText.{bytes_text}
use Rattle.aseba_dump.specs.Field.{signed_words}
use Rattle.aseba_dump.specs.declared.timed.Timed.{Timed}
use Rattle.aseba_record.specs.declared.format.Format.{Format}
use Rattle.aseba_record.specs.declared.format.Format.TheVariants.{Old, New}
use Rattle.aseba_record.specs.Events.{IsEntry, AreEntries, AreNamed}
use Rattle.aseba_record.specs.Texts.{event_text, last_row, head_rows, said, entry_text, rows_text, head_text, record_text, old_record_text}
use Rattle.aseba_record.specs.Grammar.{IsFormat, Recording}
use Rattle.aseba_record.proofs.EventLaws.{IsSaid, said_is}
use Rattle.aseba_record.proofs.DigitLaws.{AreBytes}
use Rattle.aseba_record.proofs.CellWords.{words_small, is_cell}
use Rattle.aseba_record.proofs.NameLaws.{HasName, names_of, word_has}
use Rattle.aseba_record.proofs.EntryLaws.{plain_names}
use Rattle.aseba_record.proofs.Rows.{rows_append, rows_mapped}

-- Bytes from the blank on, among which no line ends

abbrev pub Shows : List ℕ → Type 0
Shows bs = list_all (nat_le 32) bs ≡ true

both : (a b : List ℕ) → Shows a → Shows b → Shows (a ++ b)
both a b h k = list_all-append (nat_le 32) a b ∙ and_true _ _ h k

from_index : (bs : List ℕ) → ((i : ℕ) → i < length bs → 32 ≤ get_or bs i 0) → Shows bs
from_index [] h = refl
from_index (b ∷ bs) h = and_true _ _ (leb_from 32 b (h 0 (omega arith))) (from_index bs (λ i k. h (suc i) (omega (arith, k))))

from_test : (p : ℕ → Bool) (bs : List ℕ) → ((b : ℕ) → p b ≡ true → 32 ≤ b) → list_all p bs ≡ true → Shows bs
from_test p [] each h = refl
from_test p (b ∷ bs) each h = let k = and_takes _ _ h in and_true _ _ (leb_from 32 b (each b k.0)) (from_test p bs each k.1)

number_shows : (n : ℕ) → n < 2 ^ 64 → Shows (decimal n)
number_shows n small = from_index (decimal n) (λ i within. by i within (nat_lt (get_or (decimal n) i 0) 32) refl)
  where
    by : (i : ℕ) → i < length (decimal n) → (t : Bool) → nat_lt (get_or (decimal n) i 0) 32 ≡ t → 32 ≤ get_or (decimal n) i 0
    by i within true e =
        let low : get_or (decimal n) i 0 < 32 = grind (arith, common_steps) in
        absurd (no_other n (get_or (decimal n) i 0) small (λ r. omega (arith, low, r.0)) i within refl)
    by i within false e = grind (arith, common_steps)

start_shows : (b : ℕ) → is_name_start b ≡ true → 32 ≤ b
start_shows b h = grind (arith, common_steps)

byte_shows : (b : ℕ) → is_word_byte b ≡ true → 32 ≤ b
byte_shows b h = grind (arith, common_steps)

name_shows : (name : List ℕ) → is_name name ≡ true → Shows name
name_shows [] h = refl
name_shows (b ∷ bs) h =
    let k = and_takes _ _ (and_takes _ _ (and_takes _ _ h).0).1 in
    and_true _ _ (leb_from 32 b (start_shows b k.0)) (from_test is_word_byte bs byte_shows k.1)

cell_shows : (z : ℤ) → IsCell z → Shows (signed_decimal z)
cell_shows (pos n) h = let small : n ≤ 32767 = omega (arith, ints, h.1) in number_shows n (omega arith)
cell_shows (negsuc k) h = let small : k ≤ 32767 = omega (arith, ints, h.0) in number_shows (suc k) (omega arith)

glyph_shows : (v : ℕ) → v < 16 → nat_le 32 (digit_glyph false v) ≡ true
glyph_shows v h = grind (arith, common_steps)

word_shows : (n : ℕ) → Shows (word_text n)
word_shows n =
    and_true _ _ (glyph_shows (n / 4096 % 16) (omega arith))
    (and_true _ _ (glyph_shows (n / 256 % 16) (omega arith))
    (and_true _ _ (glyph_shows (n / 16 % 16) (omega arith))
    (and_true _ _ (glyph_shows (n % 16) (omega arith)) refl)))

digit_shows : (c d : ℕ) → hex_digit_value c ≡ Some d → nat_le 32 c ≡ true
digit_shows c d h = grind (arith, common_steps)

encoded_shows : (bytes : List ℕ) → AreBytes bytes → Shows (encode_lower bytes)
unfolding encode_with
encoded_shows [] h = refl
encoded_shows (b ∷ bs) h =
    and_true _ _ (digit_shows (slice_index lower_digits (b / 16)) (b / 16) (IsDigits-lower_digits (b / 16) (omega (arith, h.0))))
    (and_true _ _ (digit_shows (slice_index lower_digits (b % 16)) (b % 16) (IsDigits-lower_digits (b % 16) (omega arith)))
    (encoded_shows bs h.1))

bytes_show : (bytes : List ℕ) → AreBytes bytes → Shows (bytes_text bytes)
bytes_show [] h = refl
bytes_show (b ∷ bs) h = encoded_shows (b ∷ bs) h

words_show : (ws : List ℕ) → AllByRecursion IsWord ws → Shows (signed_words ws)
words_show [] h = refl
words_show (w ∷ ws) h = both (codes " " ++ signed_decimal (cast_signed w16 w)) (signed_words ws) (cell_shows (cast_signed w16 w) (is_cell w h.0)) (words_show ws h.1)

names_show : (events : List Sized) → AllByRecursion HasName events → AllByRecursion (λ e. Shows e.name) events
names_show [] h = tt
names_show (e ∷ es) h = (name_shows e.name h.0, names_show es h.1)

-- Lines

said_shows : (format : Format) (m : Message) → IsFormat format → IsSaid m → Shows (said format m)
said_shows Old m is h = both (word_text m.kind ++ codes " ") (bytes_text m.payload) (both (word_text m.kind) (codes " ") (word_shows m.kind) refl) (bytes_show m.payload h.bytes)
said_shows (New events) m is h =
    let word : Shows (unwrap_or (option_map (λ e. e.name) (slice_get events m.kind)) (decimal m.kind)) =
    word_has Shows events m.kind (decimal m.kind) (names_show events (plain_names events is)) (number_shows m.kind (omega (arith, h.kind))) in
    both (unwrap_or (option_map (λ e. e.name) (slice_get events m.kind)) (decimal m.kind)) (signed_words (words_of m.payload)) word (words_show (words_of m.payload) (words_small m.payload h.bytes))

entry_shows : (format : Format) (t : Timed) → IsFormat format → IsEntry t → Shows (entry_text format t)
entry_shows format t is h =
    let time : List ℕ = decimal t.time in
    let source : List ℕ = blank_number t.frame.source in
    both (time ++ source ++ codes " ") (said format t.frame)
    (both (time ++ source) (codes " ") (both time source (number_shows t.time (omega (arith, h.time))) (number_shows t.frame.source (omega (arith, h.frame.1)))) refl)
    (said_shows format t.frame is (said_is t.frame h.frame h.bytes h.event))

entries_show : (format : Format) (timed : List Timed) → IsFormat format → AllByRecursion IsEntry timed → AllByRecursion Shows (map (entry_text format) timed)
entries_show format [] is h = tt
entries_show format (t ∷ ts) is h = (entry_shows format t is h.0, entries_show format ts is h.1)

event_shows : (e : Sized) → HasName e → e.size ≤ MOST_EVENT_CELLS → Shows (event_text e)
event_shows e name size =
    both (codes "event ") (e.name ++ codes " " ++ decimal e.size) refl
    (both (e.name ++ codes " ") (decimal e.size) (both e.name (codes " ") (name_shows e.name name) refl) (number_shows e.size (omega (arith, size))))

events_show : (events : List Sized) → AllByRecursion HasName events → AllByRecursion (InsideSized 0 MOST_EVENT_CELLS) events → AllByRecursion Shows (map event_text events)
events_show [] h k = tt
events_show (e ∷ es) h k = (event_shows e h.0 k.0.size.1, events_show es h.1 k.1)

all_both : {X : Type 0} (P : X → Type 0) (xs ys : List X) → AllByRecursion P xs → AllByRecursion P ys → AllByRecursion P (xs ++ ys)
all_both P [] ys h k = k
all_both P (x ∷ xs) ys h k = (h.0, all_both P xs ys h.1 k)

head_shows : (format : Format) → IsFormat format → AllByRecursion Shows (head_rows format)
head_shows Old is = tt
head_shows (New events) is =
    (refl, all_both Shows (map event_text events) (last_row ∷ []) (events_show events (plain_names events is) (recursion_from_All (InsideSized 0 MOST_EVENT_CELLS) events is.inside.each)) (refl, tt))

-- Their texts

lacks : (c : ℕ) → c < 32 → (bs : List ℕ) → Shows bs → list_all (λ b. not (b == c)) bs ≡ true
lacks c low [] h = refl
lacks c low (b ∷ bs) h = let k = and_takes _ _ h in and_true _ _ (by (b == c) refl (leb_to 32 b k.0)) (lacks c low bs k.1)
  where
    by : (t : Bool) → (b == c) ≡ t → 32 ≤ b → not t ≡ true
    by true e least = let same : b ≡ c = eqb-true b c e in absurd (omega arith)
    by false e least = refl

last_is_other : (bs : List ℕ) (k : ℕ) → Shows bs → (get_or bs k 0 == 13) ≡ false
last_is_other [] k h = refl
last_is_other (b ∷ bs) zero h = by (b == 13) refl (leb_to 32 b (and_takes _ _ h).0)
  where
    by : (t : Bool) → (b == 13) ≡ t → 32 ≤ b → t ≡ false
    by true e least = let same : b ≡ 13 = eqb-true b 13 e in absurd (omega arith)
    by false e least = refl
last_is_other (b ∷ bs) (suc k) h = last_is_other bs k (and_takes _ _ h).1

stays : (t : Bool) (a b : List ℕ) → t ≡ false → cond t a b ≡ b
stays true a b h = absurd cc
stays false a b h = refl

nothing_stripped : (bs : List ℕ) → Shows bs → strip_carriage_return bs ≡ bs
nothing_stripped bs h = stays _ (take (length bs - 1) bs) bs (last_is_other bs (length bs - 1) h)

lines_written : (rows : List (List ℕ)) → AllByRecursion Shows rows → lines (rows_text rows) ≡ rows
lines_written [] h = refl
lines_written (row ∷ rows) h =
    ap lines (append_assoc row (codes "\n") (rows_text rows))
    ∙ first_ends row (rows_text rows) (lacks 10 (omega arith) row h.0)
    ∙ ap (λ l. l ∷ lines (rows_text rows)) (nothing_stripped row h.0)
    ∙ ap (λ l. row ∷ l) (lines_written rows h.1)

written : (format : Format) (timed : List Timed) (text : List ℕ) → IsFormat format → AreEntries timed → text ≡ rows_text (head_rows format ++ map (entry_text format) timed) → Recording text timed
written format timed text is h e =
    let rows : List (List ℕ) = head_rows format ++ map (entry_text format) timed in (
      format,
      record {
        known = is;
        said = ap lines e ∙ lines_written rows (all_both Shows (head_rows format) (map (entry_text format) timed) (head_shows format is) (entries_show format timed is h.each));
        entries = h;
      },
    )

pub old_written : (timed : List Timed) → AreEntries timed → Recording (old_record_text timed) timed
old_written timed h = written Old timed (old_record_text timed) tt h (sym (rows_mapped (entry_text Old) timed))

-- an event alone
abbrev pub alone : Timed → List Timed
alone t = t ∷ []

one_entry : (t : Timed) → IsEntry t → AreEntries (alone t)
one_entry t h = record { each = (h, tt); order = and_true (nat_le 0 t.time) true (leb_from 0 t.time (omega arith)) refl }

pub old_line_written : (t : Timed) (line : List ℕ) → IsEntry t → line ≡ entry_text Old t ++ codes "\n" → Recording line (alone t)
old_line_written t line h e = subst (λ (l : List ℕ). Recording l (alone t)) (append-nil (entry_text Old t ++ codes "\n") ∙ sym e) (old_written (alone t) (one_entry t h))

-- the events of a project that can be written down
pub named_events : (p : Project) → IsPlain p → AreNamed p.events
named_events p plain = record {
  inside = plain.inside.events;
  plain = plain.parts.events;
  own =
      let locals : List (List ℕ) = map (λ l. l.name) p.node.locals in
      let apart : (are_distinct locals && are_distinct (names_of p.events) && _) ≡ true = sym (distinct_together locals (names_of p.events)) ∙ plain.names.events in
      (and_takes (are_distinct locals) (are_distinct (names_of p.events)) (and_takes (are_distinct locals && are_distinct (names_of p.events)) _ apart).0).1;
}

pub new_written : (p : Project) (timed : List Timed) → IsPlain p → AreEntries timed → Recording (record_text p timed) timed
new_written p timed plain h =
    written (New p.events) timed (record_text p timed) (named_events p plain) h
    (ap (λ l. rows_text (head_rows (New p.events)) ++ l) (sym (rows_mapped (entry_text (New p.events)) timed)) ∙ sym (rows_append (head_rows (New p.events)) (map (entry_text (New p.events)) timed)))

pub new_line_written : (p : Project) (t : Timed) (line : List ℕ) → IsEntry t → line ≡ entry_text (New p.events) t ++ codes "\n" → IsPlain p → Recording (head_text p ++ line) (alone t)
new_line_written p t line h e plain =
    subst (λ (l : List ℕ). Recording (head_text p ++ l) (alone t)) (append-nil (entry_text (New p.events) t ++ codes "\n") ∙ sym e) (new_written p (alone t) plain (one_entry t h))
