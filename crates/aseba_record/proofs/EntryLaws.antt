-- What is read of a line is spelled so, and what is spelled so is read, in both formats.
use Rattle.std.proofs.Common.{◌≡◌, ℕ, ◌/◌, ◌%◌, ◌<◌, ◌≤◌, ◌^◌, nat_le, true, List, [], ◌∷◌, ◌++◌, length, map, codes, decimal, Some, refl, sym, ap, ◌∙◌, subst, arith, append_assoc}
use Rattle.std.specs.List.{AllByRecursion, join_with_byte}
use Rattle.std.proofs.lemmas.List.Elements.{recursion_from_All}
use Rattle.std.proofs.lemmas.List.Splits.{join_with_byte-slice_split}
use Rattle.aseba_words.specs.Spelled.{word_text}
use Rattle.aseba_text.specs.Fields.{cut, fields, has_no_blank}
use Rattle.aseba_text.specs.Numbers.{number_from}
use Rattle.aseba_text.proofs.Options.{when_takes, when_true, and_true, bind_takes, bind_some, some_is}
use Rattle.aseba_text.proofs.FieldLaws.{cut_takes, cut_again}
use Rattle.aseba_text.proofs.CellLaws.{leb_from, leb_to, number_from_again, number_from_takes}
use Rattle.aseba_tree.specs.declared.description.Sized.{Sized}
use Rattle.aseba_message.specs.Message.{Message}
use Rattle.aseba_payload.specs.Reading.{words_of}
use Rattle.aseba_describe.specs.Plain.{PlainSized}
use Rattle.aseba_dump.specs.DumpText.{bytes_text}
use Rattle.aseba_dump.specs.declared.timed.Timed.{Timed}
use Rattle.aseba_record.specs.declared.format.Format.{Format}
use Rattle.aseba_record.specs.declared.format.Format.TheVariants.{Old, New}
use Rattle.aseba_record.specs.Events.{IsEntry, AreNamed}
use Rattle.aseba_record.specs.Texts.{event_word, said, entry_text}
use Rattle.aseba_record.specs.Grammar.{IsFormat}
use Rattle.aseba_record.specs.Reading.{kind_of, payload_of, cells_of, event_in, old_of, new_by, said_by, entry_of}
use Rattle.aseba_record.proofs.EventLaws.{IsSaid, said_is, event_is}
use Rattle.aseba_record.proofs.DigitLaws.{kind_again, kind_takes, payload_again, payload_takes, glyph_differs}
use Rattle.aseba_record.proofs.FieldLaws.{digits_no_blank}
use Rattle.aseba_record.proofs.CellWords.{cell_text, words_small, cells_again, cells_takes, fields_words, join_words}
use Rattle.aseba_record.proofs.NameLaws.{HasName, event_again, event_takes, word_no_blank}

-- Format 1

word_no_blank_in : (n : ℕ) → has_no_blank (word_text n) ≡ true
word_no_blank_in n =
    let away : (48 ≤ 32) × (32 ≤ 102) → ⊥ = λ r. omega (arith, r.0) in
    and_true _ _ (glyph_differs (n / 4096 % 16) 32 (omega arith) away)
    (and_true _ _ (glyph_differs (n / 256 % 16) 32 (omega arith) away)
    (and_true _ _ (glyph_differs (n / 16 % 16) 32 (omega arith) away)
    (and_true _ _ (glyph_differs (n % 16) 32 (omega arith) away) refl)))

old_again : (m : Message) → IsSaid m → old_of m.source (said Old m) ≡ Some m
unfolding old_of
old_again m h =
    bind_some _ _ (word_text m.kind, bytes_text m.payload) (ap cut (append_assoc (word_text m.kind) (codes " ") (bytes_text m.payload)) ∙ cut_again (word_text m.kind) (bytes_text m.payload) (word_no_blank_in m.kind))
    ∙ bind_some (kind_of (word_text m.kind)) _ m.kind (kind_again m.kind h.kind)
    ∙ bind_some (payload_of (bytes_text m.payload)) _ m.payload (payload_again m.payload h.bytes h.few h.even)

-- what was read behind a source
record SaidSo (format : Format) (source : ℕ) (text : List ℕ) (m : Message) : Type 0 where
  from : m.source ≡ source
  spelled : text ≡ said format m
  holds : IsSaid m

abbrev message : ℕ → ℕ → List ℕ → Message
message source kind payload = record { source = source; kind = kind; payload = payload }

old_takes : (source : ℕ) (text : List ℕ) (m : Message) → old_of source text ≡ Some m → SaidSo Old source text m
unfolding old_of
old_takes source text m h =
    let c = bind_takes _ _ _ h in
    let k = bind_takes _ _ _ c.2 in
    let p = bind_takes _ _ _ k.2 in
    let kind = kind_takes c.0.0 k.0 k.1 in
    let bytes = payload_takes c.0.1 p.0 p.1 in
    subst (SaidSo Old source text) (some_is (message source k.0 p.0) m p.2)
    (record {
      from = refl;
      spelled = cut_takes text c.0.0 c.0.1 c.1 ∙ (λ i. kind.1 i ++ 32 ∷ bytes.0 i) ∙ sym (append_assoc (word_text k.0) (codes " ") (bytes_text p.0));
      holds = record { kind = kind.0; even = bytes.3; few = bytes.2; bytes = bytes.1 };
    })

-- Format 2

pub names_are : (events : List Sized) → AllByRecursion PlainSized events → AllByRecursion HasName events
names_are [] h = tt
names_are (e ∷ es) h = (h.0, names_are es h.1)

pub plain_names : (events : List Sized) → AreNamed events → AllByRecursion HasName events
plain_names events h = names_are events (recursion_from_All PlainSized events h.plain)

new_again : (events : List Sized) (m : Message) → AreNamed events → IsSaid m → new_by events m.source (fields (said (New events) m)) ≡ Some m
unfolding new_by
new_again events m named h =
    let plain = plain_names events named in
    let small : m.kind < 2 ^ 64 = omega (arith, h.kind) in
    ap (new_by events m.source) (fields_words (event_word events m.kind) (words_of m.payload) (word_no_blank events m.kind plain small) (words_small m.payload h.bytes))
    ∙ bind_some (event_in events (event_word events m.kind)) _ m.kind (event_again events m.kind plain named.own h.kind)
    ∙ bind_some (cells_of (map cell_text (words_of m.payload))) _ m.payload (cells_again m.payload h.bytes h.even)
    ∙ when_true (nat_le (length m.payload) 1024) m (leb_from (length m.payload) 1024 h.few)

new_takes : (events : List Sized) (source : ℕ) (text : List ℕ) (fs : List (List ℕ)) (m : Message) → AreNamed events → fields text ≡ fs → new_by events source fs ≡ Some m → SaidSo (New events) source text m
unfolding new_by
new_takes events source text [] m named is h = absurd cc
new_takes events source text (word ∷ fs) m named is h =
    let k = bind_takes _ _ _ h in
    let p = bind_takes _ _ _ k.2 in
    let w = when_takes (nat_le (length p.0) 1024) (message source k.0 p.0) m p.2 in
    let kind = event_takes events word k.0 named.inside.few k.1 in
    let cells = cells_takes fs p.0 p.1 in
    subst (SaidSo (New events) source text) w.1
    (record {
      from = refl;
      spelled = sym (join_with_byte-slice_split 32 text) ∙ ap (join_with_byte 32) is ∙ (λ i. join_with_byte 32 (kind.0 i ∷ cells.spelled i)) ∙ join_words (event_word events k.0) (words_of p.0);
      holds = record { kind = kind.1; even = cells.even; few = leb_to (length p.0) 1024 w.0; bytes = cells.small };
    })

-- Both formats

said_again : (format : Format) (m : Message) → IsFormat format → IsSaid m → said_by format m.source (said format m) ≡ Some m
said_again Old m is h = old_again m h
said_again (New events) m is h = new_again events m is h

said_takes : (format : Format) (source : ℕ) (text : List ℕ) (m : Message) → IsFormat format → said_by format source text ≡ Some m → SaidSo format source text m
said_takes Old source text m is h = old_takes source text m h
said_takes (New events) source text m is h = new_takes events source text (fields text) m is refl h

-- the time and the source in front, as a line is cut
fields_apart : (time source behind : List ℕ) → time ++ (codes " " ++ source) ++ codes " " ++ behind ≡ time ++ 32 ∷ (source ++ 32 ∷ behind)
fields_apart time source behind = append_assoc (time ++ (codes " " ++ source)) (codes " ") behind ∙ append_assoc time (codes " " ++ source) (codes " " ++ behind)

abbrev timed : ℕ → Message → Timed
timed time frame = record { time = time; frame = frame }

pub entry_again : (format : Format) (t : Timed) → IsFormat format → IsEntry t → entry_of format (entry_text format t) ≡ Some t
unfolding entry_of
entry_again format t is h =
    let m : Message = t.frame in
    let behind : List ℕ = said format m in
    let holds = said_is m h.frame h.bytes h.event in
    bind_some _ _ (decimal t.time, decimal m.source ++ 32 ∷ behind) (ap cut (fields_apart (decimal t.time) (decimal m.source) behind) ∙ cut_again (decimal t.time) (decimal m.source ++ 32 ∷ behind) (digits_no_blank t.time (omega (arith, h.time))))
    ∙ bind_some (number_from 0 9223372036854775807 (decimal t.time)) _ t.time (number_from_again 0 9223372036854775807 t.time (omega arith, omega (arith, h.time)) (omega arith))
    ∙ bind_some _ _ (decimal m.source, behind) (cut_again (decimal m.source) behind (digits_no_blank m.source (omega (arith, h.frame.1))))
    ∙ bind_some (number_from 0 65535 (decimal m.source)) _ m.source (number_from_again 0 65535 m.source (omega arith, omega (arith, h.frame.1)) (omega arith))
    ∙ bind_some (said_by format m.source behind) _ m (said_again format m is holds)

pub record EntrySo (format : Format) (line : List ℕ) (t : Timed) : Type 0 where
  pub spelled : line ≡ entry_text format t
  pub holds : IsEntry t

pub entry_takes : (format : Format) (line : List ℕ) (t : Timed) → IsFormat format → entry_of format line ≡ Some t → EntrySo format line t
unfolding entry_of
entry_takes format line t is h =
    let c = bind_takes _ _ _ h in
    let n = bind_takes _ _ _ c.2 in
    let d = bind_takes _ _ _ n.2 in
    let s = bind_takes _ _ _ d.2 in
    let f = bind_takes _ _ _ s.2 in
    let time = number_from_takes 0 9223372036854775807 c.0.0 n.0 n.1 in
    let source = number_from_takes 0 65535 d.0.0 s.0 s.1 in
    let frame = said_takes format s.0 d.0.1 f.0 is f.1 in
    subst (EntrySo format line) (some_is (timed n.0 f.0) t f.2)
    (record {
      spelled =
          cut_takes line c.0.0 c.0.1 c.1
          ∙ (λ i. time.1 i ++ 32 ∷ cut_takes c.0.1 d.0.0 d.0.1 d.1 i)
          ∙ (λ i. decimal n.0 ++ 32 ∷ ((source.1 ∙ ap decimal (sym frame.from)) i ++ 32 ∷ frame.spelled i))
          ∙ sym (fields_apart (decimal n.0) (decimal f.0.source) (said format f.0));
      holds = record {
        time = omega (arith, time.0.1);
        frame = (frame.holds.few, omega (arith, frame.from, source.0.1), omega (arith, frame.holds.kind));
        bytes = frame.holds.bytes;
        event = event_is f.0 frame.holds.kind frame.holds.even;
      };
    })
