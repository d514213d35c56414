-- A stream of frames in the middle of its dump.
use Rattle.std.proofs.Common.{◌≡◌, ℕ, ◌+◌, ◌-◌, ◌≤◌, false, List, [], ◌++◌, length, take, drop, codes, Option, refl, sym, ap, ◌∙◌, subst, append_assoc, length-drop}
use Rattle.std.proofs.Math.Seq.{take-length}
use Rattle.std.proofs.lemmas.List.{map-append}
use Rattle.std.proofs.lemmas.Grind.{flat_map-append}
use Rattle.aseba_edge.specs.Sink.{TookFirst}
use Rattle.aseba_edge.proofs.Puts.{first_of_more}
use Rattle.aseba_message.specs.Message.{Message}
use Rattle.aseba_message.specs.Frames.{is_bad}
use Rattle.aseba_message.specs.Reader.{begun_len}
use Rattle.aseba_message.specs.Cut.{frames_of, rest_of, IsBadAt, StandsAt, ended, is_too_long}
use Rattle.aseba_message.specs.declared.reader.Fed.{Fed}
use Rattle.aseba_message.specs.declared.reader.Fed.TheVariants.{TooLong}
use Rattle.aseba_message.proofs.Cuts.{cut}
use Rattle.aseba_message.proofs.Streams.{ReadTo, new-frames, later-frames, read-on, no-later, bad-at}
use Rattle.aseba_tools.specs.DumpText.{dump_line_text, dump_lines_text, raw_lines, rest_lines, raw_dump_text}
use Rattle.aseba_tools.specs.DumpText.DumpLine.{raw}
use Rattle.aseba_tools.specs.Page.{Gathered}
use Rattle.aseba_tools.specs.StreamEnd.{IsEndOf, end_lines}
use Rattle.aseba_tools.specs.declared.frames.StreamEnd.{StreamEnd}
use Rattle.aseba_tools.specs.declared.frames.StreamEnd.TheVariants.{Ended, Bad}
use Rattle.aseba_tools.proofs.Pages.{gathered_more, gathered_cut}

-- the lines of frames that came at time 0
abbrev pub frames_text : List Message → List ℕ
frames_text frames = dump_lines_text (raw_lines 0 frames)

frames_text-append : (xs ys : List Message) → frames_text (xs ++ ys) ≡ frames_text xs ++ frames_text ys
frames_text-append xs ys =
    ap dump_lines_text (map-append (raw 0) xs ys) ∙ flat_map-append (λ line. dump_line_text line ++ codes "\n") (raw_lines 0 xs) (raw_lines 0 ys)

-- In the middle of a stream: so many of its bytes were taken and no bad length was met, and the lines of their frames were gathered.
pub record InStream (bytes : List ℕ) (before : Option (List ℕ)) (page : List ℕ) (place : ℕ) (held : List ℕ) (now : Option (List ℕ)) (page' : List ℕ) : Type 0 where
  pub inside : place ≤ length bytes
  pub stands : StandsAt (take place bytes) held
  pub good : is_bad held ≡ false
  pub gathered : Gathered before page (frames_text (frames_of (take place bytes))) now page'

pub read_to : {bytes : List ℕ} {before : Option (List ℕ)} {page : List ℕ} {place : ℕ} {held : List ℕ} {now : Option (List ℕ)} {page' : List ℕ}
    → InStream bytes before page place held now page' → ReadTo bytes place held
read_to s = record { inside = s.inside; stands = s.stands; good = s.good }

-- a piece is taken next, up to where a frame ends or its length is bad
module _ {bytes : List ℕ} {before : Option (List ℕ)} {page : List ℕ} {place : ℕ} {held : List ℕ} {now : Option (List ℕ)} {page' : List ℕ} (s : InStream bytes before page place held now page') (piece : List ℕ) (is_rest : piece ≡ drop place bytes) (count : ℕ) (within : count ≤ length piece)
    (fed : Fed) (next : List ℕ) (feeds : (b : List ℕ) → StandsAt b held → StandsAt (b ++ take count piece) next × (frames_of (b ++ take count piece) ≡ frames_of b ++ ended fed next)) where
  new_text : frames_text (frames_of (take place bytes)) ++ frames_text (ended fed next) ≡ frames_text (frames_of (take (place + count) bytes))
  new_text = sym (ap frames_text (new-frames (read_to s) piece is_rest count within fed next feeds) ∙ frames_text-append (frames_of (take place bytes)) (ended fed next))

  gathers : {after : Option (List ℕ)} {page'' : List ℕ} → Gathered now page' (frames_text (ended fed next)) after page'' → Gathered before page (frames_text (frames_of (take (place + count) bytes))) after page''
  gathers {after} {page''} more = subst (λ (t : List ℕ). Gathered before page t after page'') new_text (gathered_more s.gathered (frames_text (ended fed next)) more)

  -- its line was gathered
  pub stream_goes_on : {after : Option (List ℕ)} {page'' : List ℕ} → Gathered now page' (frames_text (ended fed next)) after page'' → is_bad next ≡ false → InStream bytes before page (place + count) next after page''
  stream_goes_on more good =
      let on = read-on (read_to s) piece is_rest count within fed next feeds good in
      record { inside = on.inside; stands = on.stands; good = good; gathered = gathers more }

  -- its line couldn't be written
  pub stream_cut : {after : Option (List ℕ)} → TookFirst now (page' ++ frames_text (ended fed next)) after → TookFirst before (page ++ frames_text (frames_of bytes)) after
  stream_cut {after} part =
      let so_far = frames_of (take (place + count) bytes) in
      let others = (cut (rest_of (take (place + count) bytes) ++ drop (place + count) bytes)).0 in
      let text : (page ++ frames_text so_far) ++ frames_text others ≡ page ++ frames_text (frames_of bytes) =
      append_assoc page (frames_text so_far) (frames_text others)
      ∙ ap (λ t. page ++ t) (sym (frames_text-append so_far others) ∙ ap frames_text (later-frames (read_to s) piece is_rest count within fed next feeds)) in
      subst (λ (t : List ℕ). TookFirst before t after) text
      (first_of_more before (page ++ frames_text so_far) (frames_text others) after
      (subst (λ (t : List ℕ). TookFirst before (page ++ t) after) new_text (gathered_cut s.gathered (frames_text (ended fed next)) part)))

  -- its length is bad
  pub stream_ends_bad : {after : Option (List ℕ)} {page'' : List ℕ} (len : ℕ) → fed ≡ TooLong len → ((b : List ℕ) → StandsAt b held → is_bad (rest_of (b ++ take count piece)) ≡ is_too_long fed)
      → Gathered now page' (frames_text (ended fed next)) after page'' → (begun : ℕ) → begun ≡ begun_len held
      → IsBadAt bytes (place - begun) × Gathered before page (frames_text (frames_of bytes)) after page''
  stream_ends_bad {after} {page''} len long tells more begun said = (
    bad-at (read_to s) piece is_rest count within fed next feeds len long tells begun said,
    subst (λ (fs : List Message). Gathered before page (frames_text fs) after page'') (sym (no-later (read_to s) piece is_rest count within fed next feeds len long tells)) (gathers more),
  )

-- the lines of the end are those of what remains
pub end-lines : (bytes : List ℕ) (end : StreamEnd) → IsEndOf bytes end → end_lines end ≡ rest_lines (rest_of bytes)
end-lines bytes (Ended count) h = rw (h.0, h.1) refl
end-lines bytes (Bad place) h = rw h.bad refl

-- all that is left behind a place
pub all_left : (place : ℕ) (bytes : List ℕ) → take (length bytes - place) (drop place bytes) ≡ drop place bytes
all_left place bytes = ap (λ n. take n (drop place bytes)) (sym (length-drop place bytes)) ∙ take-length (drop place bytes)

-- the lines of the frames, and then that of the end
dump_parts : (bytes : List ℕ) (end : StreamEnd) → IsEndOf bytes end → frames_text (frames_of bytes) ++ dump_lines_text (end_lines end) ≡ raw_dump_text bytes
dump_parts bytes end is =
    ap (λ lines. frames_text (frames_of bytes) ++ dump_lines_text lines) (end-lines bytes end is)
    ∙ sym (flat_map-append (λ line. dump_line_text line ++ codes "\n") (raw_lines 0 (frames_of bytes)) (rest_lines (rest_of bytes)))

-- the page that was gathered on an empty one couldn't be written whole with the line of the end
pub dump_cut : {before mid after : Option (List ℕ)} {empty page : List ℕ} (bytes : List ℕ) (end : StreamEnd) → IsEndOf bytes end → empty ≡ [] → Gathered before empty (frames_text (frames_of bytes)) mid page → TookFirst mid (page ++ dump_lines_text (end_lines end)) after → TookFirst before (raw_dump_text bytes) after
dump_cut {before} {after = after} bytes end is none g part =
    subst (λ (t : List ℕ). TookFirst before t after) (ap (λ p. p ++ (frames_text (frames_of bytes) ++ dump_lines_text (end_lines end))) none ∙ dump_parts bytes end is)
    (gathered_cut g (dump_lines_text (end_lines end)) part)
