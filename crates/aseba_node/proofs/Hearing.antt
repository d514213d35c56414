-- The frames that end in a piece of a stream are delivered one by one.
use Rattle.std.proofs.Common.{◌≡◌, ℕ, ◌+◌, ◌-◌, ◌<◌, ◌≤◌, Bool, true, false, if◌then◌else◌, List, [], ◌∷◌, ◌++◌, length, take, drop, refl, sym, ap, ◌∙◌, subst, append-nil, append_assoc, length-append, length-drop, arith}
use Rattle.std.proofs.lemmas.List.{take_at, drop_at, take_all}
use Rattle.std.proofs.Math.Seq.{drop-append-add}
use Rattle.aseba_message.specs.Message.{Message}
use Rattle.aseba_message.specs.Frames.{is_bad, is_frame}
use Rattle.aseba_message.specs.Reader.{begun, begun_len}
use Rattle.aseba_message.specs.Cut.{frames_of, rest_of, IsBadAt, IsGoodStream, StandsAt, ended, is_too_long}
use Rattle.aseba_message.specs.declared.reader.Fed.{Fed}
use Rattle.aseba_message.specs.declared.reader.Fed.TheVariants.{TooLong}
use Rattle.aseba_message.proofs.Streams.{ReadTo, frame-begins, rest-held, new-frames, read-on, bad-at}
use Rattle.aseba_node.specs.NodeState.{NodeState}
use Rattle.aseba_node.specs.Delivered.{delivered}
use Rattle.aseba_node.specs.Session.{delivered_all, ended_in}
use Rattle.aseba_node.specs.Turns.{Behind}

pub delivered-append : (xs ys : List Message) (n : NodeState) → delivered_all (xs ++ ys) n ≡ delivered_all ys (delivered_all xs n)
delivered-append [] ys n = refl
delivered-append (x ∷ xs) ys n = delivered-append xs ys (delivered x n)

-- So many bytes of a piece were taken behind those before it: the frames that ended in them were delivered.
pub record Hearing (n : NodeState) (before piece : List ℕ) (at : ℕ) (held : List ℕ) (now : NodeState) : Type 0 where
  pub read : ReadTo (before ++ piece) (length before + at) held
  pub more : List Message
  pub frames : frames_of (take (length before + at) (before ++ piece)) ≡ frames_of before ++ more
  pub node : now ≡ delivered_all more n

-- all that is left behind a place
pub all_left : (place : ℕ) (bytes : List ℕ) → take (length bytes - place) (drop place bytes) ≡ drop place bytes
all_left place bytes = take_all (length bytes - place) (drop place bytes) (omega (arith, length-drop place bytes))

-- none of it was taken yet
pub hearing_begins : (n : NodeState) (before piece : List ℕ) (place : ℕ) (held : List ℕ) → Behind before place held → Hearing n before piece 0 held n
hearing_begins n before piece place held b =
    let front : take (length before + 0) (before ++ piece) ≡ before = take_at before piece (length before + 0) (omega arith) in
    record {
      read = record {
        inside = omega (arith, length-append before piece);
        stands = subst (λ (bytes : List ℕ). StandsAt bytes held) (sym front) b.stands;
        good = b.good;
      };
      more = [];
      frames = ap frames_of front ∙ sym (append-nil (frames_of before));
      node = refl;
    }

-- some of what is left is taken
module _ {n : NodeState} {before piece : List ℕ} {at : ℕ} {held : List ℕ} {now : NodeState} (h : Hearing n before piece at held now)
    (left : List ℕ) (is_left : left ≡ drop at piece) (count : ℕ) (within : count ≤ length left) (fed : Fed) (next : List ℕ)
    (feeds : (b : List ℕ) → StandsAt b held → StandsAt (b ++ take count left) next × (frames_of (b ++ take count left) ≡ frames_of b ++ ended fed next)) where
  is_rest : left ≡ drop (length before + at) (before ++ piece)
  is_rest = is_left ∙ sym (drop-append-add before piece at)

  on : length before + (at + count) ≡ length before + at + count
  on = omega arith

  pub hearing_goes_on : (after : NodeState) → is_bad next ≡ false → after ≡ delivered_all (ended fed next) now → Hearing n before piece (at + count) next after
  hearing_goes_on after good does =
      let read : ReadTo (before ++ piece) (length before + at + count) next = read-on h.read left is_rest count within fed next feeds good in
      let found : frames_of (take (length before + at + count) (before ++ piece)) ≡ frames_of (take (length before + at) (before ++ piece)) ++ ended fed next =
      new-frames h.read left is_rest count within fed next feeds in
      record {
        read = subst (λ (place : ℕ). ReadTo (before ++ piece) place next) (sym on) read;
        more = h.more ++ ended fed next;
        frames = ap (λ (place : ℕ). frames_of (take place (before ++ piece))) on ∙ found ∙ ap (λ ms. ms ++ ended fed next) h.frames ∙ append_assoc (frames_of before) h.more (ended fed next);
        node = does ∙ ap (delivered_all (ended fed next)) h.node ∙ sym (delivered-append h.more (ended fed next) n);
      }

  pub hearing_ends_bad : (len : ℕ) → fed ≡ TooLong len → ((b : List ℕ) → StandsAt b held → is_bad (rest_of (b ++ take count left)) ≡ is_too_long fed)
      → (place begun : ℕ) → length before ≡ place → begun ≡ begun_len held → IsBadAt (before ++ piece) (place + at - begun)
  hearing_ends_bad len long tells place begun many said =
      subst (λ (p : ℕ). IsBadAt (before ++ piece) (p + at - begun)) many (bad-at h.read left is_rest count within fed next feeds len long tells begun said)

-- the bytes of a begun frame are no more than those that were taken
pub begun_inside : {n : NodeState} {before piece : List ℕ} {at : ℕ} {held : List ℕ} {now : NodeState} → Hearing n before piece at held now → begun_len held ≤ length before + at
begun_inside h = omega (arith, frame-begins h.read)

-- all of it was taken
module _ {n : NodeState} {before piece : List ℕ} {at : ℕ} {held : List ℕ} {now : NodeState} (h : Hearing n before piece at held now) (all : length piece ≤ at) where
  whole : take (length before + at) (before ++ piece) ≡ before ++ piece
  whole = take_all (length before + at) (before ++ piece) (omega (arith, all, length-append before piece))

  pub heard_reader : (place : ℕ) → length before ≡ place → Behind (before ++ piece) (place + length piece) held
  heard_reader place many =
      record {
        stands = subst (λ (bytes : List ℕ). StandsAt bytes held) whole h.read.stands;
        good = h.read.good;
        many = omega (arith, length-append before piece, many);
      }

  pub heard_node : now ≡ delivered_all (ended_in before piece) n
  heard_node =
      let frames : frames_of (before ++ piece) ≡ frames_of before ++ h.more = ap frames_of (sym whole) ∙ h.frames in
      let found : ended_in before piece ≡ h.more = ap (drop (length (frames_of before))) frames ∙ drop_at (frames_of before) h.more (length (frames_of before)) refl in
      h.node ∙ ap (λ ms. delivered_all ms n) (sym found)

-- a reader that has met no bad length stands in a good stream
good_begun : (held : List ℕ) (whole : Bool) → is_bad held ≡ false → is_bad (if whole then [] else held) ≡ false
good_begun held true good = refl
good_begun held false good = good

pub good_stream : (bytes : List ℕ) (place : ℕ) (held : List ℕ) → Behind bytes place held → IsGoodStream bytes
good_stream bytes place held b = ap is_bad (rest-held bytes held b.stands b.good) ∙ good_begun held (is_frame held) b.good
