-- A stream that is read up to a place: where its frames end, and where a bad length stands.
use Rattle.std.proofs.Common.{◌≡◌, ℕ, zero, suc, ◌+◌, ◌-◌, ◌≤◌, Bool, true, false, if◌then◌else◌, List, [], ◌∷◌, ◌++◌, length, take, drop, refl, sym, ap, ◌∙◌, subst, append-nil, length-append, length-drop, length-take-le, zero-add, arith}
use Rattle.std.specs.List.{flat_map}
use Rattle.std.specs.Bool.{MatchBool}
use Rattle.std.proofs.Math.Seq.{take-add}
use Rattle.std.proofs.lemmas.List.{take-append-drop}
use Rattle.aseba_message.specs.Frames.{spelling, length_word, is_bad, is_frame, has_frame, frame_len, message_of}
use Rattle.aseba_message.specs.Reader.{answer, begun, begun_len}
use Rattle.aseba_message.specs.Cut.{frames_of, rest_of, IsBadAt, StandsAt, ended, is_too_long}
use Rattle.aseba_message.specs.declared.reader.Fed.{Fed}
use Rattle.aseba_message.specs.declared.reader.Fed.TheVariants.{More, Whole, TooLong}
use Rattle.aseba_message.proofs.Cuts.{cut, cut-append, cut-next, cut-none, frame-fits}
use Rattle.aseba_message.proofs.Standing.{bad-front, bad-append}
use Rattle.aseba_message.proofs.Begun.{begun-length}

-- a length that no frame may have stays one, whatever follows, and no frame follows
module _ (bytes more : List ℕ) (bad : is_bad (rest_of bytes) ≡ true) where
  bad-cut : cut (bytes ++ more) ≡ (frames_of bytes ++ [], rest_of bytes ++ more)
  bad-cut = cut-append bytes more ∙ ap (λ c. (frames_of bytes ++ c.0, c.1)) (bad-front (rest_of bytes) more bad)

  pub bad-frames : frames_of (bytes ++ more) ≡ frames_of bytes
  bad-frames = ap (λ c. c.0) bad-cut ∙ append-nil (frames_of bytes)

  pub bad-stays : is_bad (rest_of (bytes ++ more)) ≡ true
  bad-stays = ap (λ c. is_bad c.1) bad-cut ∙ bad-append (rest_of bytes) more bad

-- the frames and what remains are as long as the stream
abbrev Measured : List ℕ → Type 0
Measured bytes = length (flat_map spelling (frames_of bytes)) + length (rest_of bytes) ≡ length bytes

front-length : (bytes : List ℕ) → has_frame bytes ≡ true → length (spelling (message_of bytes)) ≡ frame_len bytes
front-length bytes e =
    let f = frame-fits bytes e in
    let room : length_word bytes ≤ length (drop 6 bytes) = omega (arith, length-drop 6 bytes) in
    let payload = length-take-le (length_word bytes) (drop 6 bytes) room in
    omega (arith, payload)

measured_by_front : (bytes : List ℕ) → (6 + length_word bytes ≤ length bytes → Measured (drop (frame_len bytes) bytes)) → (b : Bool) → has_frame bytes ≡ b → Measured bytes
measured_by_front bytes ih true e =
    let behind = drop (frame_len bytes) bytes in
    let f = frame-fits bytes e in
    let front = front-length bytes e in
    let split = length-append (spelling (message_of bytes)) (flat_map spelling (frames_of behind)) in
    let left = length-drop (frame_len bytes) bytes in
    let others = ih f.2 in
    let all : length (flat_map spelling (message_of bytes ∷ frames_of behind)) + length (rest_of behind) ≡ length bytes = omega (arith, front, split, left, others, f.2) in
    subst (λ c. length (flat_map spelling c.0) + length c.1 ≡ length bytes) (sym (cut-next bytes e)) all
measured_by_front bytes ih false e = subst (λ c. length (flat_map spelling c.0) + length c.1 ≡ length bytes) (sym (cut-none bytes e)) (zero-add (length bytes))

measured_up_to : (n : ℕ) (bytes : List ℕ) → length bytes ≤ n → Measured bytes
measured_up_to zero bytes h = measured_by_front bytes (λ f. absurd (omega arith)) (has_frame bytes) refl
measured_up_to (suc n) bytes h =
    measured_by_front bytes (λ f. measured_up_to n (drop (frame_len bytes) bytes) (omega (arith, f, length-drop (frame_len bytes) bytes))) (has_frame bytes) refl

pub measured : (bytes : List ℕ) → length (flat_map spelling (frames_of bytes)) + length (rest_of bytes) ≡ length bytes
measured bytes = measured_up_to (length bytes) bytes (omega arith)

-- what remains where a reader stands that has met no bad length
pub rest-held : (bytes held : List ℕ) → StandsAt bytes held → is_bad held ≡ false → rest_of bytes ≡ begun held
rest-held bytes held stands good = subst (λ b. MatchBool b ((more : List ℕ) × (rest_of bytes ≡ held ++ more)) (rest_of bytes ≡ begun held)) good stands

-- so many bytes of a stream were taken, and no bad length was met
pub record ReadTo (bytes : List ℕ) (place : ℕ) (held : List ℕ) : Type 0 where
  pub inside : place ≤ length bytes
  pub stands : StandsAt (take place bytes) held
  pub good : is_bad held ≡ false

-- where the frame began that isn't whole yet
pub frame-begins : {bytes : List ℕ} {place : ℕ} {held : List ℕ} → ReadTo bytes place held → length (flat_map spelling (frames_of (take place bytes))) + begun_len held ≡ place
frame-begins {bytes} {place} {held} r =
    let rest = ap length (rest-held (take place bytes) held r.stands r.good) in
    let begun = begun-length held (is_frame held) in
    let taken = length-take-le place bytes r.inside in
    omega (arith, rest, begun, taken, measured (take place bytes))

-- a piece is taken next, up to where a frame ends or its length is bad
module _ {bytes : List ℕ} {place : ℕ} {held : List ℕ} (r : ReadTo bytes place held) (piece : List ℕ) (is_rest : piece ≡ drop place bytes) (count : ℕ) (within : count ≤ length piece)
    (fed : Fed) (next : List ℕ) (feeds : (b : List ℕ) → StandsAt b held → StandsAt (b ++ take count piece) next × (frames_of (b ++ take count piece) ≡ frames_of b ++ ended fed next)) where
  goes_on : StandsAt (take place bytes ++ take count piece) next × (frames_of (take place bytes ++ take count piece) ≡ frames_of (take place bytes) ++ ended fed next)
  goes_on = feeds (take place bytes) r.stands

  taken : take place bytes ++ take count piece ≡ take (place + count) bytes
  taken = ap (λ p. take place bytes ++ take count p) is_rest ∙ sym (take-add place count bytes)

  parts : take (place + count) bytes ++ drop (place + count) bytes ≡ bytes
  parts = take-append-drop (place + count) bytes

  -- at most one frame has ended
  pub new-frames : frames_of (take (place + count) bytes) ≡ frames_of (take place bytes) ++ ended fed next
  new-frames = ap frames_of (sym taken) ∙ goes_on.1

  -- the others lie behind the piece
  pub later-frames : frames_of (take (place + count) bytes) ++ (cut (rest_of (take (place + count) bytes) ++ drop (place + count) bytes)).0 ≡ frames_of bytes
  later-frames = sym (ap (λ c. c.0) (cut-append (take (place + count) bytes) (drop (place + count) bytes))) ∙ ap frames_of parts

  pub read-on : is_bad next ≡ false → ReadTo bytes (place + count) next
  read-on good =
      record {
        inside = omega (arith, r.inside, within, ap length is_rest, length-drop place bytes);
        stands = subst (λ (b : List ℕ). StandsAt b next) taken goes_on.0;
        good = good;
      }

  -- the length is bad, so the frames before it are all
  module _ (len : ℕ) (long : fed ≡ TooLong len) (tells : (b : List ℕ) → StandsAt b held → is_bad (rest_of (b ++ take count piece)) ≡ is_too_long fed) where
    bad_there : is_bad (rest_of (take (place + count) bytes)) ≡ true
    bad_there = ap (λ b. is_bad (rest_of b)) (sym taken) ∙ tells (take place bytes) r.stands ∙ ap is_too_long long

    pub no-later : frames_of bytes ≡ frames_of (take (place + count) bytes)
    no-later = ap frames_of (sym parts) ∙ bad-frames (take (place + count) bytes) (drop (place + count) bytes) bad_there

    same : frames_of bytes ≡ frames_of (take place bytes)
    same = no-later ∙ new-frames ∙ ap (λ f. frames_of (take place bytes) ++ ended f next) long ∙ append-nil (frames_of (take place bytes))

    pub bad-at : (begun : ℕ) → begun ≡ begun_len held → IsBadAt bytes (place - begun)
    bad-at begun said =
        let spelled = ap (λ fs. length (flat_map spelling fs)) same in
        record {
          bad = ap (λ b. is_bad (rest_of b)) (sym parts) ∙ bad-stays (take (place + count) bytes) (drop (place + count) bytes) bad_there;
          behind = omega (arith, said, frame-begins r, spelled);
        }

-- a length that isn't told to be too long isn't bad
pub good-unless_long : (held : List ℕ) (fed : Fed) → fed ≡ answer held → ((len : ℕ) → fed ≡ TooLong len → ⊥) → is_bad held ≡ false
good-unless_long held fed said short = by_test (is_bad held) refl
  where
    by_test : (bad : Bool) → is_bad held ≡ bad → is_bad held ≡ false
    by_test true e = absurd (short (length_word held) (said ∙ ap (λ b. if b then TooLong (length_word held) else (if is_frame held then Whole else More)) e))
    by_test false e = e
