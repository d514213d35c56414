-- A reader stands where the cut of what it took says.
use Rattle.std.proofs.Common.{◌≡◌, ℕ, suc, ◌+◌, ◌<◌, ◌≤◌, Bool, true, false, if◌then◌else◌, List, [], ◌∷◌, ◌++◌, length, take, drop, refl, sym, ap, ◌∙◌, subst, append_assoc, append-nil, length-append, ◌⊎◌, inl, inr, arith}
use Rattle.std.specs.Bool.{MatchBool}
use Rattle.std.proofs.Math.Seq.{drop-length}
use Rattle.std.proofs.lemmas.Bool.{cases_lt}
use Rattle.std.proofs.lemmas.Bool.Decides.{nat_tests}
use Rattle.aseba_message.specs.Message.{Message}
use Rattle.aseba_message.specs.Frames.{length_word, is_bad, is_frame, has_frame, frame_len, message_of}
use Rattle.aseba_message.specs.Reader.{Held, answer, begun, fed, is_more, also_taken, taken}
use Rattle.aseba_message.specs.Cut.{behind, frames_of, rest_of, StandsAt, ended, is_too_long}
use Rattle.aseba_message.specs.declared.reader.Fed.{Fed}
use Rattle.aseba_message.specs.declared.reader.Fed.TheVariants.{More, Whole, TooLong}
use Rattle.aseba_message.proofs.Cuts.{cut, cut-append, cut-next, cut-none, frameless, frame-fits, frame-from_fits, length_word-append}

pub bad-tells : (bytes : List ℕ) → is_bad bytes ≡ true → (2 ≤ length bytes) × (1024 < length_word bytes)
bad-tells bytes h = (grind (arith, nat_tests), grind (arith, nat_tests))

pub not_bad-tells : (bytes : List ℕ) → is_bad bytes ≡ false → 2 ≤ length bytes → length_word bytes ≤ 1024
not_bad-tells bytes h two = grind (arith, nat_tests)

pub frame-tells : (bytes : List ℕ) → is_frame bytes ≡ true → length bytes ≡ 6 + length_word bytes
frame-tells bytes h = grind (arith, nat_tests)

pub not_frame-tells : (bytes : List ℕ) → is_frame bytes ≡ false → 2 ≤ length bytes → length bytes ≡ 6 + length_word bytes → ⊥
not_frame-tells bytes h two e = grind (arith, nat_tests)

pub bad-front : (bytes more : List ℕ) → is_bad bytes ≡ true → cut (bytes ++ more) ≡ ([], bytes ++ more)
bad-front bytes more h =
    let f = bad-tells bytes h in
    let word = length_word-append bytes more f.0 in
    cut-none (bytes ++ more) (frameless (has_frame (bytes ++ more)) (λ e. let g = frame-fits (bytes ++ more) e in omega arith))

incomplete : (held : List ℕ) → Held held → is_frame held ≡ false → (2 ≤ length held) × (length_word held ≤ 1024) × (6 + length_word held ≤ length held) → ⊥
incomplete held h e f = not_frame-tells held e f.0 (let k = h.known (omega arith) in omega arith)

pub below : (held : List ℕ) → Held held → is_frame held ≡ false → (2 < length held) ⊎ (length held ≤ 2) → 2 ≤ length held → length held < 6 + length_word held
below held h e (inl l) two = let k = h.known l in let n = not_frame-tells held e two in omega arith
below held h e (inr l) two = omega arith

pub room : (held : List ℕ) → Held held → is_bad held ≡ false → is_frame held ≡ false → (length held < 2) ⊎ (2 ≤ length held) → length held < 1030
room held h good e (inr two) = let b = below held h e (cases_lt 2 (length held)) two in let w = not_bad-tells held good two in omega arith
room held h good e (inl l) = omega arith

goes-on : (held : List ℕ) (byte : ℕ) → Held held → is_bad held ≡ false → is_frame held ≡ false → Held (held ++ byte ∷ [])
goes-on held byte h good e =
    let len : length (held ++ byte ∷ []) ≡ length held + 1 = length-append held (byte ∷ []) in
    let short = room held h good e (cases_lt (length held) 2) in
    record {
      short = omega arith;
      known = λ more.
          let two : 2 ≤ length held = omega arith in
          let word = length_word-append held (byte ∷ []) two in
          let b = below held h e (cases_lt 2 (length held)) two in
          let w = not_bad-tells held good two in
          (omega arith, omega arith);
    }

-- what the cut of the held bytes is, where the two tests on them answer so
abbrev tested : List ℕ → Bool → Bool → List Message × List ℕ
tested held bad whole = (ended (if bad then TooLong (length_word held) else (if whole then Whole else More)) held, if whole then [] else held)

cut-tested : (held : List ℕ) → Held held → is_bad held ≡ false → (whole : Bool) → is_frame held ≡ whole → cut held ≡ tested held false whole
cut-tested held h good true e =
    let len = frame-tells held e in
    let word = not_bad-tells held good (omega arith) in
    let rest : drop (frame_len held) held ≡ [] = ap (λ n. drop n held) (sym len) ∙ drop-length held in
    cut-next held (frame-from_fits held (omega arith) word (omega arith)) ∙ ap (λ r. behind (message_of held) (cut r)) rest
cut-tested held h good false e = cut-none held (frameless (has_frame held) (λ f. incomplete held h e (frame-fits held f)))

-- what is held when the length isn't bad
pub good-cut : (held : List ℕ) → Held held → is_bad held ≡ false → cut held ≡ (ended (answer held) held, begun held)
good-cut held h good =
    cut-tested held h good (is_frame held) refl ∙ ap (λ b. tested held b (is_frame held)) (sym good)

-- a frame that has begun
pub held-fed : (held : List ℕ) (byte : ℕ) → Held held → Held (fed held byte)
held-fed held byte h = by_test (is_bad held) refl (is_frame held) refl
  where
    by_test : (bad : Bool) → is_bad held ≡ bad → (whole : Bool) → is_frame held ≡ whole → Held (if bad then held else (if whole then [] else held) ++ byte ∷ [])
    by_test true e whole f = h
    by_test false e true f = record { short = omega arith; known = λ more. absurd (omega arith) }
    by_test false e false f = goes-on held byte h e f

abbrev pub Step : List ℕ → List ℕ → ℕ → Type 0
Step bytes held byte = StandsAt (bytes ++ byte ∷ []) held × (frames_of (bytes ++ byte ∷ []) ≡ frames_of bytes ++ ended (answer held) held)

-- the same with the answers of the test for a bad length written out
abbrev Stands : Bool → List ℕ → List ℕ → Type 0
Stands bad bytes held = MatchBool bad ((more : List ℕ) × (rest_of bytes ≡ held ++ more)) (rest_of bytes ≡ begun held)

abbrev ends : Bool → List ℕ → List Message
ends bad held = ended (if bad then TooLong (length_word held) else (if is_frame held then Whole else More)) held

stays : (bytes held : List ℕ) (byte : ℕ) → is_bad held ≡ true → Stands true bytes held → Step bytes held byte
stays bytes held byte e stands =
    let rest : rest_of bytes ++ byte ∷ [] ≡ held ++ (stands.0 ++ byte ∷ []) = ap (λ r. r ++ byte ∷ []) stands.1 ∙ append_assoc held stands.0 (byte ∷ []) in
    let same : cut (bytes ++ byte ∷ []) ≡ (frames_of bytes ++ [], held ++ (stands.0 ++ byte ∷ [])) =
    cut-append bytes (byte ∷ [])
    ∙ ap (λ c. (frames_of bytes ++ c.0, c.1)) (ap cut rest ∙ bad-front held (stands.0 ++ byte ∷ []) e) in (
      subst (λ b. Stands b (bytes ++ byte ∷ []) held) (sym e) (stands.0 ++ byte ∷ [], ap (λ c. c.1) same),
      ap (λ c. c.0) same ∙ ap (λ b. frames_of bytes ++ ends b held) (sym e),
    )

moves : (bytes next : List ℕ) (byte : ℕ) → Held next → cut (bytes ++ byte ∷ []) ≡ (frames_of bytes ++ (cut next).0, (cut next).1) → (bad : Bool) → is_bad next ≡ bad → Step bytes next byte
moves bytes next byte h same true e =
    let alone : cut next ≡ ([], next ++ []) = ap cut (sym (append-nil next)) ∙ bad-front next [] e in
    let all = same ∙ ap (λ c. (frames_of bytes ++ c.0, c.1)) alone in (
      subst (λ b. Stands b (bytes ++ byte ∷ []) next) (sym e) ([], ap (λ c. c.1) all),
      ap (λ c. c.0) all ∙ ap (λ b. frames_of bytes ++ ends b next) (sym e),
    )
moves bytes next byte h same false e =
    let all = same ∙ ap (λ c. (frames_of bytes ++ c.0, c.1)) (good-cut next h e) in
    (subst (λ b. Stands b (bytes ++ byte ∷ []) next) (sym e) (ap (λ c. c.1) all), ap (λ c. c.0) all)

step-tested : (bytes held : List ℕ) (byte : ℕ) → Held held → (bad : Bool) → is_bad held ≡ bad → Stands bad bytes held → Step bytes (if bad then held else begun held ++ byte ∷ []) byte
step-tested bytes held byte h true e stands = stays bytes held byte e stands
step-tested bytes held byte h false e stands =
    let next : fed held byte ≡ begun held ++ byte ∷ [] = ap (λ b. if b then held else begun held ++ byte ∷ []) e in
    moves bytes (begun held ++ byte ∷ []) byte (subst Held next (held-fed held byte h))
    (cut-append bytes (byte ∷ []) ∙ ap (λ r. (frames_of bytes ++ (cut (r ++ byte ∷ [])).0, (cut (r ++ byte ∷ [])).1)) stands)
    (is_bad (begun held ++ byte ∷ [])) refl

-- a byte takes a reader on
pub step : (bytes held : List ℕ) (byte : ℕ) → Held held → StandsAt bytes held → Step bytes (fed held byte) byte
step bytes held byte h stands = step-tested bytes held byte h (is_bad held) refl stands

-- so does a piece, up to where it is taken
abbrev pub Taking : List ℕ → List ℕ → ℕ × Fed × List ℕ → Type 0
Taking bytes piece r = StandsAt (bytes ++ take r.0 piece) r.2 × (frames_of (bytes ++ take r.0 piece) ≡ frames_of bytes ++ ended r.1 r.2)

on : (bytes held : List ℕ) (byte : ℕ) (piece : List ℕ) → Held held → StandsAt bytes held
    → ((more : List ℕ) (next : List ℕ) → Held next → StandsAt more next → Taking more piece (taken next piece))
    → (f : Fed) → answer (fed held byte) ≡ f
    → Taking bytes (byte ∷ piece) (if is_more f then also_taken 1 (taken (fed held byte) piece) else (1, f, fed held byte))
on bytes held byte piece h stands ih More e =
    let first = step bytes held byte h stands in
    let r = taken (fed held byte) piece in
    let next = ih (bytes ++ byte ∷ []) (fed held byte) (held-fed held byte h) first.0 in
    let count : 1 + r.0 ≡ suc r.0 = omega arith in
    let whole : (bytes ++ byte ∷ []) ++ take r.0 piece ≡ bytes ++ take (1 + r.0) (byte ∷ piece) =
    append_assoc bytes (byte ∷ []) (take r.0 piece) ∙ ap (λ n. bytes ++ take n (byte ∷ piece)) (sym count) in
    let none : frames_of (bytes ++ byte ∷ []) ≡ frames_of bytes =
    first.1 ∙ (ap (λ f. frames_of bytes ++ ended f (fed held byte)) e ∙ append-nil (frames_of bytes)) in (
      subst (λ b. StandsAt b r.2) whole next.0,
      ap frames_of (sym whole) ∙ (next.1 ∙ ap (λ fs. fs ++ ended r.1 r.2) none),
    )
on bytes held byte piece h stands ih Whole e =
    let first = step bytes held byte h stands in
    (first.0, first.1 ∙ ap (λ f. frames_of bytes ++ ended f (fed held byte)) e)
on bytes held byte piece h stands ih (TooLong len) e =
    let first = step bytes held byte h stands in
    (first.0, first.1 ∙ ap (λ f. frames_of bytes ++ ended f (fed held byte)) e)

pub taking-none : (bytes held : List ℕ) → StandsAt bytes held → Taking bytes [] (0, More, held)
taking-none bytes held stands =
    (subst (λ b. StandsAt b held) (sym (append-nil bytes)) stands, ap frames_of (append-nil bytes) ∙ sym (append-nil (frames_of bytes)))

pub taking : (bytes held piece : List ℕ) → Held held → StandsAt bytes held → Taking bytes piece (taken held piece)
taking bytes held [] h stands = taking-none bytes held stands
taking bytes held (byte ∷ piece) h stands =
    on bytes held byte piece h stands (λ more next k s. taking more next piece k s) (answer (fed held byte)) refl

pub bad-append : (held more : List ℕ) → is_bad held ≡ true → is_bad (held ++ more) ≡ true
bad-append held more h =
    let f = bad-tells held h in
    let word = length_word-append held more f.0 in
    let len = length-append held more in
    grind (arith, nat_tests)

begun-good : (held : List ℕ) → is_bad held ≡ false → (whole : Bool) → is_bad (if whole then [] else held) ≡ false
begun-good held h true = refl
begun-good held h false = h

rest-bad : (bytes held : List ℕ) (bad : Bool) → is_bad held ≡ bad → Stands bad bytes held → is_bad (rest_of bytes) ≡ bad
rest-bad bytes held true e stands = ap is_bad stands.1 ∙ bad-append held stands.0 e
rest-bad bytes held false e stands = ap is_bad stands ∙ begun-good held e (is_frame held)

too_long : (held : List ℕ) (bad whole : Bool) → bad ≡ is_too_long (if bad then TooLong (length_word held) else (if whole then Whole else More))
too_long held true whole = refl
too_long held false true = refl
too_long held false false = refl

-- a reader that stands there says that the length is too long exactly where what remains begins with one
pub stands-bad : (bytes held : List ℕ) → StandsAt bytes held → is_bad (rest_of bytes) ≡ is_too_long (answer held)
stands-bad bytes held stands = rest-bad bytes held (is_bad held) refl stands ∙ too_long held (is_bad held) (is_frame held)

frame-tested : (held : List ℕ) (bad whole : Bool) → is_frame held ≡ whole → (if bad then TooLong (length_word held) else (if whole then Whole else More)) ≡ Whole → is_frame held ≡ true
frame-tested held true whole e f = cc
frame-tested held false true e f = e
frame-tested held false false e f = cc

-- where a frame has ended, the bytes held are that frame
pub frame_held : (held : List ℕ) (said : Fed) → said ≡ answer held → said ≡ Whole → is_frame held ≡ true
frame_held held said e f = frame-tested held (is_bad held) (is_frame held) refl (sym e ∙ f)
