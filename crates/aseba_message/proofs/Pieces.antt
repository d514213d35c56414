-- To take a piece at once is to take its bytes one by one.
use Rattle.std.proofs.Common.{◌≡◌, ℕ, zero, suc, ◌+◌, ◌-◌, ◌<◌, ◌≤◌, min, Bool, true, false, if◌then◌else◌, List, [], ◌∷◌, ◌++◌, length, take, drop, get_or, refl, sym, ap, ◌∙◌, subst, append_assoc, append-nil, length-append, length-drop, length-take-le, zero-add, ◌⊎◌, inl, inr, arith}
use Rattle.std.proofs.Math.Seq.{drop-length, take-length}
use Rattle.std.proofs.lemmas.Bool.{cases_lt}
use Rattle.std.proofs.lemmas.Bool.Decides.{nat_tests}
use Rattle.aseba_message.specs.Frames.{length_word, is_bad, is_frame}
use Rattle.aseba_message.specs.Reader.{answer, begun, fed, is_more, also_taken, taken, wanted, awaited}
use Rattle.aseba_message.specs.declared.reader.Fed.{Fed}
use Rattle.aseba_message.specs.declared.reader.Fed.TheVariants.{More, Whole, TooLong}
use Rattle.aseba_message.proofs.Cuts.{length_word-append}
use Rattle.aseba_message.proofs.Standing.{not_bad-tells, not_frame-tells}

abbrev said : List ℕ → Bool → Bool → Fed
said held bad whole = if bad then TooLong (length_word held) else (if whole then Whole else More)

tests-from_more : (held : List ℕ) (bad whole : Bool) → said held bad whole ≡ More → (bad ≡ false) × (whole ≡ false)
tests-from_more held true whole h = cc
tests-from_more held false true h = cc
tests-from_more held false false h = (refl, refl)

more-tests : (held : List ℕ) → answer held ≡ More → (is_bad held ≡ false) × (is_frame held ≡ false)
more-tests held h = tests-from_more held (is_bad held) (is_frame held) h

more-from_tests : (held : List ℕ) → is_bad held ≡ false → is_frame held ≡ false → answer held ≡ More
more-from_tests held e f = ap (λ b. said held b (is_frame held)) e ∙ ap (λ w. said held false w) f

fed-more : (held : List ℕ) (byte : ℕ) → answer held ≡ More → fed held byte ≡ held ++ byte ∷ []
fed-more held byte h =
    let t = more-tests held h in
    ap (λ b. if b then held else begun held ++ byte ∷ []) t.0 ∙ ap (λ w. (if w then [] else held) ++ byte ∷ []) t.1

pub wanted-short : (held : List ℕ) → length held < 2 → wanted held ≡ 2
wanted-short held h = grind (arith, nat_tests)

pub wanted-long : (held : List ℕ) → 2 ≤ length held → wanted held ≡ 6 + length_word held
wanted-long held h = grind (arith, nat_tests)

quiet-short : (held : List ℕ) → length held < 2 → (is_bad held ≡ false) × (is_frame held ≡ false)
quiet-short held h = (grind (arith, nat_tests), grind (arith, nat_tests))

quiet-long : (held : List ℕ) → 2 ≤ length held → length_word held ≤ 1024 → (length held ≡ 6 + length_word held → ⊥) → (is_bad held ≡ false) × (is_frame held ≡ false)
quiet-long held h small other = (grind (arith, nat_tests), grind (arith, nat_tests))

-- a byte that isn't the last that is waited for
still-more : (held : List ℕ) (byte : ℕ) → answer held ≡ More → length held + 1 < wanted held → answer (held ++ byte ∷ []) ≡ More
still-more held byte h lt = by_len (cases_lt (length held) 2)
  where
    by_len : (length held < 2) ⊎ (2 ≤ length held) → answer (held ++ byte ∷ []) ≡ More
    by_len (inl few) =
        let w = wanted-short held few in
        let len : length (held ++ byte ∷ []) ≡ length held + 1 = length-append held (byte ∷ []) in
        let q = quiet-short (held ++ byte ∷ []) (omega arith) in
        more-from_tests (held ++ byte ∷ []) q.0 q.1
    by_len (inr two) =
        let w = wanted-long held two in
        let len : length (held ++ byte ∷ []) ≡ length held + 1 = length-append held (byte ∷ []) in
        let word = length_word-append held (byte ∷ []) two in
        let small = not_bad-tells held (more-tests held h).0 two in
        let q = quiet-long (held ++ byte ∷ []) (omega arith) (omega arith) (λ e. omega arith) in
        more-from_tests (held ++ byte ∷ []) q.0 q.1

same-wanted : (held : List ℕ) (byte : ℕ) → length held + 1 < wanted held → wanted (held ++ byte ∷ []) ≡ wanted held
same-wanted held byte lt = by_len (cases_lt (length held) 2)
  where
    by_len : (length held < 2) ⊎ (2 ≤ length held) → wanted (held ++ byte ∷ []) ≡ wanted held
    by_len (inl few) =
        let w = wanted-short held few in
        let len : length (held ++ byte ∷ []) ≡ length held + 1 = length-append held (byte ∷ []) in
        wanted-short (held ++ byte ∷ []) (omega arith) ∙ sym w
    by_len (inr two) =
        let len : length (held ++ byte ∷ []) ≡ length held + 1 = length-append held (byte ∷ []) in
        wanted-long (held ++ byte ∷ []) (omega arith) ∙ (ap (λ n. 6 + n) (length_word-append held (byte ∷ []) two) ∙ sym (wanted-long held two))

abbrev pub onward : Fed → ℕ → ℕ × Fed × List ℕ → List ℕ → ℕ × Fed × List ℕ
onward fed n r held = if is_more fed then also_taken n r else (n, fed, held)

onward-next : (f : Fed) (n : ℕ) (r : ℕ × Fed × List ℕ) (held : List ℕ) → also_taken 1 (onward f n r held) ≡ onward f (suc n) r held
onward-next More n r held = let e : 1 + (n + r.0) ≡ suc n + r.0 = omega arith in ap (λ k. (k, r.1, r.2)) e
onward-next Whole n r held = let e : 1 + n ≡ suc n = omega arith in ap (λ k. (k, Whole, held)) e
onward-next (TooLong len) n r held = let e : 1 + n ≡ suc n = omega arith in ap (λ k. (k, TooLong len, held)) e

abbrev run : List ℕ → List ℕ → ℕ → ℕ × Fed × List ℕ
run held piece n = onward (answer (held ++ take n piece)) n (taken (held ++ take n piece) (drop n piece)) (held ++ take n piece)

taken-run : (n : ℕ) (held piece : List ℕ) → answer held ≡ More → n ≤ length piece → length held + n ≤ wanted held → taken held piece ≡ run held piece n
taken-run zero held piece h le room =
    let none : taken held piece ≡ onward (answer held) 0 (taken held piece) held =
    ap (λ k. (k, (taken held piece).1, (taken held piece).2)) (sym (zero-add (taken held piece).0))
    ∙ ap (λ f. onward f 0 (taken held piece) held) (sym h) in
    subst (λ t. taken held piece ≡ onward (answer t) 0 (taken t piece) t) (sym (append-nil held)) none
taken-run (suc n) held [] h le room = absurd (omega arith)
taken-run (suc zero) held (byte ∷ piece) h le room =
    ap (λ t. onward (answer t) 1 (taken t piece) t) (fed-more held byte h)
taken-run (suc (suc n)) held (byte ∷ piece) h le room =
    let next = fed-more held byte h in
    let more = still-more held byte h (omega arith) in
    let same = same-wanted held byte (omega arith) in
    let len : length (held ++ byte ∷ []) ≡ length held + 1 = length-append held (byte ∷ []) in
    let on = taken-run (suc n) (held ++ byte ∷ []) piece more (omega arith) (omega arith) in
    let whole = append_assoc held (byte ∷ []) (take (suc n) piece) in
    ap (λ t. onward (answer t) 1 (taken t piece) t) next
    ∙ (ap (λ f. onward f 1 (taken (held ++ byte ∷ []) piece) (held ++ byte ∷ [])) more
    ∙ (ap (also_taken 1) on
    ∙ (ap (λ t. also_taken 1 (onward (answer t) (suc n) (taken t (drop (suc n) piece)) t)) whole
    ∙ onward-next (answer (held ++ byte ∷ take (suc n) piece)) (suc n) (taken (held ++ byte ∷ take (suc n) piece) (drop (suc n) piece)) (held ++ byte ∷ take (suc n) piece))))

-- a piece of no more than what is waited for is taken whole
onward-count : (f : Fed) (n : ℕ) (x : List ℕ) → (onward f n (taken x []) x).0 ≡ n
onward-count More n x = omega arith
onward-count Whole n x = refl
onward-count (TooLong len) n x = refl

all-from_more : (held piece : List ℕ) → answer held ≡ More → length held + length piece ≤ wanted held → (taken held piece).0 ≡ length piece
all-from_more held piece h room =
    let n = length piece in
    let next = held ++ take n piece in
    ap (λ r. r.0) (taken-run n held piece h (omega arith) room)
    ∙ (ap (λ rest. (onward (answer next) n (taken next rest) next).0) (drop-length piece) ∙ onward-count (answer next) n next)

-- behind a whole frame the next one begins
all-from_whole : (held piece : List ℕ) → is_bad held ≡ false → is_frame held ≡ true → length piece ≤ 2 → (taken held piece).0 ≡ length piece
all-from_whole held [] good e room = refl
all-from_whole held (byte ∷ piece) good e room =
    let next : fed held byte ≡ byte ∷ [] =
    ap (λ b. if b then held else begun held ++ byte ∷ []) good ∙ ap (λ w. (if w then [] else held) ++ byte ∷ []) e in
    ap (λ t. (onward (answer t) 1 (taken t piece) t).0) next ∙ all-from_more [] (byte ∷ piece) refl (omega (arith, room))

all-tested : (held piece : List ℕ) (bad : Bool) → is_bad held ≡ bad → (whole : Bool) → is_frame held ≡ whole
    → length piece ≤ (if bad then 0 else wanted (if whole then [] else held) - (if whole then 0 else length held)) → (taken held piece).0 ≡ length piece
all-tested held [] true e whole f room = refl
all-tested held (byte ∷ piece) true e whole f room = absurd (omega arith)
all-tested held piece false e true f room = all-from_whole held piece e f (omega arith)
all-tested held [] false e false f room = refl
all-tested held (byte ∷ piece) false e false f room = all-from_more held (byte ∷ piece) (more-from_tests held e f) (omega arith)

pub all-taken : (held piece : List ℕ) → length piece ≤ awaited held → (taken held piece).0 ≡ length piece
all-taken held piece room = all-tested held piece (is_bad held) refl (is_frame held) refl room

full : (held piece : List ℕ) (n : ℕ) → n ≤ length piece → length held + n ≡ wanted held → answer (held ++ take n piece) ≡ More → length (held ++ take n piece) ≡ 2
full held piece n fits e more = by_len (cases_lt (length held) 2)
  where
    by_len : (length held < 2) ⊎ (2 ≤ length held) → length (held ++ take n piece) ≡ 2
    by_len (inl few) =
        let w = wanted-short held few in
        let some : length (take n piece) ≡ n = length-take-le n piece fits in
        let len : length (held ++ take n piece) ≡ length held + length (take n piece) = length-append held (take n piece) in
        omega arith
    by_len (inr two) =
        let w = wanted-long held two in
        let some : length (take n piece) ≡ n = length-take-le n piece fits in
        let len : length (held ++ take n piece) ≡ length held + length (take n piece) = length-append held (take n piece) in
        let word = length_word-append held (take n piece) two in
        absurd (not_frame-tells (held ++ take n piece) (more-tests (held ++ take n piece) more).1 (omega arith) (omega arith))

-- a fill that ended with no more to say than that the frame goes on
settled : (held piece : List ℕ) (n : ℕ) → n ≡ min (wanted held - length held) (length piece) → length held ≤ wanted held → answer (held ++ take n piece) ≡ More
    → (n ≡ length piece) ⊎ (length (held ++ take n piece) ≡ 2)
settled held piece n e room more = by_room (cases_lt (wanted held - length held) (length piece))
  where
    by_room : (wanted held - length held < length piece) ⊎ (length piece ≤ wanted held - length held) → (n ≡ length piece) ⊎ (length (held ++ take n piece) ≡ 2)
    by_room (inl lt) = inr (full held piece n (omega arith) (omega arith) more)
    by_room (inr le) = inl (omega arith)

pub once : (held piece : List ℕ) (n : ℕ) (next : List ℕ) → answer held ≡ More → n ≡ min (wanted held - length held) (length piece) → length held ≤ wanted held → next ≡ held ++ take n piece
    → taken held piece ≡ onward (answer next) n (taken next (drop n piece)) next
once held piece n next h e room f =
    taken-run n held piece h (omega arith) (omega arith) ∙ ap (λ t. onward (answer t) n (taken t (drop n piece)) t) (sym f)

-- behind a fill that ended so, the next one ends a frame or the piece
used-up : (piece : List ℕ) (n m : ℕ) (next : List ℕ) → (n ≡ length piece) ⊎ (length next ≡ 2) → m ≡ min (wanted next - length next) (length (drop n piece)) → length next ≤ wanted next
    → answer (next ++ take m (drop n piece)) ≡ More → m ≡ length (drop n piece)
used-up piece n m next (inl e) f room more = omega (arith, length-drop n piece)
used-up piece n m next (inr two) f room more = by_end (settled next (drop n piece) m f room more)
  where
    by_end : (m ≡ length (drop n piece)) ⊎ (length (next ++ take m (drop n piece)) ≡ 2) → m ≡ length (drop n piece)
    by_end (inl e) = e
    by_end (inr e) =
        let w = wanted-long next (omega arith) in
        let some : length (take m (drop n piece)) ≡ m = length-take-le m (drop n piece) (omega arith) in
        let len : length (next ++ take m (drop n piece)) ≡ length next + length (take m (drop n piece)) = length-append next (take m (drop n piece)) in
        omega arith

closing : (n m : ℕ) (piece last : List ℕ) (f : Fed) → (f ≡ More → m ≡ length piece) → also_taken n (onward f m (taken last (drop m piece)) last) ≡ (n + m, f, last)
closing n m piece last More used =
    let none : drop m piece ≡ [] = ap (λ k. drop k piece) (used refl) ∙ drop-length piece in
    let e : n + (m + 0) ≡ n + m = omega arith in
    ap (λ rest. also_taken n (also_taken m (taken last rest))) none ∙ ap (λ k. (k, More, last)) e
closing n m piece last Whole used = refl
closing n m piece last (TooLong len) used = refl

pub twice : (held piece : List ℕ) (n m : ℕ) (next last : List ℕ) → answer held ≡ More → n ≡ min (wanted held - length held) (length piece) → length held ≤ wanted held → next ≡ held ++ take n piece
    → answer next ≡ More → m ≡ min (wanted next - length next) (length (drop n piece)) → length next ≤ wanted next → last ≡ next ++ take m (drop n piece)
    → taken held piece ≡ (n + m, answer last, last)
twice held piece n m next last h e room f g e' room' f' =
    let began : (n ≡ length piece) ⊎ (length next ≡ 2) =
    subst (λ t. (n ≡ length piece) ⊎ (length t ≡ 2)) (sym f) (settled held piece n e room (ap answer (sym f) ∙ g)) in
    once held piece n next h e room f
    ∙ (ap (λ a. onward a n (taken next (drop n piece)) next) g
    ∙ (ap (also_taken n) (once next (drop n piece) m last g e' room' f')
    ∙ closing n m (drop n piece) last (answer last) (λ more. used-up piece n m next began e' room' (ap answer (sym f') ∙ more))))

pub is_more-tells : (f : Fed) → is_more f ≡ true → f ≡ More
is_more-tells More h = refl
is_more-tells Whole h = cc
is_more-tells (TooLong len) h = cc

-- the ends of a call, by what was said at each step
pub first-ends : (held : List ℕ) (byte : ℕ) (piece first : List ℕ) → first ≡ fed held byte → is_more (answer first) ≡ false → (1, answer first, first) ≡ taken held (byte ∷ piece)
first-ends held byte piece first e h =
    sym (ap (λ t. onward (answer t) 1 (taken t piece) t) (sym e) ∙ ap (λ b. if b then also_taken 1 (taken first piece) else (1, answer first, first)) h)

goes_on : (held : List ℕ) (byte : ℕ) (piece first : List ℕ) → first ≡ fed held byte → is_more (answer first) ≡ true → taken held (byte ∷ piece) ≡ also_taken 1 (taken first piece)
goes_on held byte piece first e h =
    ap (λ t. onward (answer t) 1 (taken t piece) t) (sym e) ∙ ap (λ b. if b then also_taken 1 (taken first piece) else (1, answer first, first)) h

pub second-ends : (held : List ℕ) (byte : ℕ) (piece first : List ℕ) (n : ℕ) (next : List ℕ) → first ≡ fed held byte → is_more (answer first) ≡ true
    → n ≡ min (wanted first - length first) (length piece) → length first ≤ wanted first → next ≡ first ++ take n piece → is_more (answer next) ≡ false
    → (said : Fed) → said ≡ answer next → (1 + n, said, next) ≡ taken held (byte ∷ piece)
second-ends held byte piece first n next e h f room g k said told =
    ap (λ a. (1 + n, a, next)) told
    ∙ sym (goes_on held byte piece first e h
    ∙ (ap (also_taken 1) (once first piece n next (is_more-tells (answer first) h) f room g)
    ∙ ap (λ b. also_taken 1 (if b then also_taken n (taken next (drop n piece)) else (n, answer next, next))) k))

pub third-ends : (held : List ℕ) (byte : ℕ) (piece first : List ℕ) (n m : ℕ) (next last : List ℕ) → first ≡ fed held byte → is_more (answer first) ≡ true
    → n ≡ min (wanted first - length first) (length piece) → length first ≤ wanted first → next ≡ first ++ take n piece → is_more (answer next) ≡ true
    → m ≡ min (wanted next - length next) (length (drop n piece)) → length next ≤ wanted next → last ≡ next ++ take m (drop n piece)
    → (said : Fed) → said ≡ answer last → (1 + n + m, said, last) ≡ taken held (byte ∷ piece)
third-ends held byte piece first n m next last e h f room g k f' room' g' said told =
    let count : 1 + n + m ≡ 1 + (n + m) = omega arith in
    ap (λ a. (1 + n + m, a, last)) told
    ∙ ap (λ c. (c, answer last, last)) count
    ∙ sym (goes_on held byte piece first e h
    ∙ ap (also_taken 1) (twice first piece n m next last (is_more-tells (answer first) h) f room g (is_more-tells (answer next) k) f' room' g'))

-- a piece's first byte and the others
pub split-first : (piece : List ℕ) → 0 < length piece → piece ≡ get_or piece 0 0 ∷ take (length piece - 1) (drop 1 piece)
split-first [] h = absurd (omega arith)
split-first (byte ∷ piece) h =
    let len : length (byte ∷ piece) - 1 ≡ length piece = omega arith in
    ap (λ xs. byte ∷ xs) (sym (ap (λ n. take n piece) len ∙ take-length piece))
