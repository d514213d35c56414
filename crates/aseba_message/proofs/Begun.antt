-- How many bytes of a begun frame a reader holds, and how many it waits for.
use Rattle.std.proofs.Common.{◌≡◌, ℕ, ◌+◌, ◌-◌, ◌<◌, ◌≤◌, Bool, true, false, if◌then◌else◌, List, [], ◌∷◌, ◌++◌, length, refl, sym, ap, ◌∙◌, length-append, ◌⊎◌, inl, inr, arith}
use Rattle.std.proofs.lemmas.Bool.{cases_lt}
use Rattle.aseba_message.specs.Frames.{length_word, is_bad, is_frame}
use Rattle.aseba_message.specs.Reader.{Held, BegunBehind, answer, awaited, begun, begun_len, fed, is_more, also_taken, taken, wanted}
use Rattle.aseba_message.specs.declared.reader.Fed.{Fed}
use Rattle.aseba_message.specs.declared.reader.Fed.TheVariants.{More, Whole, TooLong}
use Rattle.aseba_message.proofs.Standing.{bad-tells, not_bad-tells, frame-tells, below, room, held-fed}
use Rattle.aseba_message.proofs.Pieces.{wanted-short, wanted-long}

pub begun-length : (held : List ℕ) (whole : Bool) → (if whole then 0 else length held) ≡ length (if whole then [] else held)
begun-length held true = refl
begun-length held false = refl

-- behind a bad length two bytes are held
bad-two : (held : List ℕ) → Held held → is_bad held ≡ true → (2 < length held) ⊎ (length held ≤ 2) → length held ≡ 2
bad-two held h e (inl l) = let k = h.known l in let b = bad-tells held e in absurd (omega arith)
bad-two held h e (inr l) = let b = bad-tells held e in omega arith

bad-frame : (held : List ℕ) → Held held → is_bad held ≡ true → is_frame held ≡ true → ⊥
bad-frame held h e f = let b = bad-tells held e in let w = frame-tells held f in let s = h.short in omega arith

tested : (before count : ℕ) (held : List ℕ) → Held held → (bad : Bool) → is_bad held ≡ bad → (whole : Bool) → is_frame held ≡ whole
    → (bad ≡ false → whole ≡ false → length held ≡ before + count)
    → BegunBehind before count (if bad then TooLong (length_word held) else (if whole then Whole else More)) (if whole then 0 else length held)
tested before count held h true e true f more = absurd (bad-frame held h e f)
tested before count held h true e false f more = bad-two held h e (cases_lt 2 (length held))
tested before count held h false e true f more = refl
tested before count held h false e false f more = let r = room held h e f (cases_lt (length held) 2) in (more refl refl, omega arith)

-- one byte
next-length : (held : List ℕ) (byte : ℕ) (bad : Bool) → is_bad held ≡ bad → is_bad (if bad then held else begun held ++ byte ∷ []) ≡ false
    → length (if bad then held else begun held ++ byte ∷ []) ≡ begun_len held + 1
next-length held byte true e f = absurd cc
next-length held byte false e f = length-append (begun held) (byte ∷ []) ∙ ap (λ n. n + 1) (sym (begun-length held (is_frame held)))

pub fed-behind : (held : List ℕ) (byte : ℕ) → Held held → BegunBehind (begun_len held) 1 (answer (fed held byte)) (begun_len (fed held byte))
fed-behind held byte h =
    tested (begun_len held) 1 (fed held byte) (held-fed held byte h) (is_bad (fed held byte)) refl (is_frame (fed held byte)) refl
    (λ good more. next-length held byte (is_bad held) refl good)

-- a piece
begun-few : (held : List ℕ) → Held held → (whole : Bool) → is_frame held ≡ whole → (if whole then 0 else length held) ≤ 1029
begun-few held h true f = omega arith
begun-few held h false f = by_test (is_bad held) refl
  where
    by_test : (bad : Bool) → is_bad held ≡ bad → length held ≤ 1029
    by_test true e = let two = bad-two held h e (cases_lt 2 (length held)) in omega arith
    by_test false e = let r = room held h e f (cases_lt (length held) 2) in omega arith

later : (before next count now : ℕ) (f : Fed) → next ≡ before + 1 → BegunBehind next count f now → BegunBehind before (1 + count) f now
later before next count now More e (a, b) = (omega arith, b)
later before next count now Whole e r = r
later before next count now (TooLong len) e r = r

-- what comes of a piece, by what its first byte did
abbrev went : List ℕ → ℕ → List ℕ → Fed → ℕ × Fed × List ℕ
went held byte piece f = if is_more f then also_taken 1 (taken (fed held byte) piece) else (1, f, fed held byte)

on : (held : List ℕ) (byte : ℕ) (piece : List ℕ) → Held held
    → ((next : List ℕ) → Held next → BegunBehind (begun_len next) (taken next piece).0 (taken next piece).1 (begun_len (taken next piece).2))
    → (f : Fed) → BegunBehind (begun_len held) 1 f (begun_len (fed held byte))
    → BegunBehind (begun_len held) (went held byte piece f).0 (went held byte piece f).1 (begun_len (went held byte piece f).2)
on held byte piece h ih More first =
    let rest = taken (fed held byte) piece in
    later (begun_len held) (begun_len (fed held byte)) rest.0 (begun_len rest.2) rest.1 first.0 (ih (fed held byte) (held-fed held byte h))
on held byte piece h ih Whole first = first
on held byte piece h ih (TooLong len) first = first

pub taken-behind : (held piece : List ℕ) → Held held → BegunBehind (begun_len held) (taken held piece).0 (taken held piece).1 (begun_len (taken held piece).2)
taken-behind held [] h = (omega arith, begun-few held h (is_frame held) refl)
taken-behind held (byte ∷ piece) h =
    on held byte piece h (λ next k. taken-behind next piece k) (answer (fed held byte)) (fed-behind held byte h)

-- something is awaited where no length is bad, and never too much
awaited-tested : (held : List ℕ) → Held held → is_bad held ≡ false → (whole : Bool) → is_frame held ≡ whole
    → (0 < wanted (if whole then [] else held) - (if whole then 0 else length held)) × (wanted (if whole then [] else held) - (if whole then 0 else length held) ≤ 1028)
awaited-tested held h good true f = (omega arith, omega arith)
awaited-tested held h good false f = by_len (cases_lt (length held) 2)
  where
    by_len : (length held < 2) ⊎ (2 ≤ length held) → (0 < wanted held - length held) × (wanted held - length held ≤ 1028)
    by_len (inl short) = let w = wanted-short held short in (omega arith, omega arith)
    by_len (inr two) =
        let w = wanted-long held two in
        let b = below held h f (cases_lt 2 (length held)) two in
        let n = not_bad-tells held good two in
        (omega arith, omega arith)

pub awaited-some : (held : List ℕ) → Held held → is_bad held ≡ false → (0 < awaited held) × (awaited held ≤ 1028)
awaited-some held h good =
    rw good (awaited-tested held h good (is_frame held) refl)
