-- Hexadecimal digits are read from their spelling, and what is read is spelled so.
use Rattle.std.proofs.Common.{◌≡◌, ℕ, zero, suc, ◌+◌, ◌*◌, ◌/◌, ◌%◌, ◌<◌, ◌≤◌, ◌==◌, nat_lt, Bool, true, false, not, List, [], ◌∷◌, length, codes, Some, Result, Ok, Err, refl, sym, ap, ◌∙◌, subst, arith, cond}
use Rattle.std.specs.List.{AllByRecursion}
use Rattle.std.specs.Fmt.{digit_glyph}
use Rattle.std.proofs.lemmas.Bool.{eqb-true, eq-eqb}
use Rattle.std.proofs.lemmas.Grind.{common_steps}
use Rattle.hex.specs.Hex.{IsBytes, encode_lower, lower_digits, decode_of}
use Rattle.hex.specs.declared.error.FromHexError.{FromHexError}
use Rattle.hex.proofs.HexLemmas.{length-encode_with, decode_of-encode_lower, decode_of-ok}
use Rattle.aseba_words.specs.Spelled.{word_text}
use Rattle.aseba_text.specs.Options.{◌>>=◌, when}
use Rattle.aseba_text.specs.Names.{is_same}
use Rattle.aseba_text.proofs.Options.{when_takes, when_true, and_takes, and_true, bind_takes, bind_some, some_is}
use Rattle.aseba_text.proofs.CellLaws.{leb_from, leb_to}
use Rattle.aseba_text.proofs.NumberLaws.{same_is, is_same_from}
use Rattle.aseba_payload.specs.Layout.{IsByte}
use Rattle.aseba_dump.specs.DumpText.{bytes_text}
use Rattle.aseba_record.specs.Reading.{digit_of, kind_of, spelled_by, are_words, bytes_of, payload_of}

lt_from : (a b : ℕ) → a < b → nat_lt a b ≡ true
lt_from a b h = grind (arith, common_steps)

-- Digits

pub digit_again : (v : ℕ) → v < 16 → digit_of (digit_glyph false v) ≡ Some v
digit_again v h = grind (arith, common_steps)

pub digit_takes : (b v : ℕ) → digit_of b ≡ Some v → (v < 16) × (b ≡ digit_glyph false v)
digit_takes b v h = grind (arith, common_steps)

-- Numbers of events

pub kind_again : (n : ℕ) → n < 0x8000 → kind_of (word_text n) ≡ Some n
unfolding kind_of
kind_again n h =
    let p : ℕ = n / 4096 % 16 in
    let q : ℕ = n / 256 % 16 in
    let r : ℕ = n / 16 % 16 in
    let s : ℕ = n % 16 in
    let whole : p * 4096 + q * 256 + r * 16 + s ≡ n = omega arith in
    bind_some _ _ p (digit_again p (omega arith))
    ∙ bind_some _ _ q (digit_again q (omega arith))
    ∙ bind_some _ _ r (digit_again r (omega arith))
    ∙ bind_some _ _ s (digit_again s (omega arith))
    ∙ when_true (nat_lt p 8) _ (grind (arith, common_steps))
    ∙ ap Some whole

glyphs : (p q r s n : ℕ) → p < 16 → q < 16 → r < 16 → s < 16 → p * 4096 + q * 256 + r * 16 + s ≡ n
    → digit_glyph false p ∷ digit_glyph false q ∷ digit_glyph false r ∷ digit_glyph false s ∷ [] ≡ word_text n
glyphs p q r s n hp hq hr hs e =
    let ep : p ≡ n / 4096 % 16 = omega arith in
    let eq : q ≡ n / 256 % 16 = omega arith in
    let er : r ≡ n / 16 % 16 = omega arith in
    let es : s ≡ n % 16 = omega arith in
    λ i. digit_glyph false (ep i) ∷ digit_glyph false (eq i) ∷ digit_glyph false (er i) ∷ digit_glyph false (es i) ∷ []

pub kind_takes : (text : List ℕ) (n : ℕ) → kind_of text ≡ Some n → (n < 0x8000) × (text ≡ word_text n)
unfolding kind_of
kind_takes [] n h = absurd cc
kind_takes (a ∷ []) n h = absurd cc
kind_takes (a ∷ b ∷ []) n h = absurd cc
kind_takes (a ∷ b ∷ c ∷ []) n h = absurd cc
kind_takes (a ∷ b ∷ c ∷ d ∷ []) n h =
    let p = bind_takes _ _ _ h in
    let q = bind_takes _ _ _ p.2 in
    let r = bind_takes _ _ _ q.2 in
    let s = bind_takes _ _ _ r.2 in
    let w = when_takes _ _ _ s.2 in
    let dp = digit_takes a p.0 p.1 in
    let dq = digit_takes b q.0 q.1 in
    let dr = digit_takes c r.0 r.1 in
    let ds = digit_takes d s.0 s.1 in
    let low : p.0 < 8 = grind (arith, common_steps, w.0) in (
      omega (arith, dp.0, dq.0, dr.0, ds.0, w.1, low),
      (λ i. dp.1 i ∷ dq.1 i ∷ dr.1 i ∷ ds.1 i ∷ []) ∙ glyphs p.0 q.0 r.0 s.0 n dp.0 dq.0 dr.0 ds.0 w.1,
    )
kind_takes (a ∷ b ∷ c ∷ d ∷ e ∷ rest) n h = absurd cc

-- Bytes

abbrev pub AreBytes : List ℕ → Type 0
AreBytes bytes = AllByRecursion IsByte bytes

is_bytes : (bytes : List ℕ) → AreBytes bytes → IsBytes bytes
is_bytes [] h i = omega arith
is_bytes (b ∷ bs) h zero = h.0
is_bytes (b ∷ bs) h (suc i) = is_bytes bs h.1 i

are_bytes : (bytes : List ℕ) → IsBytes bytes → AreBytes bytes
are_bytes [] h = tt
are_bytes (b ∷ bs) h = (h 0, are_bytes bs (λ i. h (suc i)))

bytes_again : (bytes : List ℕ) → AreBytes bytes → are_words bytes ≡ true → bytes_of (encode_lower bytes) ≡ Some bytes
unfolding bytes_of
bytes_again bytes all words =
    ap (λ r. spelled_by (encode_lower bytes) r >>= λ b. when (are_words b) b) (decode_of-encode_lower bytes (is_bytes bytes all))
    ∙ bind_some _ _ bytes (when_true _ bytes (is_same_from (encode_lower bytes) (encode_lower bytes) refl))
    ∙ when_true _ bytes words

spelled_takes : (text bytes : List ℕ) (r : Result (List ℕ) FromHexError) → decode_of text ≡ r → spelled_by text r ≡ Some bytes → (text ≡ encode_lower bytes) × AreBytes bytes
spelled_takes text bytes (Err e) d h = absurd cc
spelled_takes text bytes (Ok found) d h =
    let w = when_takes (is_same (encode_lower found) text) found bytes h in
    (sym (same_is (encode_lower found) text w.0) ∙ ap encode_lower w.1, subst AreBytes w.1 (are_bytes found (decode_of-ok text found d).3))

bytes_takes : (text bytes : List ℕ) → bytes_of text ≡ Some bytes → (text ≡ encode_lower bytes) × AreBytes bytes × (are_words bytes ≡ true)
unfolding bytes_of
bytes_takes text bytes h =
    let b = bind_takes _ _ _ h in
    let w = when_takes (are_words b.0) b.0 bytes b.2 in
    let s = spelled_takes text b.0 (decode_of text) refl b.1 in
    (s.0 ∙ ap encode_lower w.1, subst AreBytes w.1 s.1, subst (λ (x : List ℕ). are_words x ≡ true) w.1 w.0)

no_dash : (b : ℕ) (bs : List ℕ) → is_same (encode_lower (b ∷ bs)) (codes "-") ≡ false
no_dash b bs = by (is_same (encode_lower (b ∷ bs)) (codes "-")) refl
  where
    by : (t : Bool) → is_same (encode_lower (b ∷ bs)) (codes "-") ≡ t → t ≡ false
    by true e =
        let long : length (encode_lower (b ∷ bs)) ≡ 2 * length (b ∷ bs) = length-encode_with lower_digits (b ∷ bs) in
        let short : length (encode_lower (b ∷ bs)) ≡ 1 = ap length (same_is (encode_lower (b ∷ bs)) (codes "-") e) in
        absurd (omega arith)
    by false e = refl

words_are : (b : ℕ) (bs : List ℕ) → length (b ∷ bs) ≤ 1024 → length (b ∷ bs) % 2 ≡ 0 → are_words (b ∷ bs) ≡ true
words_are b bs few even = and_true _ _ (and_true _ _ (lt_from 0 (length (b ∷ bs)) (omega arith)) (leb_from (length (b ∷ bs)) 1024 few)) (eq-eqb (length (b ∷ bs) % 2) 0 even)

pub payload_again : (bytes : List ℕ) → AreBytes bytes → length bytes ≤ 1024 → length bytes % 2 ≡ 0 → payload_of (bytes_text bytes) ≡ Some bytes
payload_again [] all few even = refl
payload_again (b ∷ bs) all few even =
    ap (λ t. cond t (Some []) (bytes_of (encode_lower (b ∷ bs)))) (no_dash b bs) ∙ bytes_again (b ∷ bs) all (words_are b bs few even)

some_text : (bytes : List ℕ) → are_words bytes ≡ true → encode_lower bytes ≡ bytes_text bytes
some_text [] h = absurd cc
some_text (b ∷ bs) h = refl

pub payload_takes : (text bytes : List ℕ) → payload_of text ≡ Some bytes → (text ≡ bytes_text bytes) × AreBytes bytes × (length bytes ≤ 1024) × (length bytes % 2 ≡ 0)
payload_takes text bytes h = by (is_same text (codes "-")) refl h
  where
    by : (t : Bool) → is_same text (codes "-") ≡ t → cond t (Some []) (bytes_of text) ≡ Some bytes → (text ≡ bytes_text bytes) × AreBytes bytes × (length bytes ≤ 1024) × (length bytes % 2 ≡ 0)
    by true e k =
        let none : [] ≡ bytes = some_is _ _ k in
        subst (λ (x : List ℕ). (text ≡ bytes_text x) × AreBytes x × (length x ≤ 1024) × (length x % 2 ≡ 0)) none (same_is text (codes "-") e, tt, omega arith, refl)
    by false e k =
        let b = bytes_takes text bytes k in
        let w = and_takes _ _ b.2 in
        (b.0 ∙ some_text bytes b.2, b.1, leb_to (length bytes) 1024 (and_takes _ _ w.0).1, eqb-true (length bytes % 2) 0 w.1)

-- Bytes that stand in no digit

pub glyph_differs : (v c : ℕ) → v < 16 → ((48 ≤ c) × (c ≤ 102) → ⊥) → not (digit_glyph false v == c) ≡ true
glyph_differs v c h away = by (digit_glyph false v == c) refl
  where
    by : (t : Bool) → (digit_glyph false v == c) ≡ t → not t ≡ true
    by true e = let same : digit_glyph false v ≡ c = eqb-true _ _ e in absurd (away (grind (arith, common_steps)))
    by false e = refl
