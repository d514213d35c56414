-- How the cut of a stream changes when more of it comes.
use Rattle.std.proofs.Common.{◌≡◌, ℕ, zero, suc, ◌+◌, ◌<◌, ◌≤◌, Bool, true, false, if◌then◌else◌, List, [], ◌++◌, length, take, drop, refl, sym, ap, ◌∙◌, length-append, length-drop, arith}
use Rattle.std.proofs.lemmas.Bool.Decides.{nat_tests}
use Rattle.std.proofs.lemmas.List.{take-append-le, drop-append-le}
use Rattle.byteorder.specs.Endian.{little_number}
use Rattle.byteorder.specs.Numbers.{little_from-append}
use Rattle.aseba_message.specs.Message.{Message}
use Rattle.aseba_message.specs.Frames.{length_word, has_frame, frame_len, message_of}
use Rattle.aseba_message.specs.Cut.{behind, cut_up_to}

-- the facts that a frame at the front tells
pub frame-fits : (bytes : List ℕ) → has_frame bytes ≡ true → (2 ≤ length bytes) × (length_word bytes ≤ 1024) × (6 + length_word bytes ≤ length bytes)
frame-fits bytes h = (grind (arith, nat_tests), grind (arith, nat_tests), grind (arith, nat_tests))

pub frame-from_fits : (bytes : List ℕ) → 2 ≤ length bytes → length_word bytes ≤ 1024 → 6 + length_word bytes ≤ length bytes → has_frame bytes ≡ true
frame-from_fits bytes a b c = grind (arith, nat_tests)

length-append-list : (xs ys : List ℕ) → length (xs ++ ys) ≡ length xs + length ys
length-append-list xs ys = length-append xs ys

pub length_word-append : (bytes more : List ℕ) → 2 ≤ length bytes → length_word (bytes ++ more) ≡ length_word bytes
length_word-append bytes more h = little_from-append 2 bytes more h

has_frame-append : (bytes more : List ℕ) → has_frame bytes ≡ true → has_frame (bytes ++ more) ≡ true
has_frame-append bytes more h =
    let f = frame-fits bytes h in
    let word = length_word-append bytes more f.0 in
    let len = length-append bytes more in
    frame-from_fits (bytes ++ more) (omega arith) (omega arith) (omega arith)

part-append : (at n : ℕ) (bytes more : List ℕ) → at + n ≤ length bytes → little_number n (drop at (bytes ++ more)) ≡ little_number n (drop at bytes)
part-append at n bytes more h =
    let room : n ≤ length (drop at bytes) = omega (arith, length-drop at bytes) in
    ap (little_number n) (drop-append-le at bytes more (omega arith)) ∙ little_from-append n (drop at bytes) more room

message_of-append : (bytes more : List ℕ) → has_frame bytes ≡ true → message_of (bytes ++ more) ≡ message_of bytes
message_of-append bytes more h =
    let f = frame-fits bytes h in
    let source = part-append 2 2 bytes more (omega arith) in
    let kind = part-append 4 2 bytes more (omega arith) in
    let word = length_word-append bytes more f.0 in
    let room : length_word bytes ≤ length (drop 6 bytes) = omega (arith, length-drop 6 bytes) in
    let payload : take (length_word (bytes ++ more)) (drop 6 (bytes ++ more)) ≡ take (length_word bytes) (drop 6 bytes) =
    ap (λ n. take n (drop 6 (bytes ++ more))) word
    ∙ (ap (take (length_word bytes)) (drop-append-le 6 bytes more (omega arith))
    ∙ take-append-le (length_word bytes) (drop 6 bytes) more room) in
    cc

pub frameless : (b : Bool) → (b ≡ true → ⊥) → b ≡ false
frameless true h = absurd (h refl)
frameless false h = refl

short-frameless : (bytes : List ℕ) → length bytes < 6 → has_frame bytes ≡ false
short-frameless bytes h = frameless (has_frame bytes) (λ e. let f = frame-fits bytes e in omega arith)

abbrev next_cut : Bool → ℕ → List ℕ → List Message × List ℕ
next_cut b most bytes = if b then behind (message_of bytes) (cut_up_to most (drop (frame_len bytes) bytes)) else ([], bytes)

same_next : (n m : ℕ) (bytes : List ℕ) → (6 + length_word bytes ≤ length bytes → cut_up_to n (drop (frame_len bytes) bytes) ≡ cut_up_to m (drop (frame_len bytes) bytes))
    → (b : Bool) → has_frame bytes ≡ b → next_cut b n bytes ≡ next_cut b m bytes
same_next n m bytes ih true e = ap (behind (message_of bytes)) (ih (frame-fits bytes e).2)
same_next n m bytes ih false e = refl

-- a number of frames that is large enough makes no difference
cut-most : (n m : ℕ) (bytes : List ℕ) → length bytes ≤ n → length bytes ≤ m → cut_up_to n bytes ≡ cut_up_to m bytes
cut-most zero zero bytes p q = refl
cut-most zero (suc m) bytes p q = sym (ap (λ b. next_cut b m bytes) (short-frameless bytes (omega arith)))
cut-most (suc n) zero bytes p q = ap (λ b. next_cut b n bytes) (short-frameless bytes (omega arith))
cut-most (suc n) (suc m) bytes p q =
    same_next n m bytes (λ f. cut-most n m (drop (frame_len bytes) bytes) (omega (arith, f, length-drop (frame_len bytes) bytes)) (omega (arith, f, length-drop (frame_len bytes) bytes))) (has_frame bytes) refl

abbrev pub cut : List ℕ → List Message × List ℕ
cut bytes = cut_up_to (length bytes) bytes

cut-one_more : (bytes : List ℕ) → cut bytes ≡ next_cut (has_frame bytes) (length bytes) bytes
cut-one_more bytes = cut-most (length bytes) (suc (length bytes)) bytes (omega arith) (omega arith)

pub cut-next : (bytes : List ℕ) → has_frame bytes ≡ true → cut bytes ≡ behind (message_of bytes) (cut (drop (frame_len bytes) bytes))
cut-next bytes e =
    cut-one_more bytes
    ∙ (ap (λ b. next_cut b (length bytes) bytes) e
    ∙ ap (behind (message_of bytes)) (cut-most (length bytes) (length (drop (frame_len bytes) bytes)) (drop (frame_len bytes) bytes) (omega (arith, length-drop (frame_len bytes) bytes)) (omega arith)))

pub cut-none : (bytes : List ℕ) → has_frame bytes ≡ false → cut bytes ≡ ([], bytes)
cut-none bytes e = cut-one_more bytes ∙ ap (λ b. next_cut b (length bytes) bytes) e

-- what a stream's cut becomes when more comes behind the rest
abbrev pub joined : List Message × List ℕ → List ℕ → List Message × List ℕ
joined c more = (c.0 ++ (cut (c.1 ++ more)).0, (cut (c.1 ++ more)).1)

append_next : (bytes more : List ℕ) → (6 + length_word bytes ≤ length bytes → cut (drop (frame_len bytes) bytes ++ more) ≡ joined (cut (drop (frame_len bytes) bytes)) more)
    → (b : Bool) → has_frame bytes ≡ b → cut (bytes ++ more) ≡ joined (cut bytes) more
append_next bytes more ih true e =
    let f = frame-fits bytes e in
    let rest = ap (λ n. drop (6 + n) (bytes ++ more)) (length_word-append bytes more f.0) ∙ drop-append-le (frame_len bytes) bytes more f.2 in
    cut-next (bytes ++ more) (has_frame-append bytes more e)
    ∙ (ap (λ m. behind m (cut (drop (frame_len (bytes ++ more)) (bytes ++ more)))) (message_of-append bytes more e)
    ∙ (ap (λ r. behind (message_of bytes) (cut r)) rest
    ∙ (ap (behind (message_of bytes)) (ih f.2)
    ∙ ap (λ c. joined c more) (sym (cut-next bytes e)))))
append_next bytes more ih false e = ap (λ c. joined c more) (sym (cut-none bytes e))

append-up_to : (n : ℕ) (bytes more : List ℕ) → length bytes ≤ n → cut (bytes ++ more) ≡ joined (cut bytes) more
append-up_to zero bytes more h = append_next bytes more (λ f. absurd (omega arith)) (has_frame bytes) refl
append-up_to (suc n) bytes more h =
    append_next bytes more (λ f. append-up_to n (drop (frame_len bytes) bytes) more (omega (arith, f, length-drop (frame_len bytes) bytes))) (has_frame bytes) refl

pub cut-append : (bytes more : List ℕ) → cut (bytes ++ more) ≡ joined (cut bytes) more
cut-append bytes more = append-up_to (length bytes) bytes more (omega arith)
