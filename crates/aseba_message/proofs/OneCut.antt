-- A stream is cut in one way.
use Rattle.std.proofs.Common.{◌≡◌, ℕ, zero, suc, ◌+◌, ◌*◌, ◌<◌, ◌≤◌, ◌^◌, Bool, true, false, List, [], ◌∷◌, ◌++◌, length, take, drop, slice_index, refl, sym, ap, ◌∙◌, subst, append_assoc, length-append, length-drop, length-take-le, arith}
use Rattle.std.specs.List.{AllByRecursion, flat_map}
use Rattle.std.proofs.Math.Seq.{take-append_seam, drop-append_seam}
use Rattle.std.proofs.lemmas.List.{take-append-drop, get_or-drop}
use Rattle.std.specs.Int.{byte_at}
use Rattle.byteorder.specs.Endian.{little_number}
use Rattle.aseba_message.specs.Message.{Message}
use Rattle.aseba_message.specs.Frames.{spelling, length_word, has_frame, frame_len, message_of}
use Rattle.aseba_message.specs.Cut.{behind, frames_of, rest_of, IsMessage, IsCut}
use Rattle.aseba_message.proofs.Cuts.{cut, cut-next, cut-none, frame-fits, frame-from_fits}

-- a word's bytes make the word, and the word its bytes
word-from_bytes : (x : ℕ) → x < 2 ^ 16 → byte_at 0 x + 256 * (byte_at 1 x + 256 * 0) ≡ x
word-from_bytes x h = omega arith

low-byte : (a b x : ℕ) → a < 256 → b < 256 → x ≡ a + 256 * (b + 256 * 0) → byte_at 0 x ≡ a
low-byte a b x p q e = omega arith

high-byte : (a b x : ℕ) → a < 256 → b < 256 → x ≡ a + 256 * (b + 256 * 0) → byte_at 1 x ≡ b
high-byte a b x p q e = omega arith

-- a frame that was spelled is found again, whatever follows
front-word : (m : Message) (more : List ℕ) → IsMessage m → length_word (spelling m ++ more) ≡ length m.payload
front-word m more h = word-from_bytes (length m.payload) (omega arith)

front-frame : (m : Message) (more : List ℕ) → IsMessage m → has_frame (spelling m ++ more) ≡ true
front-frame m more h =
    let word = front-word m more h in
    let len : length (m.payload ++ more) ≡ length m.payload + length more = length-append m.payload more in
    frame-from_fits (spelling m ++ more) (omega arith) (omega (arith, h.0)) (omega arith)

abbrev said : ℕ → ℕ → List ℕ → Message
said source kind payload = record { source = source; kind = kind; payload = payload }

front-message : (m : Message) (more : List ℕ) → IsMessage m → message_of (spelling m ++ more) ≡ m
front-message m more h =
    let source = word-from_bytes m.source h.1 in
    let kind = word-from_bytes m.kind h.2 in
    let payload : take (length_word (spelling m ++ more)) (m.payload ++ more) ≡ m.payload =
    ap (λ n. take n (m.payload ++ more)) (front-word m more h) ∙ take-append_seam m.payload more in
    ap (λ x. said x (little_number 2 (drop 4 (spelling m ++ more))) (take (length_word (spelling m ++ more)) (m.payload ++ more))) source
    ∙ (ap (λ x. said m.source x (take (length_word (spelling m ++ more)) (m.payload ++ more))) kind ∙ ap (said m.source m.kind) payload)

front-rest : (m : Message) (more : List ℕ) → IsMessage m → drop (frame_len (spelling m ++ more)) (spelling m ++ more) ≡ more
front-rest m more h =
    let six : 6 + length m.payload ≡ suc (suc (suc (suc (suc (suc (length m.payload)))))) = omega arith in
    ap (λ n. drop (6 + n) (spelling m ++ more)) (front-word m more h)
    ∙ (ap (λ n. drop n (spelling m ++ more)) six ∙ drop-append_seam m.payload more)

pub cut-only : (frames : List Message) (rest : List ℕ) → AllByRecursion IsMessage frames → has_frame rest ≡ false → cut (flat_map spelling frames ++ rest) ≡ (frames, rest)
cut-only [] rest each last = cut-none rest last
cut-only (m ∷ frames) rest each last =
    let more = flat_map spelling frames ++ rest in
    ap cut (append_assoc (spelling m) (flat_map spelling frames) rest)
    ∙ (cut-next (spelling m ++ more) (front-frame m more each.0)
    ∙ (ap (λ x. behind x (cut (drop (frame_len (spelling m ++ more)) (spelling m ++ more)))) (front-message m more each.0)
    ∙ (ap (λ r. behind m (cut r)) (front-rest m more each.0)
    ∙ ap (behind m) (cut-only frames rest each.1 last))))

-- what is found was spelled so
front-spelled : (bytes : List ℕ) → ((i : ℕ) → slice_index bytes i < 256) → has_frame bytes ≡ true → bytes ≡ spelling (message_of bytes) ++ drop (frame_len bytes) bytes
front-spelled (a ∷ b ∷ d ∷ e ∷ f ∷ g ∷ rest) small h =
    let bytes = a ∷ b ∷ d ∷ e ∷ f ∷ g ∷ rest in
    let w = length_word bytes in
    let fits = frame-fits bytes h in
    let len : length (take w rest) ≡ w = length-take-le w rest (omega arith) in
    let six : 6 + w ≡ suc (suc (suc (suc (suc (suc w))))) = omega arith in
    let behind : take w rest ++ drop (6 + w) bytes ≡ rest = ap (λ n. take w rest ++ drop n bytes) six ∙ take-append-drop w rest in
    let first = low-byte a b (length (take w rest)) (small 0) (small 1) len in
    let second = high-byte a b (length (take w rest)) (small 0) (small 1) len in
    let third = low-byte d e (d + 256 * (e + 256 * 0)) (small 2) (small 3) refl in
    let fourth = high-byte d e (d + 256 * (e + 256 * 0)) (small 2) (small 3) refl in
    let fifth = low-byte f g (f + 256 * (g + 256 * 0)) (small 4) (small 5) refl in
    let sixth = high-byte f g (f + 256 * (g + 256 * 0)) (small 4) (small 5) refl in
    cc
front-spelled bytes small h = let fits = frame-fits bytes h in absurd (omega arith)

number-small : (a b : ℕ) → a < 256 → b < 256 → a + 256 * (b + 256 * 0) < 2 ^ 16
number-small a b p q = omega arith

front-is : (bytes : List ℕ) → ((i : ℕ) → slice_index bytes i < 256) → has_frame bytes ≡ true → IsMessage (message_of bytes)
front-is (a ∷ b ∷ d ∷ e ∷ f ∷ g ∷ rest) small h =
    let fits = frame-fits (a ∷ b ∷ d ∷ e ∷ f ∷ g ∷ rest) h in
    let w = length_word (a ∷ b ∷ d ∷ e ∷ f ∷ g ∷ rest) in
    let len : length (take w rest) ≡ w = length-take-le w rest (omega arith) in
    (omega arith, number-small d e (small 2) (small 3), number-small f g (small 4) (small 5))
front-is bytes small h = let fits = frame-fits bytes h in absurd (omega arith)

drop-small : (n : ℕ) (bytes : List ℕ) → ((i : ℕ) → slice_index bytes i < 256) → (i : ℕ) → slice_index (drop n bytes) i < 256
drop-small n bytes small i = subst (λ b. b < 256) (sym (get_or-drop n bytes i 0)) (small (n + i))

cut-by_front : (bytes : List ℕ) → ((i : ℕ) → slice_index bytes i < 256)
    → (6 + length_word bytes ≤ length bytes → IsCut (drop (frame_len bytes) bytes) (frames_of (drop (frame_len bytes) bytes)) (rest_of (drop (frame_len bytes) bytes)))
    → (b : Bool) → has_frame bytes ≡ b → IsCut bytes (frames_of bytes) (rest_of bytes)
cut-by_front bytes small ih true e =
    let rest = drop (frame_len bytes) bytes in
    let r = ih (frame-fits bytes e).2 in
    let m = message_of bytes in
    let whole : bytes ≡ flat_map spelling (m ∷ frames_of rest) ++ rest_of rest =
    front-spelled bytes small e
    ∙ (ap (λ xs. spelling m ++ xs) r.whole ∙ sym (append_assoc (spelling m) (flat_map spelling (frames_of rest)) (rest_of rest))) in
    let found : IsCut bytes (m ∷ frames_of rest) (rest_of rest) = record { whole = whole; each = (front-is bytes small e, r.each); last = r.last } in
    subst (λ c. IsCut bytes c.0 c.1) (sym (cut-next bytes e)) found
cut-by_front bytes small ih false e =
    let found : IsCut bytes [] bytes = record { whole = refl; each = tt; last = e } in
    subst (λ c. IsCut bytes c.0 c.1) (sym (cut-none bytes e)) found

cut-up_to : (n : ℕ) (bytes : List ℕ) → length bytes ≤ n → ((i : ℕ) → slice_index bytes i < 256) → IsCut bytes (frames_of bytes) (rest_of bytes)
cut-up_to zero bytes le small = cut-by_front bytes small (λ f. absurd (omega arith)) (has_frame bytes) refl
cut-up_to (suc n) bytes le small =
    cut-by_front bytes small (λ f. cut-up_to n (drop (frame_len bytes) bytes) (omega (arith, f, length-drop (frame_len bytes) bytes)) (drop-small (frame_len bytes) bytes small)) (has_frame bytes) refl

pub cut-found : (bytes : List ℕ) → ((i : ℕ) → slice_index bytes i < 256) → IsCut bytes (frames_of bytes) (rest_of bytes)
cut-found bytes small = cut-up_to (length bytes) bytes (omega arith) small

pub cut-is : (bytes : List ℕ) (frames : List Message) (rest : List ℕ) → IsCut bytes frames rest → (frames_of bytes ≡ frames) × (rest_of bytes ≡ rest)
cut-is bytes frames rest h =
    let same = ap cut h.whole ∙ cut-only frames rest h.each h.last in (ap (λ c. c.0) same, ap (λ c. c.1) same)
