-- What is said part by part is said as a whole.
use Rattle.std.proofs.Common.{◌≡◌, ℕ, ◌+◌, ◌-◌, ◌*◌, ◌<◌, ◌≤◌, min, List, [], ◌∷◌, ◌++◌, length, map, get_or, take, drop, ℤ, refl, sym, ap, ◌∙◌, append_assoc, append-nil, length-drop, arith, inl, inr}
use Rattle.std.specs.Int.{cast_unsigned, w16}
use Rattle.std.specs.List.{range_with_len}
use Rattle.std.proofs.lemmas.Bool.{cases_lt}
use Rattle.std.proofs.lemmas.List.{map-append, take-map, drop-map, take_all}
use Rattle.std.proofs.lemmas.List.FromFn.{map-range_with_len_more}
use Rattle.std.proofs.lemmas.Grind.{take_at_read}
use Rattle.aseba_message.specs.Message.{Message}
use Rattle.aseba_payload.specs.declared.payload.Payload.{Payload}
use Rattle.aseba_payload.specs.declared.payload.Payload.TheVariants.{Variables}
use Rattle.aseba_payload.specs.Decoding.{Says}
use Rattle.aseba_payload.specs.Rows.{kind_of, bytes_of}
use Rattle.aseba_node.specs.Saying.{Spoken, spoken, also_said}
use Rattle.aseba_node.specs.Told.{run_at, runs_of, words_of}

abbrev message : ℕ → ℕ → List ℕ → Message
message source kind payload = record { source = source; kind = kind; payload = payload }

-- the frame that says a payload
pub spoken_by : (id : ℕ) (m : Message) (p : Payload) → m.source ≡ id → Says m.kind m.payload p → m ≡ spoken id p
spoken_by id m p source says =
    ap (λ (s : ℕ). message s m.kind m.payload) source
    ∙ (ap (λ (k : ℕ). message id k m.payload) says.kind_is ∙ ap (λ (b : List ℕ). message id (kind_of p) b) says.spelled)

-- one payload more
abbrev pub said_more : Payload → Spoken → Spoken
said_more p s = record s { waiting = s.waiting ++ spoken s.id p ∷ [] }

said-last : (ps : List Payload) (p : Payload) (s : Spoken) → said_more p (also_said ps s) ≡ also_said (ps ++ p ∷ []) s
said-last ps p s =
    ap (λ (ms : List Message). record s { waiting = ms })
    (append_assoc s.waiting (map (spoken s.id) ps) (spoken s.id p ∷ []) ∙ ap (λ (ms : List Message). s.waiting ++ ms) (sym (map-append (spoken s.id) ps (p ∷ []))))

-- the parts up to one of them were said, and it was said next
pub said_next : {X : Type 0} (f : X → Payload) (xs : List X) (i : ℕ) (x : X) (start now : Spoken) → i < length xs → x ≡ get_or xs i x → now ≡ also_said (map f (take i xs)) start
    → said_more (f x) now ≡ also_said (map f (take (i + 1) xs)) start
said_next {X} f xs i x start now less is so_far =
    let one : take (i + 1) xs ≡ take i xs ++ x ∷ [] = (take_at_read xs i x less).1 ∙ ap (λ (y : X). take i xs ++ y ∷ []) (sym is) in
    let parts : map f (take (i + 1) xs) ≡ map f (take i xs) ++ f x ∷ [] = ap (map f) one ∙ map-append f (take i xs) (x ∷ []) in
    ap (said_more (f x)) so_far ∙ (said-last (map f (take i xs)) (f x) start ∙ ap (λ (ps : List Payload). also_said ps start) (sym parts))

-- runs up to one of them were said, and it was said next
pub said_run : (start : ℕ) (words : List ℕ) (which : ℕ) (begin now : Spoken) → now ≡ also_said (map (run_at start words) (range_with_len 0 which)) begin
    → said_more (run_at start words which) now ≡ also_said (map (run_at start words) (range_with_len 0 (which + 1))) begin
said_run start words which begin now so_far =
    let f = run_at start words in
    ap (said_more (f which)) so_far
    ∙ (said-last (map f (range_with_len 0 which)) (f which) begin ∙ ap (λ (ps : List Payload). also_said ps begin) (sym (map-range_with_len_more f 0 which which (omega arith))))

first-of : (cells : List ℤ) (first end : ℕ) → first ≤ length cells → end ≡ min (first + 255) (length cells) → take (end - first) (drop first cells) ≡ take 255 (drop first cells)
first-of cells first end inside is =
    elim (cases_lt (length cells) (first + 255)) [
      | inl short ↦
          let len = length-drop first cells in
          take_all (end - first) (drop first cells) (omega (arith, is, len)) ∙ sym (take_all 255 (drop first cells) (omega (arith, len)))
      | inr long ↦ ap (λ (n : ℕ). take n (drop first cells)) (let e : end - first ≡ 255 = omega (arith, is) in e)
    ]

-- the cells of a run as words
pub run_words : (start : ℕ) (cells : List ℤ) (which end at : ℕ) → 255 * which ≤ length cells → end ≡ min (255 * which + 255) (length cells) → at ≡ start + 255 * which
    → Variables at (words_of (take (end - 255 * which) (drop (255 * which) cells))) ≡ run_at start (words_of cells) which
run_words start cells which end at inside is place =
    let first = 255 * which in
    let words : words_of (take (end - first) (drop first cells)) ≡ take 255 (drop first (words_of cells)) =
    ap words_of (first-of cells first end inside is)
    ∙ (sym (take-map (cast_unsigned w16) 255 (drop first cells)) ∙ ap (take 255) (sym (drop-map (cast_unsigned w16) first cells))) in
    ap (λ (a : ℕ). Variables a (words_of (take (end - first) (drop first cells)))) place ∙ ap (Variables (start + first)) words

-- some payloads were said, and then others
pub said_then : (ps qs : List Payload) (s mid now : Spoken) → mid ≡ also_said ps s → now ≡ also_said qs mid → now ≡ also_said (ps ++ qs) s
said_then ps qs s mid now first second =
    second ∙ ap (also_said qs) first
    ∙ ap (λ (ms : List Message). record s { waiting = ms })
    (append_assoc s.waiting (map (spoken s.id) ps) (map (spoken s.id) qs) ∙ ap (λ (ms : List Message). s.waiting ++ ms) (sym (map-append (spoken s.id) ps qs)))
