-- The fields of a layout together.
use Rattle.std.proofs.Common.{◌≡◌, ℕ, ◌+◌, ◌%◌, ◌<◌, ◌≤◌, Bool, true, false, eqb, List, [], ◌∷◌, ◌++◌, length, drop, Result, Ok, Err, refl, sym, ap, ◌∙◌, arith, inl, inr, cond}
use Rattle.std.specs.List.{AllByRecursion, flat_map}
use Rattle.std.proofs.lemmas.Bool.{cases_lt, eqb-true}
use Rattle.std.proofs.lemmas.List.{length-append, length-drop, drop-drop}
use Rattle.std.proofs.lemmas.List.Concat.{flat_map-cons}
use Rattle.byteorder.specs.Endian.{little_number}
use Rattle.aseba_payload.specs.declared.payload.Payload.{Payload}
use Rattle.aseba_payload.specs.declared.fault.Fault.{Fault}
use Rattle.aseba_payload.specs.declared.fault.Fault.TheVariants.{Short, NotWords}
use Rattle.aseba_payload.specs.Layout.{Layout, ends, words, word, text, params, Values, word_bytes, text_bytes, params_bytes, spelling, CanSpell, AreValues, IsWord, fields_len, has_words}
use Rattle.aseba_payload.specs.Rows.{Maker}
use Rattle.aseba_payload.specs.Reading.{◌>>=◌, words_of, fields_at}
use Rattle.aseba_payload.proofs.Fields.{AreBytes, Took, done-is, bind_ok, Codec, word-fits, word-codec, text-codec}
use Rattle.aseba_payload.proofs.Params.{params-codec}

-- the payload of these values
abbrev pub made : (l : Layout) → Maker l → Values l → Payload
made ends make vs = make
made words make ws = make ws
made (word l) make vs = made l (make vs.0) vs.1
made (text l) make vs = made l (make vs.0) vs.1
made (params l) make vs = made l (make vs.0) vs.1

-- what is read of the bytes behind the fields
abbrev pub rest_at : Bool → Payload → List ℕ → Result (Payload × List ℕ) Fault
rest_at false p rest = Ok (p, rest)
rest_at true p rest = cond (eqb (length rest % 2) 0) (Ok (p, [])) (Err (NotWords (length rest)))

-- ---- a field, and then the others

abbrev Next : Type 0 → Type 0
Next A = A → List ℕ → Result (Payload × List ℕ) Fault

abbrev with_next : {A : Type 0} → Next A → A × List ℕ → Result (Payload × List ℕ) Fault
with_next next x = next x.0 x.1

step-short : {A : Type 0} {at : List ℕ → Result (A × List ℕ) Fault} {len : List ℕ → ℕ} {spell : A → List ℕ} {Good : A → Type 0} (c : Codec at len spell Good)
    (next : Next A) (more : List ℕ → ℕ) → ((x : A) (rest : List ℕ) → length rest < more rest → next x rest ≡ Err Short)
    → (bytes : List ℕ) → length bytes < len bytes + more (drop (len bytes) bytes) → (at bytes >>= with_next next) ≡ Err Short
step-short {A} {at} {len} {spell} {Good} c next more later bytes lt =
    elim (cases_lt (length bytes) (len bytes)) [
      | inl few ↦ ap (λ (r : Result (A × List ℕ) Fault). r >>= with_next next) (c.short bytes few)
      | inr le ↦
          let first = c.fits bytes le in
          ap (λ (r : Result (A × List ℕ) Fault). r >>= with_next next) first.1
          ∙ later first.0 (drop (len bytes) bytes) (omega (arith, length-drop (len bytes) bytes))
    ]

step-fits : {A : Type 0} {at : List ℕ → Result (A × List ℕ) Fault} {len : List ℕ → ℕ} {spell : A → List ℕ} {Good : A → Type 0} (c : Codec at len spell Good)
    (next : Next A) (more : List ℕ → ℕ) (b : Bool) → ((x : A) (rest : List ℕ) → more rest ≤ length rest → (p : Payload) × (next x rest ≡ rest_at b p (drop (more rest) rest)))
    → (bytes : List ℕ) → len bytes + more (drop (len bytes) bytes) ≤ length bytes
    → (p : Payload) × ((at bytes >>= with_next next) ≡ rest_at b p (drop (len bytes + more (drop (len bytes) bytes)) bytes))
step-fits {A} {at} {len} {spell} {Good} c next more b later bytes le =
    let first = c.fits bytes (omega arith) in
    let others = later first.0 (drop (len bytes) bytes) (omega (arith, length-drop (len bytes) bytes)) in (
      others.0,
      ap (λ (r : Result (A × List ℕ) Fault). r >>= with_next next) first.1
          ∙ (others.1 ∙ ap (rest_at b others.0) (drop-drop (more (drop (len bytes) bytes)) (len bytes) bytes)),
    )

step-again : {A : Type 0} {at : List ℕ → Result (A × List ℕ) Fault} {len : List ℕ → ℕ} {spell : A → List ℕ} {Good : A → Type 0} (c : Codec at len spell Good)
    (next : Next A) (x : A) (rest : List ℕ) → Good x → (at (spell x ++ rest) >>= with_next next) ≡ next x rest
step-again {A} c next x rest good = ap (λ (r : Result (A × List ℕ) Fault). r >>= with_next next) (c.again x rest good)

-- a field was found, and the others are to be
pub record Begun {A : Type 0} (spell : A → List ℕ) (Good : A → Type 0) (next : Next A) (bytes : List ℕ) (p : Payload) : Type 0 where
  pub value : A
  pub rest : List ℕ
  pub took : Took bytes (spell value) rest
  pub good : Good value
  pub others : next value rest ≡ Ok (p, [])

step-found : {A : Type 0} {at : List ℕ → Result (A × List ℕ) Fault} {len : List ℕ → ℕ} {spell : A → List ℕ} {Good : A → Type 0} (c : Codec at len spell Good)
    (next : Next A) (bytes : List ℕ) (p : Payload) → AreBytes bytes → (at bytes >>= with_next next) ≡ Ok (p, []) → Begun spell Good next bytes p
step-found {A} {at} c next bytes p all e =
    let first = bind_ok (at bytes) (with_next next) (p, []) e in
    let taken = c.found bytes first.0.0 first.0.1 all first.1 in
    record { value = first.0.0; rest = first.0.1; took = taken.0; good = taken.1; others = first.2 }

-- ---- lists of words

words-even : (ws : List ℕ) → eqb (length (flat_map word_bytes ws) % 2) 0 ≡ true
words-even [] = refl
words-even (w ∷ ws) =
    let twice : length (flat_map word_bytes (w ∷ ws)) ≡ 2 + length (flat_map word_bytes ws) = ap length (flat_map-cons word_bytes w ws) ∙ length-append (word_bytes w) (flat_map word_bytes ws) in
    let even = eqb-true _ _ (words-even ws) in
    let here : length (flat_map word_bytes (w ∷ ws)) % 2 ≡ 0 = omega (arith, twice, even) in
    rw here refl

word-value : (w : ℕ) → IsWord w → little_number 2 (word_bytes w) ≡ w
word-value w h = omega arith

abbrev cons : List ℕ → ℕ → List ℕ
cons xs x = x ∷ xs

words-again : (ws : List ℕ) → AllByRecursion IsWord ws → words_of (flat_map word_bytes ws) ≡ ws
words-again [] all = refl
words-again (w ∷ ws) all =
    ap words_of (flat_map-cons word_bytes w ws)
    ∙ (ap (cons (words_of (flat_map word_bytes ws))) (word-value w all.0) ∙ ap (λ (xs : List ℕ). w ∷ xs) (words-again ws all.1))

words-are : (bytes : List ℕ) → AreBytes bytes → length bytes % 2 ≡ 0 → (flat_map word_bytes (words_of bytes) ≡ bytes) × AllByRecursion IsWord (words_of bytes)
words-are [] all even = (refl, tt)
words-are (a ∷ []) all even = absurd (omega arith)
words-are (a ∷ b ∷ bytes) all even =
    let later = words-are bytes all.1.1 (omega arith) in
    let first = word-codec.found (a ∷ b ∷ bytes) (little_number 2 (a ∷ b ∷ [])) bytes all (word-fits (a ∷ b ∷ bytes) (omega arith)) in
    (flat_map-cons word_bytes (little_number 2 (a ∷ b ∷ [])) (words_of bytes) ∙ (ap (λ (xs : List ℕ). word_bytes (little_number 2 (a ∷ b ∷ [])) ++ xs) later.0 ∙ sym first.0.parts), (first.1, later.1))

-- ---- all fields

pub fields-short : (l : Layout) (make : Maker l) (bytes : List ℕ) → length bytes < fields_len l bytes → fields_at l make bytes ≡ Err Short
fields-short ends make bytes lt = absurd (omega arith)
fields-short words make bytes lt = absurd (omega arith)
fields-short (word l) make bytes lt = step-short word-codec (λ x rest. fields_at l (make x) rest) (fields_len l) (λ x rest few. fields-short l (make x) rest few) bytes lt
fields-short (text l) make bytes lt = step-short text-codec (λ x rest. fields_at l (make x) rest) (fields_len l) (λ x rest few. fields-short l (make x) rest few) bytes lt
fields-short (params l) make bytes lt = step-short params-codec (λ x rest. fields_at l (make x) rest) (fields_len l) (λ x rest few. fields-short l (make x) rest few) bytes lt

abbrev words_made : (List ℕ → Payload) → List ℕ × List ℕ → Result (Payload × List ℕ) Fault
words_made make x = Ok (make x.0, x.1)

abbrev read_words : List ℕ → Bool → Result (List ℕ × List ℕ) Fault
read_words bytes even = cond even (Ok (words_of bytes, [])) (Err (NotWords (length bytes)))

words-rest : (make : List ℕ → Payload) (bytes : List ℕ) (even : Bool) → (read_words bytes even >>= words_made make) ≡ cond even (Ok (make (words_of bytes), [])) (Err (NotWords (length bytes)))
words-rest make bytes true = refl
words-rest make bytes false = refl

pub fields-fits : (l : Layout) (make : Maker l) (bytes : List ℕ) → fields_len l bytes ≤ length bytes → (p : Payload) × (fields_at l make bytes ≡ rest_at (has_words l) p (drop (fields_len l bytes) bytes))
fields-fits ends make bytes le = (make, refl)
fields-fits words make bytes le = (make (words_of bytes), words-rest make bytes (eqb (length bytes % 2) 0))
fields-fits (word l) make bytes le = step-fits word-codec (λ x rest. fields_at l (make x) rest) (fields_len l) (has_words l) (λ x rest room. fields-fits l (make x) rest room) bytes le
fields-fits (text l) make bytes le = step-fits text-codec (λ x rest. fields_at l (make x) rest) (fields_len l) (has_words l) (λ x rest room. fields-fits l (make x) rest room) bytes le
fields-fits (params l) make bytes le = step-fits params-codec (λ x rest. fields_at l (make x) rest) (fields_len l) (has_words l) (λ x rest room. fields-fits l (make x) rest room) bytes le

pub fields-again : (l : Layout) (make : Maker l) (vs : Values l) → CanSpell l vs → AreValues l vs → fields_at l make (spelling l vs) ≡ Ok (made l make vs, [])
fields-again ends make vs can are = refl
fields-again words make ws can are =
    ap (λ (b : Bool). read_words (flat_map word_bytes ws) b >>= words_made make) (words-even ws)
    ∙ ap (λ (xs : List ℕ). words_made make (xs, [])) (words-again ws are)
fields-again (word l) make vs can are = step-again word-codec (λ x rest. fields_at l (make x) rest) vs.0 (spelling l vs.1) are.0 ∙ fields-again l (make vs.0) vs.1 can are.1
fields-again (text l) make vs can are = step-again text-codec (λ x rest. fields_at l (make x) rest) vs.0 (spelling l vs.1) (record { short = can.0; bytes = are.0 }) ∙ fields-again l (make vs.0) vs.1 can.1 are.1
fields-again (params l) make vs can are = step-again params-codec (λ x rest. fields_at l (make x) rest) vs.0 (spelling l vs.1) (record { counted = can.0; values = are.0 }) ∙ fields-again l (make vs.0) vs.1 can.1 are.1

-- the values that were read, of all the bytes
pub record Found (l : Layout) (make : Maker l) (bytes : List ℕ) (p : Payload) : Type 0 where
  pub values : Values l
  pub made_is : made l make values ≡ p
  pub spelled : bytes ≡ spelling l values
  pub can : CanSpell l values
  pub are : AreValues l values

words-found : (make : List ℕ → Payload) (bytes : List ℕ) (p : Payload) (even : Bool) → AreBytes bytes → eqb (length bytes % 2) 0 ≡ even → (read_words bytes even >>= words_made make) ≡ Ok (p, []) → Found words make bytes p
words-found make bytes p false all test e = absurd cc
words-found make bytes p true all test e =
    let each = words-are bytes all (eqb-true _ _ test) in
    record { values = words_of bytes; made_is = ap (λ (x : Payload × List ℕ). x.0) (done-is (make (words_of bytes), []) (p, []) e); spelled = sym each.0; can = tt; are = each.1 }

pub fields-found : (l : Layout) (make : Maker l) (bytes : List ℕ) (p : Payload) → AreBytes bytes → fields_at l make bytes ≡ Ok (p, []) → Found l make bytes p
fields-found ends make bytes p all e =
    let is = done-is (make, bytes) (p, []) e in
    record { values = tt; made_is = ap (λ (x : Payload × List ℕ). x.0) is; spelled = ap (λ (x : Payload × List ℕ). x.1) is; can = tt; are = tt }
fields-found words make bytes p all e = words-found make bytes p (eqb (length bytes % 2) 0) all refl e
fields-found (word l) make bytes p all e =
    let first = step-found word-codec (λ x rest. fields_at l (make x) rest) bytes p all e in
    let others = fields-found l (make first.value) first.rest p first.took.rest_bytes first.others in
    record { values = (first.value, others.values); made_is = others.made_is; spelled = first.took.parts ∙ ap (λ (x : List ℕ). word_bytes first.value ++ x) others.spelled; can = others.can; are = (first.good, others.are) }
fields-found (text l) make bytes p all e =
    let first = step-found text-codec (λ x rest. fields_at l (make x) rest) bytes p all e in
    let others = fields-found l (make first.value) first.rest p first.took.rest_bytes first.others in
    record { values = (first.value, others.values); made_is = others.made_is; spelled = first.took.parts ∙ ap (λ (x : List ℕ). text_bytes first.value ++ x) others.spelled; can = (first.good.short, others.can); are = (first.good.bytes, others.are) }
fields-found (params l) make bytes p all e =
    let first = step-found params-codec (λ x rest. fields_at l (make x) rest) bytes p all e in
    let others = fields-found l (make first.value) first.rest p first.took.rest_bytes first.others in
    record { values = (first.value, others.values); made_is = others.made_is; spelled = first.took.parts ∙ ap (λ (x : List ℕ). params_bytes first.value ++ x) others.spelled; can = (first.good.counted, others.can); are = (first.good.values, others.are) }
