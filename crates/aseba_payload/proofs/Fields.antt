-- Each kind of field: how far it reaches, what is read of it, and that what is read is what is spelled.
use Rattle.std.proofs.Common.{◌≡◌, ℕ, suc, ◌+◌, ◌*◌, ◌<◌, ◌≤◌, List, [], ◌∷◌, ◌++◌, length, get_or, take, drop, Result, Ok, Err, refl, sym, ap, subst, ◌∙◌, append_assoc, arith, inl, inr}
use Rattle.std.specs.List.{AllByRecursion}
use Rattle.std.specs.Int.{byte_at}
use Rattle.std.proofs.lemmas.Bool.{cases_lt, lt-ltb, le-ltb}
use Rattle.std.proofs.lemmas.List.{take_at, drop_at, take-append-drop, length-append, length-take}
use Rattle.byteorder.specs.Endian.{little_number}
use Rattle.aseba_tree.specs.Inside.{IsShort}
use Rattle.aseba_payload.specs.declared.fault.Fault.{Fault}
use Rattle.aseba_payload.specs.declared.fault.Fault.TheVariants.{Short}
use Rattle.aseba_payload.specs.Layout.{word_bytes, text_bytes, IsWord, IsByte, text_len}
use Rattle.aseba_payload.specs.Reading.{◌>>=◌, word_at, text_at}

abbrev pub AreBytes : List ℕ → Type 0
AreBytes bytes = AllByRecursion IsByte bytes

pub all-front : {X : Type 0} (P : X → Type 0) (xs ys : List X) → AllByRecursion P (xs ++ ys) → AllByRecursion P xs
all-front P [] ys all = tt
all-front P (x ∷ xs) ys all = (all.0, all-front P xs ys all.1)

pub all-back : {X : Type 0} (P : X → Type 0) (xs ys : List X) → AllByRecursion P (xs ++ ys) → AllByRecursion P ys
all-back P [] ys all = all
all-back P (x ∷ xs) ys all = all-back P xs ys all.1

-- what was taken from the front
pub record Took (bytes text rest : List ℕ) : Type 0 where
  pub parts : bytes ≡ text ++ rest
  pub rest_bytes : AreBytes rest

pub Took-then : (a x b y c : List ℕ) → Took a x b → Took b y c → Took a (x ++ y) c
Took-then a x b y c p q = record { parts = p.parts ∙ ap (λ (t : List ℕ). x ++ t) q.parts ∙ sym (append_assoc x y c); rest_bytes = q.rest_bytes }

abbrev pub done : {A : Type 0} → A → Result A Fault
done x = Ok x

pub done-is : {A : Type 0} (x y : A) → done x ≡ done y → x ≡ y
done-is x y e = cc

-- the value of a step that did not fail
pub bind_ok : {A B : Type 0} (r : Result A Fault) (f : A → Result B Fault) (y : B) → (r >>= f) ≡ Ok y → (x : A) × (r ≡ Ok x) × (f x ≡ Ok y)
bind_ok (Ok x) f y e = (x, refl, e)
bind_ok (Err d) f y e = absurd cc

-- A kind of field: how it is read, how many bytes it takes, how it is spelled, and which values are.
pub record Codec {A : Type 0} (at : List ℕ → Result (A × List ℕ) Fault) (len : List ℕ → ℕ) (spell : A → List ℕ) (Good : A → Type 0) : Type 0 where
  pub short : (bytes : List ℕ) → length bytes < len bytes → at bytes ≡ Err Short
  pub fits : (bytes : List ℕ) → len bytes ≤ length bytes → (x : A) × (at bytes ≡ Ok (x, drop (len bytes) bytes))
  pub again : (x : A) (rest : List ℕ) → Good x → at (spell x ++ rest) ≡ Ok (x, rest)
  pub found : (bytes : List ℕ) (x : A) (rest : List ℕ) → AreBytes bytes → at bytes ≡ Ok (x, rest) → Took bytes (spell x) rest × Good x

-- ---- words

word-short : (bytes : List ℕ) → length bytes < 2 → word_at bytes ≡ Err Short
word-short bytes lt = rw (lt-ltb (length bytes) 2 lt) refl

pub word-fits : (bytes : List ℕ) → 2 ≤ length bytes → word_at bytes ≡ Ok (little_number 2 bytes, drop 2 bytes)
word-fits bytes le = rw (le-ltb (length bytes) 2 le) refl

word-value : (w : ℕ) → IsWord w → byte_at 0 w + 256 * (byte_at 1 w + 256 * 0) ≡ w
word-value w h = omega arith

word-again : (w : ℕ) (rest : List ℕ) → IsWord w → word_at (word_bytes w ++ rest) ≡ Ok (w, rest)
word-again w rest h =
    let long : 2 ≤ length (word_bytes w ++ rest) = omega arith in
    word-fits (word_bytes w ++ rest) long ∙ ap (λ (n : ℕ). done (n, rest)) (word-value w h)

low-byte : (a b : ℕ) → a < 256 → b < 256 → byte_at 0 (a + 256 * (b + 256 * 0)) ≡ a
low-byte a b p q = omega arith

high-byte : (a b : ℕ) → a < 256 → b < 256 → byte_at 1 (a + 256 * (b + 256 * 0)) ≡ b
high-byte a b p q = omega arith

abbrev two : ℕ → ℕ → List ℕ → List ℕ
two a b rest = a ∷ b ∷ rest

word-bytes : (a b : ℕ) (rest : List ℕ) → a < 256 → b < 256 → two a b rest ≡ word_bytes (little_number 2 (a ∷ b ∷ rest)) ++ rest
word-bytes a b rest p q =
    let low = low-byte a b p q in
    let high = high-byte a b p q in
    sym (ap (λ (x : ℕ). two x (byte_at 1 (little_number 2 (a ∷ b ∷ rest))) rest) low ∙ ap (λ (x : ℕ). two a x rest) high)

word-small : (a b : ℕ) → a < 256 → b < 256 → IsWord (a + 256 * (b + 256 * 0))
word-small a b p q = omega arith

word-found : (bytes : List ℕ) (w : ℕ) (rest : List ℕ) → AreBytes bytes → word_at bytes ≡ Ok (w, rest) → Took bytes (word_bytes w) rest × IsWord w
word-found [] w rest all e = absurd cc
word-found (a ∷ []) w rest all e = absurd cc
word-found (a ∷ b ∷ bytes) w rest all e =
    let long : 2 ≤ length (a ∷ b ∷ bytes) = omega arith in
    let is = done-is (little_number 2 (a ∷ b ∷ bytes), bytes) (w, rest) (sym (word-fits (a ∷ b ∷ bytes) long) ∙ e) in
    subst (λ (y : ℕ × List ℕ). Took (a ∷ b ∷ bytes) (word_bytes y.0) y.1 × IsWord y.0) is
    (record { parts = word-bytes a b bytes all.0 all.1.0; rest_bytes = all.1.1 }, word-small a b all.0 all.1.0)

pub word-codec : Codec word_at (λ bytes. 2) word_bytes IsWord
word-codec = record {
  short = word-short;
  fits = λ bytes le. (little_number 2 bytes, word-fits bytes le);
  again = word-again;
  found = word-found;
}

-- ---- texts

pub record IsText (t : List ℕ) : Type 0 where
  pub short : IsShort t
  pub bytes : AreBytes t

text-short : (bytes : List ℕ) → length bytes < text_len bytes → text_at bytes ≡ Err Short
text-short [] lt = refl
text-short (n ∷ bytes) lt = rw (lt-ltb (length bytes) n (omega arith)) refl

text-read : (n : ℕ) (bytes : List ℕ) → n ≤ length bytes → text_at (n ∷ bytes) ≡ Ok (take n bytes, drop n bytes)
text-read n bytes le = rw (le-ltb (length bytes) n le) refl

text-fits : (bytes : List ℕ) → text_len bytes ≤ length bytes → (t : List ℕ) × (text_at bytes ≡ Ok (t, drop (text_len bytes) bytes))
text-fits [] le = absurd (omega arith)
text-fits (n ∷ bytes) le =
    let behind : 1 + n ≡ suc n = omega arith in
    (take n bytes, text-read n bytes (omega arith) ∙ ap (λ (k : ℕ). done (take n bytes, drop k (n ∷ bytes))) (sym behind))

text-again : (t rest : List ℕ) → IsText t → text_at (text_bytes t ++ rest) ≡ Ok (t, rest)
text-again t rest good =
    text-read (length t) (t ++ rest) (omega (arith, length-append t rest))
    ∙ (ap (λ (x : List ℕ). done (x, drop (length t) (t ++ rest))) (take_at t rest (length t) refl)
    ∙ ap (λ (x : List ℕ). done (t, x)) (drop_at t rest (length t) refl))

abbrev cons : List ℕ → ℕ → List ℕ
cons xs x = x ∷ xs

text-found : (bytes t rest : List ℕ) → AreBytes bytes → text_at bytes ≡ Ok (t, rest) → Took bytes (text_bytes t) rest × IsText t
text-found [] t rest all e = absurd cc
text-found (n ∷ bytes) t rest all e =
    elim (cases_lt (length bytes) n) [
      | inl lt ↦ let short = text-short (n ∷ bytes) (omega arith) in absurd (cc)
      | inr le ↦
          let is = done-is (take n bytes, drop n bytes) (t, rest) (sym (text-read n bytes le) ∙ e) in
          let len : length (take n bytes) ≡ n = omega (arith, length-take n bytes) in
          let split : bytes ≡ take n bytes ++ drop n bytes = sym (take-append-drop n bytes) in
          let both = subst AreBytes split all.1 in
          let whole : n ∷ bytes ≡ text_bytes (take n bytes) ++ drop n bytes = ap (cons bytes) (sym len) ∙ ap (λ (x : List ℕ). cons x (length (take n bytes))) split in
          subst (λ (y : List ℕ × List ℕ). Took (n ∷ bytes) (text_bytes y.0) y.1 × IsText y.0) is (
            record { parts = whole; rest_bytes = all-back IsByte (take n bytes) (drop n bytes) both },
            record { short = omega (arith, all.0); bytes = all-front IsByte (take n bytes) (drop n bytes) both },
          )
    ]

pub text-codec : Codec text_at text_len text_bytes IsText
text-codec = record { short = text-short; fits = text-fits; again = text-again; found = text-found }

pub bytes-by_index : (bytes : List ℕ) → ((i : ℕ) → get_or bytes i 0 < 256) → AreBytes bytes
bytes-by_index [] each = tt
bytes-by_index (b ∷ bytes) each = (each 0, bytes-by_index bytes (λ i. each (suc i)))
