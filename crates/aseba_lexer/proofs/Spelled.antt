-- Bytes that were compared one by one with those of a table.
use Rattle.std.proofs.Common.{◌≡◌, ℕ, ◌<◌, ◌≤◌, nat_le, Bool, true, false, not, ◌&&◌, List, [], ◌∷◌, None, refl, ap, sym, subst, length, arith}
use Rattle.std.proofs.lemmas.Bool.{eqb-true, eqb-false, leb-true}
use Rattle.aseba_tree.specs.Tokens.{spelled_in}
use lib.Dec.{eqb}
use lib.Pointwise.{pointwise}

pub first-true : (a b : Bool) → (a && b) ≡ true → a ≡ true
first-true true b h = refl
first-true false b h = h

pub second-true : (a b : Bool) → (a && b) ≡ true → b ≡ true
second-true true b h = h
second-true false b h = cc

pub same-bytes : (xs ys : List ℕ) → pointwise eqb xs ys ≡ true → xs ≡ ys
same-bytes [] [] h = refl
same-bytes [] (y ∷ ys) h = cc
same-bytes (x ∷ xs) [] h = cc
same-bytes (x ∷ xs) (y ∷ ys) h =
    let heads : x ≡ y = eqb-true x y (first-true (eqb x y) (pointwise eqb xs ys) h) in
    let tails : xs ≡ ys = same-bytes xs ys (second-true (eqb x y) (pointwise eqb xs ys) h) in
    cc

-- Tables of spellings: no row begins with a byte of some kind, or none is longer than three bytes.
abbrev avoids-row : (ℕ → Bool) → List ℕ → Bool
avoids-row q [] = false
avoids-row q (c ∷ cs) = not (q c)

abbrev pub avoids : {A : Type 0} → (ℕ → Bool) → List (List ℕ × A) → Bool
avoids q [] = true
avoids q (row ∷ rows) = avoids-row q row.0 && avoids q rows

miss-by : (q : ℕ → Bool) (c b : ℕ) (cs xs : List ℕ) → not (q c) ≡ true → q b ≡ true → (v : Bool) → eqb c b ≡ v → (v && pointwise eqb cs xs) ≡ false
miss-by q c b cs xs n h false e = refl
miss-by q c b cs xs n h true e = let met : q c ≡ true = subst (λ (x : ℕ). q x ≡ true) (sym (eqb-true c b e)) h in let never : not true ≡ true = subst (λ (x : Bool). not x ≡ true) met n in cc

miss : (q : ℕ → Bool) (ys : List ℕ) (b : ℕ) (xs : List ℕ) → avoids-row q ys ≡ true → q b ≡ true → pointwise eqb ys (b ∷ xs) ≡ false
miss q [] b xs n h = refl
miss q (c ∷ cs) b xs n h = miss-by q c b cs xs n h (eqb c b) refl

pub absent : {A : Type 0} (q : ℕ → Bool) (table : List (List ℕ × A)) (b : ℕ) (xs : List ℕ) → avoids q table ≡ true → q b ≡ true → spelled_in table (b ∷ xs) ≡ None
absent q [] b xs n h = refl
absent q (row ∷ rows) b xs n h =
    rw (miss q row.0 b xs (first-true (avoids-row q row.0) (avoids q rows) n) h) (absent q rows b xs (second-true (avoids-row q row.0) (avoids q rows) n) h)

abbrev pub short : {A : Type 0} → List (List ℕ × A) → Bool
short [] = true
short (row ∷ rows) = nat_le (length row.0) 3 && short rows

long-by : (ys bytes : List ℕ) → length ys ≤ 3 → 3 < length bytes → (v : Bool) → pointwise eqb ys bytes ≡ v → v ≡ false
long-by ys bytes h l false e = refl
long-by ys bytes h l true e = absurd (omega (arith, ap length (same-bytes ys bytes e)))

pub too-long : {A : Type 0} (table : List (List ℕ × A)) (bytes : List ℕ) → short table ≡ true → 3 < length bytes → spelled_in table bytes ≡ None
too-long [] bytes n h = refl
too-long (row ∷ rows) bytes n h =
    rw (long-by row.0 bytes (leb-true (length row.0) 3 (first-true (nat_le (length row.0) 3) (short rows) n)) h (pointwise eqb row.0 bytes) refl)
    (too-long rows bytes (second-true (nat_le (length row.0) 3) (short rows) n) h)

-- equality of numbers, either way round
eqb-by : (a b : ℕ) (v u : Bool) → eqb a b ≡ v → eqb b a ≡ u → v ≡ u
eqb-by a b true true e f = refl
eqb-by a b false false e f = refl
eqb-by a b true false e f = absurd (eqb-false b a f (sym (eqb-true a b e)))
eqb-by a b false true e f = absurd (eqb-false a b e (sym (eqb-true b a f)))

pub eqb-sym : (a b : ℕ) → eqb a b ≡ eqb b a
eqb-sym a b = eqb-by a b (eqb a b) (eqb b a) refl refl
