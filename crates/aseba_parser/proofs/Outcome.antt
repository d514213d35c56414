-- What is read of tokens with known nests, and how such answers are put together.
use Rattle.std.proofs.Common.{◌≡◌, ◌∙◌, ℕ, suc, Bool, true, false, List, [], ◌∷◌, ◌++◌, Option, Some, None, refl, ap, arith}
use Rattle.std.specs.Prelude.{nat_lt}
use Rattle.aseba_tree.specs.declared.token.Token.{Token}
use Rattle.aseba_tree.specs.Nest.{inside, enclosed}
use Rattle.aseba_parser.specs.Reading.{Read, taken, wrong, deep, next}
use Rattle.aseba_parser.proofs.Laws.{first_above, outcome}

-- The value and the tokens behind so many nests, or the tokens from the first whose nest is above the depth.
abbrev pub reply : {A : Type 0} → ℕ → List ℕ → List Token → A → Read A
reply depth [] tokens a = taken a tokens
reply depth (n ∷ ns) [] a = deep []
reply depth (n ∷ ns) (t ∷ tokens) a = elim (nat_lt depth n) [ true ↦ deep (t ∷ tokens) | false ↦ reply depth ns tokens a ]

-- a nest for each token
abbrev pub Fits : List ℕ → List Token → Type 0
Fits [] [] = Unit {0}
Fits [] (t ∷ tokens) = ⊥
Fits (n ∷ ns) [] = ⊥
Fits (n ∷ ns) (t ∷ tokens) = Fits ns tokens

pub fits_both : (ns ms : List ℕ) (used more : List Token) → Fits ns used → Fits ms more → Fits (ns ++ ms) (used ++ more)
fits_both [] ms [] more f g = g
fits_both [] ms (t ∷ used) more f g = elim f [ ]
fits_both (n ∷ ns) ms [] more f g = elim f [ ]
fits_both (n ∷ ns) ms (t ∷ used) more f g = fits_both ns ms used more f g

pub fits_inside : (ns : List ℕ) (used : List Token) → Fits ns used → Fits (inside ns) used
fits_inside [] [] f = f
fits_inside [] (t ∷ used) f = f
fits_inside (n ∷ ns) [] f = f
fits_inside (n ∷ ns) (t ∷ used) f = fits_inside ns used f

pub fits_enclosed : (ns : List ℕ) (used : List Token) (opening closing : Token) → Fits ns used → Fits (enclosed ns) (opening ∷ (used ++ closing ∷ []))
fits_enclosed ns used opening closing f = fits_inside (ns ++ 0 ∷ []) (used ++ closing ∷ []) (fits_both ns (0 ∷ []) used (closing ∷ []) f tt)

not_below_zero : (depth : ℕ) → nat_lt depth 0 ≡ false
not_below_zero depth = grind arith

below_suc : (depth n : ℕ) → nat_lt (suc depth) (suc n) ≡ nat_lt depth n
below_suc depth n = grind arith

one_first : {A : Type 0} (p q : Bool) (all : List Token) (r s : Read A) → p ≡ q → r ≡ s → elim p as (λ b. Read A) [ true ↦ deep all | false ↦ r ] ≡ elim q as (λ b. Read A) [ true ↦ deep all | false ↦ s ]
one_first {A} p q all r s e f = ap (λ (b : Bool). elim b as (λ b. Read A) [ true ↦ deep all | false ↦ r ]) e ∙ ap (λ (x : Read A). elim q as (λ b. Read A) [ true ↦ deep all | false ↦ x ]) f

-- a token that opens nothing
pub reply_first : {A : Type 0} (depth : ℕ) (ns : List ℕ) (t : Token) (tokens : List Token) (a : A) → reply depth (0 ∷ ns) (t ∷ tokens) a ≡ reply depth ns tokens a
reply_first depth ns t tokens a = one_first (nat_lt depth 0) false (t ∷ tokens) (reply depth ns tokens a) (reply depth ns tokens a) (not_below_zero depth) refl

-- a level deeper
pub reply_inside : {A : Type 0} (depth : ℕ) (ns : List ℕ) (tokens : List Token) (a : A) → reply (suc depth) (inside ns) tokens a ≡ reply depth ns tokens a
reply_inside depth [] tokens a = refl
reply_inside depth (n ∷ ns) [] a = refl
reply_inside depth (n ∷ ns) (t ∷ tokens) a =
    one_first (nat_lt (suc depth) (suc n)) (nat_lt depth n) (t ∷ tokens) (reply (suc depth) (inside ns) tokens a) (reply depth ns tokens a) (below_suc depth n) (reply_inside depth ns tokens a)

-- what is read behind a value
next_first : {A B : Type 0} (q : Bool) (all : List Token) (r : Read A) (s : Read B) (f : A → List Token → Read B) → next r f ≡ s
    → next (elim q [ true ↦ deep all | false ↦ r ]) f ≡ elim q [ true ↦ deep all | false ↦ s ]
next_first true all r s f e = refl
next_first false all r s f e = e

pub reply_next : {A B : Type 0} (depth : ℕ) (ns ms : List ℕ) (used rest : List Token) (a : A) (b : B) (f : A → List Token → Read B) → Fits ns used → f a rest ≡ reply depth ms rest b
    → next (reply depth ns (used ++ rest) a) f ≡ reply depth (ns ++ ms) (used ++ rest) b
reply_next depth [] ms [] rest a b f fits e = e
reply_next depth [] ms (t ∷ used) rest a b f fits e = elim fits [ ]
reply_next depth (n ∷ ns) ms [] rest a b f fits e = elim fits [ ]
reply_next depth (n ∷ ns) ms (t ∷ used) rest a b f fits e =
    next_first (nat_lt depth n) (t ∷ (used ++ rest)) (reply depth ns (used ++ rest) a) (reply depth (ns ++ ms) (used ++ rest) b) f (reply_next depth ns ms used rest a b f fits e)

-- the same where nothing more is read
pub reply_made : {A B : Type 0} (depth : ℕ) (ns : List ℕ) (used rest : List Token) (a : A) (b : B) (f : A → List Token → Read B) → Fits ns used → f a rest ≡ taken b rest
    → next (reply depth ns (used ++ rest) a) f ≡ reply depth ns (used ++ rest) b
reply_made depth [] [] rest a b f fits e = e
reply_made depth [] (t ∷ used) rest a b f fits e = elim fits [ ]
reply_made depth (n ∷ ns) [] rest a b f fits e = elim fits [ ]
reply_made depth (n ∷ ns) (t ∷ used) rest a b f fits e =
    next_first (nat_lt depth n) (t ∷ (used ++ rest)) (reply depth ns (used ++ rest) a) (reply depth ns (used ++ rest) b) f (reply_made depth ns used rest a b f fits e)

-- another value made of it
pub reply_map : {A B : Type 0} (depth : ℕ) (ns : List ℕ) (tokens : List Token) (a : A) (b : B) (f : A → List Token → Read B) → ((rest : List Token) → f a rest ≡ taken b rest) → next (reply depth ns tokens a) f ≡ reply depth ns tokens b
reply_map depth [] tokens a b f e = e tokens
reply_map depth (n ∷ ns) [] a b f e = refl
reply_map depth (n ∷ ns) (t ∷ tokens) a b f e = next_first (nat_lt depth n) (t ∷ tokens) (reply depth ns tokens a) (reply depth ns tokens b) f (reply_map depth ns tokens a b f e)

-- What is read behind a value is asked for at the tokens behind it alone.
pub reply_same : {A B : Type 0} (depth : ℕ) (ns : List ℕ) (used rest : List Token) (a : A) (f g : A → List Token → Read B) → Fits ns used → f a rest ≡ g a rest
    → next (reply depth ns (used ++ rest) a) f ≡ next (reply depth ns (used ++ rest) a) g
reply_same depth [] [] rest a f g fits e = e
reply_same depth [] (t ∷ used) rest a f g fits e = elim fits [ ]
reply_same depth (n ∷ ns) [] rest a f g fits e = elim fits [ ]
reply_same depth (n ∷ ns) (t ∷ used) rest a f g fits e = both_first (nat_lt depth n) (t ∷ (used ++ rest)) (reply depth ns (used ++ rest) a) f g (reply_same depth ns used rest a f g fits e)
  where
    both_first : {A B : Type 0} (q : Bool) (all : List Token) (r : Read A) (f g : A → List Token → Read B) → next r f ≡ next r g
        → next (elim q as (λ c. Read A) [ true ↦ deep all | false ↦ r ]) f ≡ next (elim q as (λ c. Read A) [ true ↦ deep all | false ↦ r ]) g
    both_first true all r f g e = refl
    both_first false all r f g e = e

pub next_next : {A B C : Type 0} (r : Read A) (f : A → List Token → Read B) (g : B → List Token → Read C) → next (next r f) g ≡ next r (λ a rest. next (f a rest) g)
next_next (taken a rest) f g = refl
next_next (wrong rest) f g = refl
next_next (deep rest) f g = refl

-- as the statements of the laws have it
outcome_first : {A : Type 0} (q : Bool) (o : Option ℕ) (t : Token) (used rest : List Token) (a : A) (r : Read A) → r ≡ outcome o used rest a
    → elim q [ true ↦ deep (t ∷ (used ++ rest)) | false ↦ r ] ≡ outcome (elim q [ true ↦ Some 0 | false ↦ elim o [ None ↦ None | Some k ↦ Some (suc k) ] ]) (t ∷ used) rest a
outcome_first true o t used rest a r e = refl
outcome_first false None t used rest a r e = e
outcome_first false (Some k) t used rest a r e = e

pub reply_outcome : {A : Type 0} (depth : ℕ) (ns : List ℕ) (used rest : List Token) (a : A) → Fits ns used → reply depth ns (used ++ rest) a ≡ outcome (first_above depth ns) used rest a
reply_outcome depth [] [] rest a fits = refl
reply_outcome depth [] (t ∷ used) rest a fits = elim fits [ ]
reply_outcome depth (n ∷ ns) [] rest a fits = elim fits [ ]
reply_outcome depth (n ∷ ns) (t ∷ used) rest a fits = outcome_first (nat_lt depth n) (first_above depth ns) t used rest a (reply depth ns (used ++ rest) a) (reply_outcome depth ns used rest a fits)
