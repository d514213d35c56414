-- The rules by which a reader is shown to take only what is spelled so. A production is a row of readers, and each rule here adds one of them: what is said of the readers behind it speaks of spellings that begin with what it took.
-- That tokens taken so far can be completed is never shown by writing the rest of a spelling down: it follows from what is said of the readers behind, where no token is left for them.
use Rattle.std.proofs.Common.{◌≡◌, refl, sym, ◌∙◌, ap, subst, ℕ, zero, suc, List, [], ◌∷◌, ◌++◌, Bool, true, false}
use Rattle.std.specs.Prelude.{Option, Some, None, length}
use Rattle.std.proofs.lemmas.List.{append_assoc}
use denote.Enum.Bare.{same_true}
use Rattle.aseba_tree.specs.declared.pos.Pos.{Pos}
use Rattle.aseba_tree.specs.declared.token.Token.{Token}
use Rattle.aseba_tree.specs.declared.token.TokenKind.{TokenKind}
use Rattle.aseba_tree.specs.declared.token.Key.{Key}
use Rattle.aseba_tree.specs.declared.token.Sign.{Sign}
use Rattle.aseba_tree.specs.contracts.Key as key_type
use Rattle.aseba_tree.specs.contracts.Sign as sign_type
use Rattle.aseba_tree.specs.Code.{Name}
use Rattle.aseba_tree.specs.Spells.{IsName, IsKey, IsSign}
use Rattle.aseba_parser.specs.Reading.{Read, taken, wrong, deep, next, is_sign, is_key, expected, Named, named, many, all_of, opened}
use Rattle.aseba_parser.proofs.Laws.{Beginning, Means}

-- what was read of the tokens is spelled so
pub record Told {A : Type 0} (Spelling : List Token → A → Type 0) (tokens : List Token) (read : Read A) : Type 0 where
  pub means : Means Spelling tokens read

-- a value with all of its tokens behind
pub done : {A : Type 0} {S : List Token → A → Type 0} {tokens : List Token} {a : A} → S [] a → Told S tokens (taken a tokens)
done d = record { means = ([], refl, d) }

-- the first token fits nothing
pub fault : {A : Type 0} {S : List Token → A → Type 0} {tokens : List Token} → Beginning S [] → Told S tokens (wrong tokens)
fault b = record { means = ([], refl, b) }

shorter : {A : Type 0} (S : List Token → A → Type 0) (used more : List Token) → Beginning S (used ++ more) → Beginning S used
shorter S used more (others, a, d) = (more ++ others, a, subst (λ all. S all a) (append_assoc used more others) d)

longer : {A : Type 0} (S : List Token → A → Type 0) (before used : List Token) → Beginning (λ more a. S (before ++ more) a) used → Beginning S (before ++ used)
longer S before used (others, a, d) = (others, a, subst (λ all. S all a) (sym (append_assoc before used others)) d)

-- what is meant behind some tokens is what is meant of all
further : {A : Type 0} (S : List Token → A → Type 0) (before tokens all : List Token) (r : Read A) → all ≡ before ++ tokens → Means (λ used a. S (before ++ used) a) tokens r → Means S all r
further S before tokens all (taken a rest) e (used, f, d) = (before ++ used, e ∙ (ap (λ more. before ++ more) f ∙ sym (append_assoc before used rest)), d)
further S before tokens all (wrong rest) e (used, f, b) = (before ++ used, e ∙ (ap (λ more. before ++ more) f ∙ sym (append_assoc before used rest)), longer S before used b)
further S before tokens all (deep []) e m = m
further S before tokens all (deep (t ∷ rest)) e (used, f, b) =
    (before ++ used, e ∙ (ap (λ more. before ++ more) f ∙ sym (append_assoc before used (t ∷ rest))), subst (Beginning S) (sym (append_assoc before used (t ∷ []))) (longer S before (used ++ t ∷ []) b))

-- some tokens go on as it is told of what stands behind them
goes_on : {A : Type 0} (S : List Token → A → Type 0) (before tokens : List Token) (r : Read A) → Means (λ used a. S (before ++ used) a) tokens r → Beginning S before
goes_on S before tokens (taken a rest) (used, f, d) = (used, a, d)
goes_on S before tokens (wrong rest) (used, f, (more, a, d)) = (used ++ more, a, d)
goes_on S before tokens (deep []) m = absurd m
goes_on S before tokens (deep (t ∷ rest)) (used, f, (more, a, d)) = ((used ++ t ∷ []) ++ more, a, d)

-- behind the first token
pub behind_first : {A : Type 0} {S : List Token → A → Type 0} {t : Token} {rest : List Token} {r : Read A} → Told (λ used a. S (t ∷ used) a) rest r → Told S (t ∷ rest) r
behind_first {A} {S} {t} {rest} {r} m = record { means = further S (t ∷ []) rest (t ∷ rest) r refl m.means }

pub begun_by : {A : Type 0} (S : List Token → A → Type 0) (t : Token) {rest : List Token} {r : Read A} → Told (λ used a. S (t ∷ used) a) rest r → Beginning S (t ∷ [])
begun_by S t {rest} {r} m = goes_on S (t ∷ []) rest r m.means

pub begun : {A : Type 0} (S : List Token → A → Type 0) (t : Token) {rest : List Token} {r : Read A} → Told (λ used a. S (t ∷ used) a) rest r → Beginning S []
begun S t m = shorter S [] (t ∷ []) (begun_by S t m)

-- one reader behind another
chained : {A B : Type 0} (P : List Token → A → Type 0) (S : List Token → B → Type 0) (tokens : List Token) (r : Read A) (f : A → List Token → Read B) → Means P tokens r
    → ((a : A) (used rest : List Token) → P used a → Told (λ more b. S (used ++ more) b) rest (f a rest)) → Means S tokens (next r f)
chained P S tokens (taken a rest) f (used, e, d) then = further S used rest tokens (f a rest) e (then a used rest d).means
chained P S tokens (wrong rest) f (used, e, (more, a, d)) then = (used, e, shorter S used more (goes_on S (used ++ more) [] (f a []) (then a (used ++ more) [] d).means))
chained P S tokens (deep []) f m then = m
chained P S tokens (deep (t ∷ rest)) f (used, e, (more, a, d)) then =
    (used, e, shorter S (used ++ t ∷ []) more (goes_on S ((used ++ t ∷ []) ++ more) [] (f a []) (then a ((used ++ t ∷ []) ++ more) [] d).means))

pub behind : {A B : Type 0} {P : List Token → A → Type 0} {S : List Token → B → Type 0} {tokens : List Token} {r : Read A} {f : A → List Token → Read B} → Told P tokens r
    → ((a : A) (used rest : List Token) → P used a → Told (λ more b. S (used ++ more) b) rest (f a rest)) → Told S tokens (next r f)
behind {A} {B} {P} {S} {tokens} {r} {f} m then = record { means = chained P S tokens r f m.means then }

-- the last reader
ended : {A B : Type 0} (P : List Token → A → Type 0) (S : List Token → B → Type 0) (tokens : List Token) (r : Read A) (g : A → B) → Means P tokens r → ((a : A) (used : List Token) → P used a → S used (g a))
    → Means S tokens (next r (λ a rest. taken (g a) rest))
ended P S tokens (taken a rest) g (used, e, d) then = (used, e, then a used d)
ended P S tokens (wrong rest) g (used, e, (more, a, d)) then = (used, e, (more, g a, then a (used ++ more) d))
ended P S tokens (deep []) g m then = m
ended P S tokens (deep (t ∷ rest)) g (used, e, (more, a, d)) then = (used, e, (more, g a, then a ((used ++ t ∷ []) ++ more) d))

pub finally : {A B : Type 0} {P : List Token → A → Type 0} {S : List Token → B → Type 0} {tokens : List Token} {r : Read A} (g : A → B) → Told P tokens r → ((a : A) (used : List Token) → P used a → S used (g a))
    → Told S tokens (next r (λ a rest. taken (g a) rest))
finally {A} {B} {P} {S} {tokens} {r} g m then = record { means = ended P S tokens r g m.means then }

-- spelled so, spelled otherwise
weakened : {A : Type 0} (P S : List Token → A → Type 0) (tokens : List Token) (r : Read A) → Means P tokens r → ((a : A) (used : List Token) → P used a → S used a) → Means S tokens r
weakened P S tokens (taken a rest) (used, e, d) then = (used, e, then a used d)
weakened P S tokens (wrong rest) (used, e, (more, a, d)) then = (used, e, (more, a, then a (used ++ more) d))
weakened P S tokens (deep []) m then = m
weakened P S tokens (deep (t ∷ rest)) (used, e, (more, a, d)) then = (used, e, (more, a, then a ((used ++ t ∷ []) ++ more) d))

pub told_as : {A : Type 0} {P S : List Token → A → Type 0} {tokens : List Token} {r : Read A} → Told P tokens r → ((a : A) (used : List Token) → P used a → S used a) → Told S tokens r
told_as {A} {P} {S} {tokens} {r} m then = record { means = weakened P S tokens r m.means then }

-- by a test
pub by_test : {A : Type 0} {S : List Token → A → Type 0} {tokens : List Token} {positive negative : Read A} (b : Bool) → (b ≡ true → Told S tokens positive) → (b ≡ false → Told S tokens negative)
    → Told S tokens (elim b [ true ↦ positive | false ↦ negative ])
by_test true p n = p refl
by_test false p n = n refl

-- one token that fits, behind which the next is read
fitting : {B : Type 0} (S : List Token → B → Type 0) (fits : TokenKind → Bool) (f : Token → List Token → Read B) (tokens : List Token) → Beginning S []
    → ((t : Token) (rest : List Token) → fits t.kind ≡ true → Told (λ more b. S (t ∷ more) b) rest (f t rest)) → Told S tokens (next (expected fits tokens) f)
fitting S fits f [] b then = fault b
fitting S fits f (t ∷ rest) b then = by_fit (fits t.kind) refl
  where
    by_fit : (found : Bool) → fits t.kind ≡ found → Told S (t ∷ rest) (next (elim found [ true ↦ taken t rest | false ↦ wrong (t ∷ rest) ]) f)
    by_fit true e = behind_first (then t rest e)
    by_fit false e = fault b

-- a token that stands nowhere
abbrev pub made : TokenKind → Token
made kind = record { at = record { line = 1; col = 1 }; kind = kind }

pub is_the_sign : (sign : Sign) (t : Token) → is_sign sign t.kind ≡ true → IsSign sign t
is_the_sign sign t e = by_kind t.kind e
  where
    by_kind : (kind : TokenKind) → is_sign sign kind ≡ true → kind ≡ TokenKind.Sign sign
    by_kind (TokenKind.Name name) e = absurd (cc e)
    by_kind (TokenKind.Number v) e = absurd (cc e)
    by_kind (TokenKind.Key key) e = absurd (cc e)
    by_kind (TokenKind.Sign found) e = ap TokenKind.Sign (same_true sign_type.the_type tt found sign e)

pub is_the_key : (key : Key) (t : Token) → is_key key t.kind ≡ true → IsKey key t
is_the_key key t e = by_kind t.kind e
  where
    by_kind : (kind : TokenKind) → is_key key kind ≡ true → kind ≡ TokenKind.Key key
    by_kind (TokenKind.Name name) e = absurd (cc e)
    by_kind (TokenKind.Number v) e = absurd (cc e)
    by_kind (TokenKind.Sign sign) e = absurd (cc e)
    by_kind (TokenKind.Key found) e = ap TokenKind.Key (same_true key_type.the_type tt found key e)

pub behind_sign : {B : Type 0} {S : List Token → B → Type 0} {tokens : List Token} {f : Token → List Token → Read B} (sign : Sign)
    → ((t : Token) (rest : List Token) → IsSign sign t → Told (λ more b. S (t ∷ more) b) rest (f t rest)) → Told S tokens (next (expected (is_sign sign) tokens) f)
behind_sign {B} {S} {tokens} {f} sign then =
    fitting S (is_sign sign) f tokens (begun S (made (TokenKind.Sign sign)) (then (made (TokenKind.Sign sign)) [] refl)) (λ t rest e. then t rest (is_the_sign sign t e))

pub behind_key : {B : Type 0} {S : List Token → B → Type 0} {tokens : List Token} {f : Token → List Token → Read B} (key : Key)
    → ((t : Token) (rest : List Token) → IsKey key t → Told (λ more b. S (t ∷ more) b) rest (f t rest)) → Told S tokens (next (expected (is_key key) tokens) f)
behind_key {B} {S} {tokens} {f} key then =
    fitting S (is_key key) f tokens (begun S (made (TokenKind.Key key)) (then (made (TokenKind.Key key)) [] refl)) (λ t rest e. then t rest (is_the_key key t e))

pub behind_name : {B : Type 0} {S : List Token → B → Type 0} {tokens : List Token} (f : Named → List Token → Read B)
    → ((t : Token) (name : Name) (rest : List Token) → IsName name t → Told (λ more b. S (t ∷ more) b) rest (f (record { token = t; name = name }) rest)) → Told S tokens (next (named tokens) f)
behind_name {B} {S} {tokens} f then = by_tokens tokens
  where
    begins : Beginning S []
    begins = begun S (made (TokenKind.Name [])) (then (made (TokenKind.Name [])) [] [] refl)

    by_kind : (at : Pos) (kind : TokenKind) (rest : List Token) → Told S (record { at = at; kind = kind } ∷ rest) (next (named (record { at = at; kind = kind } ∷ rest)) f)
    by_kind at (TokenKind.Name name) rest = behind_first (then (record { at = at; kind = TokenKind.Name name }) name rest refl)
    by_kind at (TokenKind.Number v) rest = fault begins
    by_kind at (TokenKind.Key key) rest = fault begins
    by_kind at (TokenKind.Sign sign) rest = fault begins

    by_tokens : (tokens : List Token) → Told S tokens (next (named tokens) f)
    by_tokens [] = fault begins
    by_tokens (t ∷ rest) = by_kind t.at t.kind rest

-- one behind the other
pub data Many (A : Type 0) (P : List Token → A → Type 0) : List Token → List A → Type 0 where
  no_more : {tokens : List Token} {found : List A} → tokens ≡ [] → found ≡ [] → Many A P tokens found
  another : {tokens : List Token} {found : List A} (first rest : List Token) (a : A) (others : List A) → tokens ≡ first ++ rest → found ≡ a ∷ others → P first a → Many A P rest others → Many A P tokens found

many_read : {A : Type 0} (P : List Token → A → Type 0) (begins : TokenKind → Bool) (read : List Token → Read A) → ((t : Token) (rest : List Token) → begins t.kind ≡ true → Told P (t ∷ rest) (read (t ∷ rest)))
    → (most : ℕ) (tokens : List Token) → Told (Many A P) tokens (many begins read most tokens)
many_read P begins read item zero tokens = done (no_more refl refl)
many_read P begins read item (suc most) [] = done (no_more refl refl)
many_read P begins read item (suc most) (t ∷ rest) =
    by_test (begins t.kind) (λ e. behind (item t rest e) (λ a used after d. finally _ (many_read P begins read item most after) (λ others more ds. another used more a others refl refl d ds))) (λ e. done (no_more refl refl))

pub all_read : {A : Type 0} {P : List Token → A → Type 0} (begins : TokenKind → Bool) (read : List Token → Read A) → ((t : Token) (rest : List Token) → begins t.kind ≡ true → Told P (t ∷ rest) (read (t ∷ rest)))
    → (tokens : List Token) → Told (Many A P) tokens (all_of begins read tokens)
all_read {A} {P} begins read item tokens = many_read P begins read item (length tokens) tokens

-- what the reader of the things inside is said to be, if there is one
abbrev pub Every : {A : Type 0} → (A → Type 0) → Option A → Type 0
Every P None = Unit {0}
Every P (Some a) = P a

-- what is read behind a token that opens a level
pub behind_opened : {A B : Type 0} {S : List Token → B → Type 0} {t : Token} {rest : List Token} (P : A → Type 0) (inside : Option A) {f : A → Read B} → Every P inside → (some : A) → P some
    → ((a : A) → P a → Told (λ more b. S (t ∷ more) b) rest (f a)) → Told S (t ∷ rest) (opened inside (t ∷ rest) f)
behind_opened {A} {B} {S} {t} {rest} P None {f} every some is then = record { means = ([], refl, begun_by S t (then some is)) }
behind_opened P (Some a) every some is then = behind_first (then a every)
