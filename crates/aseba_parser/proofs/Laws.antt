-- What the laws of reading say: what is read is spelled so, what is spelled so is read, and the answer at a token doesn't depend on what stands behind it.
use Rattle.std.specs.Prelude.{◌≡◌, ℕ, suc, ◌≤◌, List, [], ◌∷◌, ◌++◌, drop, Option, Some, None, true, false, nat_lt}
use Rattle.aseba_tree.specs.declared.token.Token.{Token}
use Rattle.aseba_tree.specs.Code.{Source, Project}
use Rattle.aseba_tree.specs.Spells.{Spells}
use Rattle.aseba_tree.specs.Nest.{nests}
use Rattle.aseba_parser.specs.Reading.{Read, taken, wrong, deep, program_read}

-- some value's spelling begins with these tokens
abbrev pub Beginning : {A : Type 0} → (List Token → A → Type 0) → List Token → Type 0
Beginning {A} Spelling used = (more : List Token) × (a : A) × Spelling (used ++ more) a

-- What was read of the tokens: the value's spelling; the beginning of some spelling; the same with the token that opens a level too many.
abbrev pub Means : {A : Type 0} → (List Token → A → Type 0) → List Token → Read A → Type 0
Means Spelling tokens (taken a rest) = (used : List Token) × (tokens ≡ used ++ rest) × Spelling used a
Means Spelling tokens (wrong rest) = (used : List Token) × (tokens ≡ used ++ rest) × Beginning Spelling used
Means Spelling tokens (deep []) = ⊥
Means Spelling tokens (deep (t ∷ rest)) = (used : List Token) × (tokens ≡ used ++ t ∷ rest) × Beginning Spelling (used ++ t ∷ [])

abbrev pub EachReadIsSpelled : Type 0
EachReadIsSpelled = (project : Project) (depth : ℕ) (tokens : List Token) → Means (λ used source. Spells project source used) tokens (program_read project depth tokens)

-- the first place whose nest is above the depth
abbrev pub first_above : ℕ → List ℕ → Option ℕ
first_above depth [] = None
first_above depth (n ∷ ns) = elim (nat_lt depth n) [ true ↦ Some 0 | false ↦ elim (first_above depth ns) [ None ↦ None | Some k ↦ Some (suc k) ] ]

-- what is read of spelled tokens with those nests: their value, or the fault at the first token that is nested too deep
abbrev pub outcome : {A : Type 0} → Option ℕ → List Token → List Token → A → Read A
outcome None used rest a = taken a rest
outcome (Some k) used rest a = deep (drop k used ++ rest)

abbrev pub EachSpelledIsRead : Type 0
EachSpelledIsRead = (project : Project) (source : Source) (tokens : List Token) (d : Spells project source tokens) (depth : ℕ)
    → program_read project depth tokens ≡ outcome (first_above depth (nests d)) tokens [] source

-- the answer at a token is the same whatever stands behind it
abbrev pub IsLocalAt : {A : Type 0} → (List Token → Read A) → List Token → Read A → Type 0
IsLocalAt read tokens (taken a rest) = (used : List Token) × (tokens ≡ used ++ rest) × ((t : Token) (after other : List Token) → rest ≡ t ∷ after → read (used ++ t ∷ other) ≡ taken a (t ∷ other))
IsLocalAt read tokens (wrong rest) = (used : List Token) × (tokens ≡ used ++ rest) × ((t : Token) (after other : List Token) → rest ≡ t ∷ after → read (used ++ t ∷ other) ≡ wrong (t ∷ other))
IsLocalAt read tokens (deep rest) = (used : List Token) × (tokens ≡ used ++ rest) × ((t : Token) (after other : List Token) → rest ≡ t ∷ after → read (used ++ t ∷ other) ≡ deep (t ∷ other))

abbrev pub IsLocal : {A : Type 0} → (List Token → Read A) → Type 0
IsLocal read = (tokens : List Token) → IsLocalAt read tokens (read tokens)

abbrev pub ReadingIsLocal : Type 0
ReadingIsLocal = (project : Project) (depth : ℕ) → IsLocal (program_read project depth)

-- from one token to the next at most one level is opened
abbrev pub Climbs : ℕ → List ℕ → Type 0
Climbs n [] = Unit {0}
Climbs n (m ∷ ms) = (m ≤ suc n) × Climbs m ms

abbrev pub NestsClimb : Type 0
NestsClimb = (project : Project) (source : Source) (tokens : List Token) (d : Spells project source tokens) → Climbs 0 (nests d)
