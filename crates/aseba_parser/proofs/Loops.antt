-- A loop that reads as many things as begin: from each turn on it goes on as from the start.
use Rattle.std.proofs.Common.{◌≡◌, ◌∙◌, ℕ, zero, suc, ◌≤◌, Bool, true, false, List, [], ◌∷◌, ◌++◌, length, refl, sym, ap, subst, arith, append_assoc}
use Rattle.std.proofs.lemmas.List.{append-nil}
use Rattle.aseba_tree.specs.declared.token.Token.{Token}
use Rattle.aseba_tree.specs.declared.token.TokenKind.{TokenKind}
use Rattle.aseba_parser.specs.declared.fault.Fault.{Fault}
use Rattle.aseba_parser.specs.declared.fault.Fault.TheVariants as fault
use Rattle.aseba_parser.specs.Reading.{Read, taken, wrong, deep, next, many, all_of}
use Rattle.aseba_parser.specs.Reads.{Stops, begins_with}

-- What is left, with enough turns for it, is read to what the whole is.
pub record GoesOn {A B : Type 0} (begins : TokenKind → Bool) (read : List Token → Read A) (use_all : List A → List Token → Read B) (left : List Token) (whole : Read B) : Type 0 where
  pub turns : ℕ
  pub enough : length left ≤ turns
  pub same : next (many begins read turns left) use_all ≡ whole

pub at-start : {A B : Type 0} (begins : TokenKind → Bool) (read : List Token → Read A) (use_all : List A → List Token → Read B) (tokens : List Token)
    → GoesOn begins read use_all tokens (next (all_of begins read tokens) use_all)
at-start begins read use_all tokens = record { turns = length tokens; enough = omega arith; same = refl }

pub next-next : {A B C : Type 0} (r : Read A) (f : A → List Token → Read B) (g : B → List Token → Read C) → next (next r f) g ≡ next r (λ a rest. next (f a rest) g)
next-next (taken a rest) f g = refl
next-next (wrong rest) f g = refl
next-next (deep rest) f g = refl

pub next-same : {A B : Type 0} (r : Read A) (f g : A → List Token → Read B) → ((a : A) (rest : List Token) → f a rest ≡ g a rest) → next r f ≡ next r g
next-same (taken a rest) f g same = same a rest
next-same (wrong rest) f g same = refl
next-same (deep rest) f g same = refl

-- the same with other words for what is made of all
pub used-as : {A B : Type 0} (begins : TokenKind → Bool) (read : List Token → Read A) (use_all other : List A → List Token → Read B) (left : List Token) (whole : Read B)
    → ((all : List A) (behind : List Token) → other all behind ≡ use_all all behind) → GoesOn begins read use_all left whole → GoesOn begins read other left whole
used-as begins read use_all other left whole same h =
    record { turns = h.turns; enough = h.enough; same = next-same (many begins read h.turns left) other use_all same ∙ h.same }

-- a turn that begins
turn : {A B : Type 0} (begins : TokenKind → Bool) (read : List Token → Read A) (use_all : List A → List Token → Read B) (turns : ℕ) (t : Token) (rest : List Token) → begins t.kind ≡ true
    → next (many begins read (suc turns) (t ∷ rest)) use_all ≡ next (read (t ∷ rest)) (λ a after. next (many begins read turns after) (λ others behind. use_all (a ∷ others) behind))
turn begins read use_all turns t rest begun =
    subst
    (λ (b : Bool). next (elim b [ true ↦ next (read (t ∷ rest)) (λ a after. next (many begins read turns after) (λ others behind. taken (a ∷ others) behind)) | false ↦ taken [] (t ∷ rest) ]) use_all
    ≡ next (read (t ∷ rest)) (λ a after. next (many begins read turns after) (λ others behind. use_all (a ∷ others) behind)))
    (sym begun)
    (next-next (read (t ∷ rest)) (λ a after. next (many begins read turns after) (λ others behind. taken (a ∷ others) behind)) use_all
    ∙ next-same (read (t ∷ rest)) _ _ (λ a after. next-next (many begins read turns after) (λ others behind. taken (a ∷ others) behind) use_all))

end-of : {A B : Type 0} (begins : TokenKind → Bool) (read : List Token → Read A) (use_all : List A → List Token → Read B) (turns : ℕ) (left : List Token) → begins_with begins left ≡ false
    → next (many begins read turns left) use_all ≡ use_all [] left
end-of begins read use_all zero left none = refl
end-of begins read use_all (suc turns) [] none = refl
end-of begins read use_all (suc turns) (t ∷ rest) none =
    subst
    (λ (b : Bool). next (elim b [ true ↦ next (read (t ∷ rest)) (λ a after. next (many begins read turns after) (λ others behind. taken (a ∷ others) behind)) | false ↦ taken [] (t ∷ rest) ]) use_all
    ≡ use_all [] (t ∷ rest))
    (sym none) refl

taken-turn : {A B : Type 0} (begins : TokenKind → Bool) (read : List Token → Read A) (use_all : List A → List Token → Read B) (turns : ℕ) (t : Token) (rest : List Token) (whole : Read B) (a : A) (after : List Token)
    → length (t ∷ rest) ≤ turns → next (many begins read turns (t ∷ rest)) use_all ≡ whole → begins t.kind ≡ true → read (t ∷ rest) ≡ taken a after → length after ≤ length rest
    → GoesOn begins read (λ others behind. use_all (a ∷ others) behind) after whole
taken-turn begins read use_all zero t rest whole a after enough same begun found shorter = absurd (omega arith)
taken-turn begins read use_all (suc turns) t rest whole a after enough same begun found shorter = record {
  turns = turns;
  enough = omega arith;
  same = sym (turn begins read use_all turns t rest begun ∙ ap (λ r. next r (λ a after. next (many begins read turns after) (λ others behind. use_all (a ∷ others) behind))) found) ∙ same;
}

-- after a turn that read a thing
pub goes-on : {A B : Type 0} (begins : TokenKind → Bool) (read : List Token → Read A) (use_all : List A → List Token → Read B) (left : List Token) (whole : Read B) (t : Token) (rest : List Token) (a : A) (after : List Token)
    → GoesOn begins read use_all left whole → left ≡ t ∷ rest → begins t.kind ≡ true → read (t ∷ rest) ≡ taken a after → length after ≤ length rest
    → GoesOn begins read (λ others behind. use_all (a ∷ others) behind) after whole
goes-on begins read use_all left whole t rest a after h is begun found shorter =
    let moved : GoesOn begins read use_all (t ∷ rest) whole = subst (λ (l : List Token). GoesOn begins read use_all l whole) is h in
    taken-turn begins read use_all moved.turns t rest whole a after moved.enough moved.same begun found shorter

-- a value made of one that was read
pub from-taken : {A B : Type 0} (r : Read A) (f : A → B) (made : B) (behind : List Token) → next r (λ a after. taken (f a) after) ≡ taken made behind → (a : A) × (r ≡ taken a behind) × (f a ≡ made)
from-taken (taken a rest) f made behind same =
    let first : f a ≡ made = cc in
    let second : rest ≡ behind = cc in
    (a, ap (λ (l : List Token). taken a l) second, first)
from-taken (wrong rest) f made behind same = absurd (cc)
from-taken (deep rest) f made behind same = absurd (cc)

pub from-stop : {A B : Type 0} (r : Read A) (f : A → B) (e : Fault) → Stops (next r (λ a after. taken (f a) after)) e → Stops r e
from-stop (taken a rest) f (fault.Syntax left) h = absurd (cc)
from-stop (taken a rest) f (fault.TooDeep left) h = absurd (cc)
from-stop (taken a rest) f fault.Mem h = tt
from-stop (wrong rest) f (fault.Syntax left) h = let e : rest ≡ left.now = cc in ap (λ (l : List Token). wrong l) e
from-stop (wrong rest) f (fault.TooDeep left) h = absurd (cc)
from-stop (wrong rest) f fault.Mem h = tt
from-stop (deep rest) f (fault.Syntax left) h = absurd (cc)
from-stop (deep rest) f (fault.TooDeep left) h = let e : rest ≡ left.now = cc in ap (λ (l : List Token). deep l) e
from-stop (deep rest) f fault.Mem h = tt

pub stops-with : {A B : Type 0} (r : Read A) (f : A → List Token → Read B) (e : Fault) → Stops r e → Stops (next r f) e
stops-with r f (fault.Syntax rest) h = ap (λ r. next r f) h
stops-with r f (fault.TooDeep rest) h = ap (λ r. next r f) h
stops-with r f fault.Mem h = tt

stopped-turn : {A B : Type 0} (begins : TokenKind → Bool) (read : List Token → Read A) (use_all : List A → List Token → Read B) (turns : ℕ) (t : Token) (rest : List Token) (whole : Read B) (e : Fault)
    → length (t ∷ rest) ≤ turns → next (many begins read turns (t ∷ rest)) use_all ≡ whole → begins t.kind ≡ true → Stops (read (t ∷ rest)) e → Stops whole e
stopped-turn begins read use_all zero t rest whole e enough same begun found = absurd (omega arith)
stopped-turn begins read use_all (suc turns) t rest whole e enough same begun found =
    subst (λ (r : Read _). Stops r e) (sym (turn begins read use_all turns t rest begun) ∙ same) (stops-with (read (t ∷ rest)) _ e found)

-- after a turn that stopped
pub stops-there : {A B : Type 0} (begins : TokenKind → Bool) (read : List Token → Read A) (use_all : List A → List Token → Read B) (left : List Token) (whole : Read B) (t : Token) (rest : List Token) (e : Fault)
    → GoesOn begins read use_all left whole → left ≡ t ∷ rest → begins t.kind ≡ true → Stops (read (t ∷ rest)) e → Stops whole e
stops-there begins read use_all left whole t rest e h is begun found =
    let moved : GoesOn begins read use_all (t ∷ rest) whole = subst (λ (l : List Token). GoesOn begins read use_all l whole) is h in
    stopped-turn begins read use_all moved.turns t rest whole e moved.enough moved.same begun found

-- where nothing more begins
pub ends-there : {A B : Type 0} (begins : TokenKind → Bool) (read : List Token → Read A) (use_all : List A → List Token → Read B) (left : List Token) (whole : Read B)
    → GoesOn begins read use_all left whole → begins_with begins left ≡ false → whole ≡ use_all [] left
ends-there begins read use_all left whole h none = sym h.same ∙ end-of begins read use_all h.turns left none

-- The loop that gathers what it reads at the end of a list.
abbrev pub Gathers : {A B : Type 0} → (TokenKind → Bool) → (List Token → Read A) → (List A → List Token → Read B) → List A → List Token → Read B → Type 0
Gathers begins read use_all done left whole = GoesOn begins read (λ others behind. use_all (done ++ others) behind) left whole

pub gathers-on : {A B : Type 0} (begins : TokenKind → Bool) (read : List Token → Read A) (use_all : List A → List Token → Read B) (done grown : List A) (left : List Token) (whole : Read B) (t : Token) (rest after : List Token)
    → Gathers begins read use_all done left whole → left ≡ t ∷ rest → begins t.kind ≡ true → next (read (t ∷ rest)) (λ a behind. taken (done ++ a ∷ []) behind) ≡ taken grown after → length after ≤ length rest
    → Gathers begins read use_all grown after whole
gathers-on begins read use_all done grown left whole t rest after h is begun found shorter =
    let inner = from-taken (read (t ∷ rest)) (λ a. done ++ a ∷ []) grown after found in
    subst (λ (d : List _). Gathers begins read use_all d after whole) inner.2
    (used-as begins read (λ others behind. use_all (done ++ inner.0 ∷ others) behind) (λ others behind. use_all ((done ++ inner.0 ∷ []) ++ others) behind) after whole
    (λ others behind. ap (λ all. use_all all behind) (append_assoc done (inner.0 ∷ []) others))
    (goes-on begins read (λ others behind. use_all (done ++ others) behind) left whole t rest inner.0 after h is begun inner.1 shorter))

pub gathered : {A B : Type 0} (begins : TokenKind → Bool) (read : List Token → Read A) (use_all : List A → List Token → Read B) (done : List A) (left : List Token) (whole : Read B)
    → Gathers begins read use_all done left whole → begins_with begins left ≡ false → whole ≡ use_all done left
gathered begins read use_all done left whole h none =
    ends-there begins read (λ others behind. use_all (done ++ others) behind) left whole h none ∙ ap (λ all. use_all all left) (append-nil done)
