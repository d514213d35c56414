-- A loop that gathers as many things as begin one behind the other.
use Rattle.std.proofs.Common.{◌≡◌, ◌<◌, Bool, true, List, [], ◌∷◌, ◌++◌, length, refl, sym, subst, arith}
use Rattle.aseba_tree.specs.declared.token.Token.{Token}
use Rattle.aseba_tree.specs.declared.token.TokenKind.{TokenKind}
use Rattle.aseba_parser.specs.declared.fault.Fault.{Fault}
use Rattle.aseba_parser.specs.Reading.{Read, taken, wrong, deep, next, all_of}
use Rattle.aseba_parser.specs.Reads.{Stops, begins_with}
use Rattle.aseba_parser.proofs.Loops.{Gathers, at-start, gathers-on, stops-there, from-stop}

pub gathers-from : {A B : Type 0} (begins : TokenKind → Bool) (read : List Token → Read A) (use_all : List A → List Token → Read B) (before : List A) (tokens : List Token) → before ≡ []
    → Gathers begins read use_all before tokens (next (all_of begins read tokens) use_all)
gathers-from {A = A} begins read use_all before tokens none =
    subst (λ (d : List A). Gathers begins read use_all d tokens (next (all_of begins read tokens) use_all)) (sym none) (at-start begins read use_all tokens)

next-taken : {A : Type 0} (r : Read A) → next r (λ a behind. taken a behind) ≡ r
next-taken (taken a rest) = refl
next-taken (wrong rest) = refl
next-taken (deep rest) = refl

pub gathers-all : {A : Type 0} (begins : TokenKind → Bool) (read : List Token → Read A) (before : List A) (tokens : List Token) → before ≡ []
    → Gathers begins read (λ all behind. taken all behind) before tokens (all_of begins read tokens)
gathers-all {A = A} begins read before tokens none =
    subst (λ (r : Read (List A)). Gathers begins read (λ all behind. taken all behind) before tokens r) (next-taken (all_of begins read tokens)) (gathers-from begins read (λ all behind. taken all behind) before tokens none)

-- after a turn
pub gathers-more : {A B : Type 0} (begins : TokenKind → Bool) (read : List Token → Read A) (use_all : List A → List Token → Read B) (done grown : List A) (left : List Token) (whole : Read B) (after : List Token)
    → Gathers begins read use_all done left whole → begins_with begins left ≡ true → next (read left) (λ a behind. taken (done ++ a ∷ []) behind) ≡ taken grown after → length after < length left
    → Gathers begins read use_all grown after whole
gathers-more begins read use_all done grown [] whole after h begun found shorter = absurd (cc)
gathers-more begins read use_all done grown (t ∷ rest) whole after h begun found shorter =
    gathers-on begins read use_all done grown (t ∷ rest) whole t rest after h refl begun found (omega arith)

pub gathering-stops : {A B : Type 0} (begins : TokenKind → Bool) (read : List Token → Read A) (use_all : List A → List Token → Read B) (done : List A) (left : List Token) (whole : Read B) (e : Fault)
    → Gathers begins read use_all done left whole → begins_with begins left ≡ true → Stops (next (read left) (λ a behind. taken (done ++ a ∷ []) behind)) e → Stops whole e
gathering-stops begins read use_all done [] whole e h begun found = absurd (cc)
gathering-stops begins read use_all done (t ∷ rest) whole e h begun found =
    stops-there begins read (λ others behind. use_all (done ++ others) behind) (t ∷ rest) whole t rest e h refl begun (from-stop (read (t ∷ rest)) (λ a. done ++ a ∷ []) e found)
