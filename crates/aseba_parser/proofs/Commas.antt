-- A turn of the loop over expressions with a comma between each two.
use Rattle.std.proofs.Common.{◌≡◌, ◌∙◌, ℕ, ◌≤◌, Bool, true, false, List, [], ◌∷◌, ◌++◌, length, refl, sym, ap, subst}
use Rattle.aseba_tree.specs.declared.token.Token.{Token}
use Rattle.aseba_tree.specs.declared.token.Sign.{Sign}
use Rattle.aseba_tree.specs.Code.{Expr, Exprs}
use Rattle.aseba_tree.specs.View.{exprs_of}
use Rattle.aseba_tree.specs.Spells.{any_level}
use Rattle.aseba_parser.specs.declared.fault.Fault.{Fault}
use Rattle.aseba_parser.specs.Reading.{Read, taken, wrong, next, all_of, is_sign, expected, list_read}
use Rattle.aseba_parser.specs.Reads.{Stops, begins_with}
use Rattle.aseba_parser.proofs.Loops.{Gathers, at-start, gathers-on, gathered, stops-there, stops-with, from-taken, from-stop}

-- an expression behind a comma
abbrev pub another : (ℕ → List Token → Read Expr) → List Token → Read Expr
another read more = next (expected (is_sign Sign.Comma) more) (λ comma rest. read any_level rest)

-- the loop with the expressions that were read
abbrev pub Lists : (ℕ → List Token → Read Expr) → List Expr → List Token → Read Exprs → Type 0
Lists read done left whole = Gathers (is_sign Sign.Comma) (another read) (λ all behind. taken (exprs_of all) behind) done left whole

another-is : (read : ℕ → List Token → Read Expr) (t : Token) (rest : List Token) → is_sign Sign.Comma t.kind ≡ true → another read (t ∷ rest) ≡ read any_level rest
another-is read t rest comma =
    subst (λ (b : Bool). next (elim b [ true ↦ taken t rest | false ↦ wrong (t ∷ rest) ]) (λ comma rest. read any_level rest) ≡ read any_level rest) (sym comma) refl

first-by : (read : ℕ → List Token → Read Expr) (grown : List Expr) (tokens rest : List Token) → next (read any_level tokens) (λ a behind. taken ([] ++ a ∷ []) behind) ≡ taken grown rest
    → Lists read grown rest (list_read read tokens)
first-by read grown tokens rest found =
    let inner = from-taken (read any_level tokens) (λ a. [] ++ a ∷ []) grown rest found in
    let start = at-start (is_sign Sign.Comma) (another read) (λ others behind. taken (exprs_of (inner.0 ∷ others)) behind) rest in
    subst (λ (d : List Expr). Lists read d rest (list_read read tokens)) inner.2
    (subst (λ (r : Read Expr). Lists read (inner.0 ∷ []) rest (next r (λ e after. next (all_of (is_sign Sign.Comma) (another read) after) (λ others behind. taken (exprs_of (e ∷ others)) behind)))) (sym inner.1) start)

pub first-listed : (read : ℕ → List Token → Read Expr) (before grown : List Expr) (tokens rest : List Token) → before ≡ [] → next (read any_level tokens) (λ a behind. taken (before ++ a ∷ []) behind) ≡ taken grown rest
    → Lists read grown rest (list_read read tokens)
first-listed read before grown tokens rest none found =
    first-by read grown tokens rest (subst (λ (d : List Expr). next (read any_level tokens) (λ a behind. taken (d ++ a ∷ []) behind) ≡ taken grown rest) none found)

pub first-stops : (read : ℕ → List Token → Read Expr) (before : List Expr) (tokens : List Token) (e : Fault) → Stops (next (read any_level tokens) (λ a behind. taken (before ++ a ∷ []) behind)) e
    → Stops (list_read read tokens) e
first-stops read before tokens e found = stops-with (read any_level tokens) _ e (from-stop (read any_level tokens) (λ a. before ++ a ∷ []) e found)

pub lists-on : (read : ℕ → List Token → Read Expr) (done grown : List Expr) (left : List Token) (whole : Read Exprs) (t : Token) (rest after : List Token)
    → Lists read done left whole → left ≡ t ∷ rest → is_sign Sign.Comma t.kind ≡ true → next (read any_level rest) (λ a behind. taken (done ++ a ∷ []) behind) ≡ taken grown after → length after ≤ length rest
    → Lists read grown after whole
lists-on read done grown left whole t rest after h is comma found shorter =
    gathers-on (is_sign Sign.Comma) (another read) (λ all behind. taken (exprs_of all) behind) done grown left whole t rest after h is comma
    (ap (λ (r : Read Expr). next r (λ a behind. taken (done ++ a ∷ []) behind)) (another-is read t rest comma) ∙ found) shorter

pub listing-stops : (read : ℕ → List Token → Read Expr) (done : List Expr) (left : List Token) (whole : Read Exprs) (t : Token) (rest : List Token) (e : Fault)
    → Lists read done left whole → left ≡ t ∷ rest → is_sign Sign.Comma t.kind ≡ true → Stops (next (read any_level rest) (λ a behind. taken (done ++ a ∷ []) behind)) e → Stops whole e
listing-stops read done left whole t rest e h is comma found =
    stops-there (is_sign Sign.Comma) (another read) (λ others behind. taken (exprs_of (done ++ others)) behind) left whole t rest e h is comma
    (subst (λ (r : Read Expr). Stops r e) (sym (another-is read t rest comma)) (from-stop (read any_level rest) (λ a. done ++ a ∷ []) e found))

pub listed : (read : ℕ → List Token → Read Expr) (done : List Expr) (left : List Token) (whole : Read Exprs) → Lists read done left whole → begins_with (is_sign Sign.Comma) left ≡ false
    → whole ≡ taken (exprs_of done) left
listed read done left whole h none = gathered (is_sign Sign.Comma) (another read) (λ all behind. taken (exprs_of all) behind) done left whole h none
