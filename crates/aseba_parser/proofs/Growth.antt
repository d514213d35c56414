-- A turn of the loop over the operators of a level.
use Rattle.std.proofs.Common.{◌≡◌, ◌∙◌, ℕ, ◌≤◌, false, List, ◌∷◌, length, Some, sym, ap, subst}
use Rattle.aseba_tree.specs.declared.token.Token.{Token}
use Rattle.aseba_words.specs.declared.operators.Binary.{Binary}
use Rattle.aseba_tree.specs.Code.{Expr, expr, two}
use Rattle.aseba_tree.specs.Spells.{place, first_of}
use Rattle.aseba_parser.specs.declared.fault.Fault.{Fault}
use Rattle.aseba_parser.specs.Reading.{Read, taken, next, infix_at, goes_on, operation, operation_by, Operation, grouped, is_there}
use Rattle.aseba_parser.specs.Reads.{Stops, begins_with}
use Rattle.aseba_parser.proofs.Loops.{GoesOn, goes-on, stops-there, ends-there, from-taken, from-stop, stops-with}

-- the loop with a tree to the left of what is left
abbrev pub Grows : ℕ → (List Token → Read Expr) → Expr → List Token → Read Expr → Type 0
Grows level tighter l left whole = GoesOn (goes_on level) (operation level tighter) (λ others behind. taken (grouped l others) behind) left whole

-- the tree with an operator's right side
abbrev pub with-right : Expr → Token → Binary → Expr → Expr
with-right l t op r = expr (first_of l) (place t) (two op l r)

operation-is : (level : ℕ) (tighter : List Token → Read Expr) (t : Token) (rest : List Token) (op : Binary) → infix_at level t.kind ≡ Some op
    → operation level tighter (t ∷ rest) ≡ next (tighter rest) (λ r behind. taken (record { token = t; op = op; right = r }) behind)
operation-is level tighter t rest op is = ap (λ o. operation_by tighter t rest o) is

pub grows-on : (level : ℕ) (tighter : List Token → Read Expr) (l grown : Expr) (left : List Token) (whole : Read Expr) (t : Token) (rest after : List Token) (op : Binary)
    → Grows level tighter l left whole → left ≡ t ∷ rest → infix_at level t.kind ≡ Some op → next (tighter rest) (λ r behind. taken (with-right l t op r) behind) ≡ taken grown after → length after ≤ length rest
    → Grows level tighter grown after whole
grows-on level tighter l grown left whole t rest after op h is begun found shorter =
    let inner = from-taken (tighter rest) (with-right l t op) grown after found in
    let read : operation level tighter (t ∷ rest) ≡ taken (record { token = t; op = op; right = inner.0 }) after =
    operation-is level tighter t rest op begun ∙ ap (λ r. next r (λ r behind. taken (record { token = t; op = op; right = r }) behind)) inner.1 in
    subst (λ (e : Expr). Grows level tighter e after whole) inner.2
    (goes-on (goes_on level) (operation level tighter) (λ others behind. taken (grouped l others) behind) left whole t rest (record { token = t; op = op; right = inner.0 }) after h is (ap (λ o. is_there o) begun) read shorter)

pub growth-stops : (level : ℕ) (tighter : List Token → Read Expr) (l : Expr) (left : List Token) (whole : Read Expr) (t : Token) (rest : List Token) (op : Binary) (e : Fault)
    → Grows level tighter l left whole → left ≡ t ∷ rest → infix_at level t.kind ≡ Some op → Stops (next (tighter rest) (λ r behind. taken (with-right l t op r) behind)) e → Stops whole e
growth-stops level tighter l left whole t rest op e h is begun found =
    let inner = from-stop (tighter rest) (with-right l t op) e found in
    let stops : Stops (operation level tighter (t ∷ rest)) e = subst (λ (r : Read Operation). Stops r e) (sym (operation-is level tighter t rest op begun)) (stops-with (tighter rest) _ e inner) in
    stops-there (goes_on level) (operation level tighter) (λ others behind. taken (grouped l others) behind) left whole t rest e h is (ap (λ o. is_there o) begun) stops

pub growth-ends : (level : ℕ) (tighter : List Token → Read Expr) (l : Expr) (left : List Token) (whole : Read Expr) → Grows level tighter l left whole → begins_with (goes_on level) left ≡ false → whole ≡ taken l left
growth-ends level tighter l left whole h none = ends-there (goes_on level) (operation level tighter) (λ others behind. taken (grouped l others) behind) left whole h none
