-- One reading behind another.
use Rattle.std.proofs.Common.{◌≡◌, ◌∙◌, List, ap, sym, subst}
use Rattle.aseba_tree.specs.declared.token.Token.{Token}
use Rattle.aseba_parser.specs.declared.fault.Fault.{Fault}
use Rattle.aseba_parser.specs.Reading.{Read, taken, next}
use Rattle.aseba_parser.specs.Reads.{Stops}

pub and-then : {A B : Type 0} (r : Read A) (f : A → List Token → Read B) (a : A) (rest : List Token) (x : Read B) → r ≡ taken a rest → f a rest ≡ x → next r f ≡ x
and-then r f a rest x first others = ap (λ q. next q f) first ∙ others

pub and-stops : {A B : Type 0} (r : Read A) (f : A → List Token → Read B) (a : A) (rest : List Token) (e : Fault) → r ≡ taken a rest → Stops (f a rest) e → Stops (next r f) e
and-stops {A = A} r f a rest e first others = subst (λ (q : Read A). Stops (next q f) e) (sym first) others
