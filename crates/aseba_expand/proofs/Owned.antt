-- The cells of arguments that have cells of their own.
use Rattle.std.proofs.Common.{◌≡◌, sym, ◌∙◌, ap, subst, ℕ, ◌+◌, ◌-◌, Option, Some, None, length, map}
use Rattle.std.specs.Prelude.{is_some, option_map}
use Rattle.std.specs.List.{range_with_len}
use Rattle.std.proofs.lemmas.List.{length-map}
use Rattle.std.proofs.lemmas.List.FromFn.{length-range_with_len}
use Rattle.aseba_tree.specs.Code as tree
use Rattle.aseba_tree.specs.State.{Program}
use Rattle.aseba_tree.specs.CoreExpr.{cell}
use Rattle.aseba_tree.specs.Value.{from_to, constant_named}
use Rattle.aseba_tree.specs.Elements.{variable_place, named_elements, range_elements}
use Rattle.aseba_expand.specs.Arguments.{IsOwnPlace}
use Rattle.aseba_expand.specs.Plain.{start_in}
use Rattle.aseba_expand.specs.Scope.{pair_of}
use Rattle.aseba_expand.specs.declared.scope.Place.{Place}

whole-long : (start size : ℕ) → size ≡ length (map cell (range_with_len start size))
whole-long start size = sym (length-map (range_with_len start size) cell ∙ length-range_with_len start size)

-- a whole variable has its own cells, and a constant none
pub own-whole : (program : Program) (first place : tree.Place) (name : tree.Name) (r : Option Place) → option_map pair_of r ≡ variable_place program name
    → IsOwnPlace program (tree.expr first place (tree.whole name)) r
own-whole program first place name None e = ap is_some (sym e)
own-whole program first place name (Some p) e =
    (ap is_some (sym e), ap start_in e, subst (λ (o : Option (ℕ × ℕ)). p.size ≡ length (named_elements o (constant_named program.project.consts name))) e (whole-long p.start p.size))

-- as many cells as a range has
pub range-long : (o : Option (ℕ × ℕ)) (v : ℕ × ℕ) (first last : ℕ) → Some v ≡ o → last + 1 - first ≡ length (range_elements o first last)
range-long o v first last e =
    subst (λ (p : Option (ℕ × ℕ)). last + 1 - first ≡ length (range_elements p first last)) e
    (sym (length-map (from_to first last) (λ i. cell (v.0 + i)) ∙ length-range_with_len first (last + 1 - first)))
