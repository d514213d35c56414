-- Natives by their names and by their places: where a project has a name twice, the first counts.
use Rattle.std.proofs.Common.{◌≡◌, ℕ, Bool, true, false, if◌then◌else◌, List, [], map, Option, Some, None, unwrap_or, refl, sym, ap, ◌∙◌, slice_get, ℤ, nat_eq, eqb-true}
use Rattle.std.specs.Prelude.{option_map}
use Rattle.aseba_words.specs.Natives.{native_params}
use Rattle.aseba_tree.specs.Code.{Native, Project}
use Rattle.aseba_tree.specs.CoreShape.{sizes_of_native}
use Rattle.aseba_tree.specs.NativeName.{native_named}
use Rattle.aseba_tree.specs.Step.{IsKnown, native_place}

if-some : {A : Type 0} (b : Bool) (o : Option A) (x : A) → (if b then o else None) ≡ Some x → (b ≡ true) × (o ≡ Some x)
if-some true o x h = (refl, h)
if-some false o x h = cc

-- a native with sizes is the first of its name, and the project has it
pub record Sizes (project : Project) (id : ℕ) (params : List ℤ) : Type 0 where
  pub first : native_place project (native_named project id) ≡ id
  pub found : option_map (λ (native : Native). map (λ p. p.size) native.params) (slice_get project.node.natives id) ≡ Some params

pub sizes-of : (project : Project) (id : ℕ) (params : List ℤ) → sizes_of_native project id ≡ Some params → Sizes project id params
sizes-of project id params has =
    let both = if-some (nat_eq (native_place project (native_named project id)) id) (option_map (λ (native : Native). map (λ p. p.size) native.params) (slice_get project.node.natives id)) params has in
    record { first = eqb-true (native_place project (native_named project id)) id both.0; found = both.1 }

-- a native whose name is known has the row of its place
pub row-known : (project : Project) (id : ℕ) (params : List ℤ) → sizes_of_native project id ≡ Some params → IsKnown project (native_named project id) → native_params id ≡ sizes_of_native project id
row-known project id params has known =
    let sizes : Sizes project id params = sizes-of project id params has in
    let first : native_place project (native_named project id) ≡ id = sizes.first in
    ap native_params (sym first) ∙ known
    ∙ ap (λ n. Some (unwrap_or (option_map (λ (native : Native). map (λ p. p.size) native.params) (slice_get project.node.natives n)) [])) first
    ∙ ap (λ (o : Option (List ℤ)). Some (unwrap_or o [])) sizes.found ∙ sym has

-- and one that has the row of its place is known by its name
pub named-known : (project : Project) (id : ℕ) (params : List ℤ) → sizes_of_native project id ≡ Some params → native_params id ≡ Some params → IsKnown project (native_named project id)
named-known project id params has row =
    let sizes : Sizes project id params = sizes-of project id params has in
    let first : native_place project (native_named project id) ≡ id = sizes.first in
    ap native_params first ∙ row ∙ sym (ap (λ (o : Option (List ℤ)). Some (unwrap_or o [])) sizes.found)
    ∙ sym (ap (λ n. Some (unwrap_or (option_map (λ (native : Native). map (λ p. p.size) native.params) (slice_get project.node.natives n)) [])) first)
