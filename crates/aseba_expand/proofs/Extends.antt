-- What is known behind a declaration without a fault: its name is new, and is the declared variable from then on.
use Rattle.std.proofs.Common.{◌≡◌, refl, sym, ◌∙◌, ap, Bool, true, false, ◌||◌, if◌then◌else◌, List, [], ◌∷◌, ◌++◌, Option, Some, None, is_some}
use Rattle.std.specs.Prelude.{cond, bytes_eq, find}
use Rattle.std.proofs.lemmas.Slice.Eq.{bytes_eq-Decides}
use Rattle.aseba_tree.specs.Code.{Name, Decl}
use Rattle.aseba_tree.specs.Sizes.{Known, Scope, variable_of, constant_of}
use Rattle.aseba_tree.specs.Faults.{fault_if, is_known, declaring, decl_faults, given_size, value_faults, duplicate}
use Rattle.aseba_tree.proofs.SizeLaws.{nil_left, no_fault}

find-more : (xs : List Known) (v : Known) (name : Name) → find (λ v. bytes_eq v.name name) (xs ++ v ∷ []) ≡ (if is_some (find (λ v. bytes_eq v.name name) xs) then find (λ v. bytes_eq v.name name) xs else cond (bytes_eq v.name name) (Some v) None)
find-more [] v name = refl
find-more (x ∷ xs) v name = pick (bytes_eq x.name name) (find-more xs v name)
  where
    pick : (b : Bool) → find (λ v. bytes_eq v.name name) (xs ++ v ∷ []) ≡ (if is_some (find (λ v. bytes_eq v.name name) xs) then find (λ v. bytes_eq v.name name) xs else cond (bytes_eq v.name name) (Some v) None)
        → cond b (Some x) (find (λ v. bytes_eq v.name name) (xs ++ v ∷ [])) ≡ (let o = cond b (Some x) (find (λ v. bytes_eq v.name name) xs) in if is_some o then o else cond (bytes_eq v.name name) (Some v) None)
    pick true e = refl
    pick false e = e

-- the variable that was declared
pub declared-known : (scope : Scope) (d : Decl) → is_known scope d.name ≡ false → variable_of (declaring scope d) d.name ≡ Some (record { name = d.name; size = given_size scope d.size })
declared-known scope d new = find-more scope.variables (record { name = d.name; size = given_size scope d.size }) d.name ∙ by (variable_of scope d.name) refl (bytes_eq d.name d.name) ((bytes_eq-Decides d.name d.name).1 refl)
  where
    by : (o : Option Known) → variable_of scope d.name ≡ o → (b : Bool) → b ≡ true
        → (if is_some o then o else cond b (Some (record { name = d.name; size = given_size scope d.size })) None) ≡ Some (record { name = d.name; size = given_size scope d.size })
    by (Some v) e b t = let wrong : is_known scope d.name ≡ true = ap (λ o. is_some o || is_some (constant_of scope d.name)) e in let bad : true ≡ false = sym wrong ∙ new in cc
    by None e true t = refl
    by None e false t = cc

pub new-name : (scope : Scope) (d : Decl) → decl_faults scope d ≡ [] → is_known scope d.name ≡ false
new-name scope d e = no_fault (is_known scope d.name) d.place duplicate (nil_left (fault_if (is_known scope d.name) d.place duplicate) _ (nil_left _ (value_faults scope d.equals (given_size scope d.size) d.value) e))
