-- The walk over declarations tells the least of their faults, and behind it names mean what is known there.
use Rattle.std.proofs.Common.{◌≡◌, refl, sym, ◌∙◌, ap, subst, ℕ, ◌≤◌, Bool, true, false, cond, if◌then◌else◌, ℤ, pos, negsuc, List, [], ◌∷◌, ◌++◌, Option, Some, None, arith}
use Rattle.std.proofs.lemmas.List.{append-nil}
use Rattle.std.proofs.lemmas.List.Folds.{find-append}
use Rattle.std.proofs.lemmas.Bool.{ltb-true}
use Rattle.std.specs.Prelude.{nat_lt, int_lt, ◌&&◌, ◌||◌, is_some, option_and_then, option_to_list, bytes_eq, flat_map}
use Rattle.std.specs.Option.{option_or}
use Rattle.std.specs.Cmp.Lexicographic.{same_text}
use Rattle.aseba_tree.specs.Code.{Name, Place, Expr, Decl}
use Rattle.aseba_tree.specs.Sizes.{Known, Scope, variable_of, constant_of, constant_value, size_of}
use Rattle.aseba_tree.specs.Faults as tree
use Rattle.aseba_tree.specs.Shape.{decl_exprs}
use Rattle.aseba_check.specs.declared.fault.Rule.TheVariants as code
use Rattle.aseba_check.specs.declared.fault.Fault.{Fault}
use Rattle.aseba_check.specs.declared.facts.Meaning.{Meaning}
use Rattle.aseba_check.specs.declared.facts.Meaning.TheVariants.{Variable}
use Rattle.aseba_tree.specs.Each.{EachOption, EachDecl}
use Rattle.aseba_check.specs.Fits.{Fits}
use Rattle.aseba_check.specs.Looked.{with_value}
use Rattle.aseba_check.specs.Told as told
use Rattle.aseba_check.specs.Told.{pos_of, facts_of}
use Rattle.aseba_check.specs.Declarations as walk
use Rattle.aseba_check.specs.Declarations.{Names}
use Rattle.aseba_check.proofs.Within.{IsUpTo}
use Rattle.aseba_check.proofs.ExprTies.{Tells, join, silent, if-tells, most, limit, differ-tells, meaning_of, Describes, tied, far}
use Rattle.aseba_check.proofs.StatementTies.{Usable, regroup, bound-told}
use Rattle.aseba_check.proofs.WalkTies.{total, under-append, usable-option}

-- One more variable

abbrev pub added : Scope → Name → Option ℕ → Scope
added scope n size = record scope { variables = scope.variables ++ record { name = n; size = size } ∷ [] }

variable-is : (v : Option Known) (c : Option ℤ) → walk.is_variable (meaning_of v c) ≡ is_some v
variable-is (Some v) c = refl
variable-is None (Some c) = refl
variable-is None None = refl

known-is : (v : Option Known) (c : Option ℤ) → is_some (meaning_of v c) ≡ (is_some v || is_some c)
known-is (Some v) c = refl
known-is None (Some c) = refl
known-is None None = refl

found : (scope : Scope) (n q : Name) (size : Option ℕ)
    → variable_of (added scope n size) q ≡ option_or (variable_of scope q) (cond (bytes_eq n q) (Some (record { name = n; size = size })) None)
found scope n q size = find-append (λ v. bytes_eq v.name q) scope.variables (record { name = n; size = size } ∷ [])

apart : (t : Bool) (names : Names) (n q : Name) (size : Option ℕ) → (cond t names (with_value names n (Variable size))) q ≡ cond t (names q) (cond (bytes_eq n q) (Some (Variable size)) (names q))
apart true names n q size = refl
apart false names n q size = refl

chosen : (n : Name) (size : Option ℕ) (vn vq : Option Known) (b : Bool) (c : Option ℤ) → (b ≡ true → vn ≡ vq)
    → cond (is_some vn) (meaning_of vq c) (cond b (Some (Variable size)) (meaning_of vq c)) ≡ meaning_of (option_or vq (cond b (Some (record { name = n; size = size })) None)) c
chosen n size (Some k) (Some l) b c h = refl
chosen n size (Some k) None true c h = let e = h refl in cc
chosen n size (Some k) None false c h = refl
chosen n size None (Some l) true c h = let e = h refl in cc
chosen n size None (Some l) false c h = refl
chosen n size None None true c h = refl
chosen n size None None false c h = refl

declared-means : (names : Names) (scope : Scope) → Describes names scope → (n : Name) (size : Option ℕ) (q : Name)
    → walk.declared names n size q ≡ meaning_of (variable_of (added scope n size) q) (constant_of scope q)
declared-means names scope w n size q =
    let is = ap walk.is_variable (w.means n) ∙ variable-is (variable_of scope n) (constant_of scope n) in
    let same : bytes_eq n q ≡ true → variable_of scope n ≡ variable_of scope q = λ e. ap (variable_of scope) (same_text n q (sym e)) in
    apart (walk.is_variable (names n)) names n q size
    ∙ (ap (λ (t : Bool). cond t (names q) (cond (bytes_eq n q) (Some (Variable size)) (names q))) is
    ∙ (ap (λ (m : Option Meaning). cond (is_some (variable_of scope n)) m (cond (bytes_eq n q) (Some (Variable size)) m)) (w.means q)
    ∙ (chosen n size (variable_of scope n) (variable_of scope q) (bytes_eq n q) (constant_of scope q) same
    ∙ ap (λ (v : Option Known). meaning_of v (constant_of scope q)) (sym (found scope n q size)))))

either-within : (n : Name) (size : Option ℕ) (v : Option Known) (b : Bool) → IsUpTo (option_and_then (λ k. k.size) v) 65536 → IsUpTo size 65536
    → IsUpTo (option_and_then (λ k. k.size) (option_or v (cond b (Some (record { name = n; size = size })) None))) 65536
either-within n size (Some k) b h s = h
either-within n size None true h s = s
either-within n size None false h s = tt

pub declared-describes : (names : Names) (scope : Scope) → Describes names scope → (n : Name) (size : Option ℕ) → IsUpTo size 65536 → Describes (walk.declared names n size) (added scope n size)
declared-describes names scope w n size s = record {
  means = declared-means names scope w n size;
  bounded = record {
    numbers = w.bounded.numbers;
    sizes = λ q. subst (λ (v : Option Known). IsUpTo (option_and_then (λ k. k.size) v) 65536) (sym (found scope n q size)) (either-within n size (variable_of scope q) (bytes_eq n q) (w.bounded.sizes q) s);
  };
}

-- Sizes

chosen-within : (a b : Bool) (n : ℕ) → (b ≡ true → n ≤ 4096) → IsUpTo (if a && b then Some n else None) 65536
chosen-within true true n h = let k = h refl in omega arith
chosen-within true false n h = tt
chosen-within false b n h = tt

range-within : (v : Option ℤ) → IsUpTo (tree.size_in_range v) 65536
range-within None = tt
range-within (Some (pos n)) = chosen-within (nat_lt 0 n) (nat_lt n 4097) n (λ e. let k = ltb-true n 4097 e in omega arith)
range-within (Some (negsuc n)) = tt

chosen-small : (a b : Bool) (n : ℕ) → (b ≡ true → n ≤ 4096) → IsUpTo (if a && b then Some n else None) 4096
chosen-small true true n h = h refl
chosen-small true false n h = tt
chosen-small false b n h = tt

range-small : (v : Option ℤ) → IsUpTo (tree.size_in_range v) 4096
range-small None = tt
range-small (Some (pos n)) = chosen-small (nat_lt 0 n) (nat_lt n 4097) n (λ e. let k = ltb-true n 4097 e in omega arith)
range-small (Some (negsuc n)) = tt

-- no declaration gives a greater size
pub given-small : (scope : Scope) (size : Option Expr) → IsUpTo (tree.given_size scope size) 4096
given-small scope None = omega arith
given-small scope (Some e) = range-small (constant_value scope e)

given-within : (scope : Scope) (size : Option Expr) → IsUpTo (tree.given_size scope size) 65536
given-within scope None = omega arith
given-within scope (Some e) = range-within (constant_value scope e)

pub given-is : (names : Names) (scope : Scope) → Describes names scope → (size : Option Expr) → EachOption Usable size → walk.given_size (walk.size_facts names size) ≡ tree.given_size scope size
given-is names scope w None u = refl
given-is names scope w (Some e) u = let t = tied names scope w e u.0 u.1 in ap tree.size_in_range t.value

out-tells : (place : Place) (v : Option ℤ) → Tells (walk.size_out_of_range (pos_of place) v) (tree.size_out_of_range place v)
out-tells place None = silent
out-tells place (Some v) = join (if-tells (int_lt v (pos 1)) place (code.BadSize (pos 1) v)) (if-tells (int_lt (pos 4096) v) place (code.BadSize (pos 4096) v))

size-tells : (names : Names) (scope : Scope) → Describes names scope → (place : Place) (size : Option Expr) → EachOption Usable size → Tells (walk.size_told (pos_of place) (walk.size_facts names size)) (tree.size_faults scope place size)
size-tells names scope w place None u = silent
size-tells names scope w place (Some e) u =
    let t = tied names scope w e u.0 u.1 in
    let last : Tells (walk.size_out_of_range (pos_of place) (facts_of names e).value) (tree.size_out_of_range place (constant_value scope e)) = rw t.value (out-tells place (constant_value scope e)) in
    join (bound-told t) last

value-tells : (names : Names) (scope : Scope) → Describes names scope → (place : Place) (size : Option ℕ) (value : Option Expr) → IsUpTo size most → EachOption Usable value
    → Tells (walk.value_told names (pos_of place) size value) (tree.value_faults scope place size value)
value-tells names scope w place size None s u = silent
value-tells names scope w place size (Some e) s u =
    let t = tied names scope w e u.0 u.1 in
    let got : IsUpTo (size_of scope e) most = subst (λ (o : Option ℕ). IsUpTo o most) t.size t.within in
    let last : Tells (told.bad_size (pos_of place) size (facts_of names e).size) (tree.sizes_differ tree.bad_size place size (size_of scope e)) = rw t.size (differ-tells place size (size_of scope e) s got) in
    join t.fault last

-- One declaration

known-tells : (names : Names) (scope : Scope) → Describes names scope → (place : Place) (name : Name)
    → Tells (told.fault_if (is_some (names name)) (pos_of place) code.Duplicate) (tree.fault_if (tree.is_known scope name) place tree.duplicate)
known-tells names scope w place name =
    subst (λ (b : Bool). Tells (told.fault_if b (pos_of place) code.Duplicate) (tree.fault_if (tree.is_known scope name) place tree.duplicate))
    (sym (ap is_some (w.means name) ∙ known-is (variable_of scope name) (constant_of scope name))) (if-tells (tree.is_known scope name) place code.Duplicate)

decl-tells : (names : Names) (scope : Scope) → Describes names scope → (d : Decl) → EachOption Usable d.size → EachOption Usable d.value → Tells (walk.decl_told names d) (tree.decl_faults scope d)
decl-tells names scope w d u v =
    let last : Tells (walk.value_told names (pos_of d.equals) (walk.given_size (walk.size_facts names d.size)) d.value) (tree.value_faults scope d.equals (tree.given_size scope d.size) d.value) =
    rw (given-is names scope w d.size u) (value-tells names scope w d.equals (tree.given_size scope d.size) d.value (far (tree.given_size scope d.size) (given-within scope d.size)) v) in
    join (join (known-tells names scope w d.place d.name) (size-tells names scope w d.place d.size u)) last

pub declaring-describes : (names : Names) (scope : Scope) → Describes names scope → (d : Decl) → EachOption Usable d.size → Describes (walk.declaring names d) (tree.declaring scope d)
declaring-describes names scope w d u =
    subst (λ (o : Option ℕ). Describes (walk.declared names d.name o) (tree.declaring scope d)) (sym (given-is names scope w d.size u))
    (declared-describes names scope w d.name (tree.given_size scope d.size) (given-within scope d.size))

-- All declarations

pub all-describe : (names : Names) (scope : Scope) → Describes names scope → (ds : List Decl) → EachDecl Fits ds → total (flat_map decl_exprs ds) ≤ limit → Describes (walk.all_declaring names ds) (tree.all_declaring scope ds)
all-describe names scope w [] h s = w
all-describe names scope w (d ∷ ds) h s =
    let u = under-append (decl_exprs d) (flat_map decl_exprs ds) s in
    let v = under-append (option_to_list d.size) (option_to_list d.value) u.0 in
    all-describe (walk.declaring names d) (tree.declaring scope d) (declaring-describes names scope w d (usable-option d.size h.0 v.0)) ds h.2 u.1

pub decls-tell : (names : Names) (scope : Scope) → Describes names scope → (before : Option Fault) (xs : List tree.Fault) (ds : List Decl) → EachDecl Fits ds → total (flat_map decl_exprs ds) ≤ limit → Tells before xs
    → Tells (walk.decls_told names before ds) (xs ++ tree.decls_faults scope ds)
decls-tell names scope w before xs [] h s t = subst (λ (fs : List tree.Fault). Tells before fs) (sym (append-nil xs)) t
decls-tell names scope w before xs (d ∷ ds) h s t =
    let u = under-append (decl_exprs d) (flat_map decl_exprs ds) s in
    let v = under-append (option_to_list d.size) (option_to_list d.value) u.0 in
    let size = usable-option d.size h.0 v.0 in
    let value = usable-option d.value h.1 v.1 in
    regroup xs (tree.decl_faults scope d) (tree.decls_faults (tree.declaring scope d) ds)
    (decls-tell (walk.declaring names d) (tree.declaring scope d) (declaring-describes names scope w d size) (walk.with_decl names before d) (xs ++ tree.decl_faults scope d) ds h.2 u.1 (join t (decl-tells names scope w d size value)))
