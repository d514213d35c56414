-- What the walk over statements tells is what the definitions say of them.
use Rattle.std.proofs.Common.{◌≡◌, refl, sym, ◌∙◌, ap, subst, ℕ, suc, ◌≤◌, Bool, true, false, cond, if◌then◌else◌, ℤ, pos, negsuc, List, [], ◌∷◌, ◌++◌, length, map, Option, Some, None, arith, append_assoc, eq-eqb}
use Rattle.std.proofs.lemmas.List.{append-nil}
use Rattle.std.specs.Prelude.{nat_eq, nat_lt, not, is_some, is_none, IfSome, option_map}
use Rattle.std.specs.Ordering.{int_eq, is_eq}
use Rattle.std.specs.declared.cmp.Ordering.TheVariants.{Less, Equal, Greater}
use Rattle.std.proofs.lemmas.Bool.{ltb-false, ltb-true, eqb-true}
use Rattle.aseba_tree.specs.declared.description.Param as code_param
use Rattle.aseba_tree.specs.Code.{Name, Place, Expr, Exprs, no_exprs, exprs, Part, all, at, span, Target, ForHead}
use Rattle.aseba_tree.specs.View.{native_view, param_view}
use Rattle.aseba_tree.specs.Sizes.{Scope, constant_value, size_of, range_size, variable_size, target_size}
use Rattle.aseba_tree.specs.Spells.{first_of}
use Rattle.aseba_tree.specs.Faults as tree
use Rattle.aseba_tree.specs.Shape.{expr_count}
use Rattle.aseba_check.specs.declared.fault.Rule.TheVariants as code
use Rattle.aseba_check.specs.declared.fault.Fault.{Fault}
use Rattle.aseba_check.specs.declared.facts.Facts.{Facts}
use Rattle.aseba_check.specs.declared.facts.Meaning.{Meaning}
use Rattle.aseba_tree.specs.Each.{EachItem, EachOption, EachPart, EachHead}
use Rattle.aseba_check.specs.Fits.{Fits}
use Rattle.aseba_check.specs.Told as told
use Rattle.aseba_check.specs.Told.{pos_of, facts_of}
use Rattle.aseba_check.specs.Statements as walk
use Rattle.aseba_check.specs.Statements.{Known}
use Rattle.aseba_check.proofs.Within.{IsUpTo, range-within, value-fits}
use Rattle.aseba_check.proofs.ExprTies.{Tells, join, silent, if-tells, most, limit, differ-tells, event-tells, signed-is, Describes, unknown-tells, size-means, Tied, cell-tells, constant-tells, bad-index-tells, bad-range-tells, far, tied}

-- an expression whose numbers are cells' and that is no longer than a source
abbrev pub Usable : Expr → Type 0
Usable e = Fits e × (expr_count e ≤ limit)

-- the same faults, grouped in another way
pub regroup : {a : Option Fault} (xs ys zs : List tree.Fault) → Tells a ((xs ++ ys) ++ zs) → Tells a (xs ++ (ys ++ zs))
regroup {a} xs ys zs t = subst (λ (fs : List tree.Fault). Tells a fs) (append_assoc xs ys zs) t

pub cell-told : (names : Name → Option Meaning) {scope : Scope} {e : Expr} → Tied scope e (facts_of names e) → Tells (walk.cell_told names e) (tree.cell_faults scope e)
cell-told names t = join t.fault (cell-tells t)

pub bound-told : {scope : Scope} {e : Expr} {f : Facts} → Tied scope e f → Tells (walk.bound_told f) (tree.bound_faults scope e)
bound-told t = join t.fault (constant-tells t)

-- Targets

pub record Aimed (scope : Scope) (target : Target) (f : Facts) : Type 0 where
  pub size : f.size ≡ target_size scope target
  pub fault : Tells f.fault (tree.target_faults scope target)
  pub within : IsUpTo f.size most

aimed-part : (names : Name → Option Meaning) (scope : Scope) → Describes names scope → (place : Place) (name : Name) (part : Part) → EachPart Usable part
    → Aimed scope (record { place = place; name = name; part = part }) (walk.part_facts names (pos_of place) (names name) part)
aimed-part names scope w place name all u = record {
  size = size-means w name;
  fault = subst (λ (fs : List tree.Fault). Tells (told.unknown_variable (pos_of place) (names name)) fs) (sym (append-nil (tree.unknown_variable scope place name))) (unknown-tells w place name);
  within = subst (λ (o : Option ℕ). IsUpTo o most) (sym (size-means w name)) (far (variable_size scope name) (w.bounded.sizes name));
}
aimed-part names scope w place name (at e) u =
    let t = tied names scope w e u.0 u.1 in
    record {
      size = refl;
      fault = regroup (tree.unknown_variable scope place name) (tree.expr_faults scope e) (tree.bad_index scope place name e) (join (join (unknown-tells w place name) t.fault) (bad-index-tells w place name t));
      within = omega arith;
    }
aimed-part names scope w place name (span c d) u =
    let t = tied names scope w c u.0.0 u.0.1 in
    let v = tied names scope w d u.1.0 u.1.1 in
    record {
      size = rw (t.value, v.value) refl;
      fault = regroup (tree.unknown_variable scope place name) (tree.expr_faults scope c ++ tree.expr_faults scope d) (tree.bad_range scope place name c d)
          (subst (λ (fs : List tree.Fault). Tells (walk.part_facts names (pos_of place) (names name) (span c d)).fault (fs ++ tree.bad_range scope place name c d))
          (append_assoc (tree.unknown_variable scope place name) (tree.expr_faults scope c) (tree.expr_faults scope d))
          (join (join (join (unknown-tells w place name) t.fault) v.fault) (bad-range-tells w place name t v)));
      within = subst (λ (o : Option ℕ). IsUpTo o most) (sym (rw (t.value, v.value) refl)) (far (range_size (constant_value scope c) (constant_value scope d)) (range-within (constant_value scope c) (constant_value scope d) (value-fits scope w.bounded c u.0.0) (value-fits scope w.bounded d u.1.0)));
    }

pub aimed : (names : Name → Option Meaning) (scope : Scope) → Describes names scope → (target : Target) → EachPart Usable target.part → Aimed scope target (walk.target_facts names target)
aimed names scope w target u = aimed-part names scope w target.place target.name target.part u

pub assigned-tells : {scope : Scope} {target : Target} {e : Expr} {f g : Facts} (place : Place) → Aimed scope target f → Tied scope e g → Tells (walk.assigned (pos_of place) f g) (tree.assignment_faults scope place target e)
assigned-tells {scope} {target} {e} {f} {g} place a t =
    let want : IsUpTo (target_size scope target) most = subst (λ (o : Option ℕ). IsUpTo o most) a.size a.within in
    let got : IsUpTo (size_of scope e) most = subst (λ (o : Option ℕ). IsUpTo o most) t.size t.within in
    let last : Tells (told.bad_size (pos_of place) f.size g.size) (tree.sizes_differ tree.bad_size place (target_size scope target) (size_of scope e)) =
    rw (a.size, t.size) (differ-tells place (target_size scope target) (size_of scope e) want got) in
    join (join a.fault t.fault) last

-- Loops

zero-tells : {scope : Scope} {e : Expr} {f : Facts} → Tied scope e f → Tells (told.fault_if (told.is_zero f.value) f.first code.ZeroStep) (tree.fault_if (tree.is_number (constant_value scope e) (pos 0)) (first_of e) tree.zero_step)
zero-tells {scope} {e} {f} t = rw (t.value, t.first) (if-tells (tree.is_number (constant_value scope e) (pos 0)) (first_of e) code.ZeroStep)

step-tells : (names : Name → Option Meaning) (scope : Scope) → Describes names scope → (step : Option Expr) → EachOption Usable step → Tells (walk.step_told names step) (tree.step_faults scope step)
step-tells names scope w None u = silent
step-tells names scope w (Some e) u = let t = tied names scope w e u.0 u.1 in join (bound-told t) (zero-tells t)

vector-tells : {names : Name → Option Meaning} {scope : Scope} → Describes names scope → (place : Place) (name : Name)
    → Tells (told.fault_if (tree.is_more_than_one (told.variable_size (names name))) (pos_of place) code.NotScalar) (tree.fault_if (tree.is_more_than_one (variable_size scope name)) place tree.not_scalar)
vector-tells {names} {scope} w place name = rw (size-means w name) (if-tells (tree.is_more_than_one (variable_size scope name)) place code.NotScalar)

pub head-tells : (names : Name → Option Meaning) (scope : Scope) → Describes names scope → (place : Place) (head : ForHead) → EachHead Usable head → Tells (walk.head_told names (pos_of place) head) (tree.head_faults scope place head)
head-tells names scope w place head u =
    join (join (join (join (unknown-tells w place head.name) (vector-tells w place head.name)) (bound-told (tied names scope w head.first u.0.0 u.0.1))) (bound-told (tied names scope w head.last u.1.0 u.1.1)))
    (step-tells names scope w head.step u.2)

-- What statements may name

-- what names mean to the walk is what they mean in the world
pub record DescribesWorld (known : Known) (world : tree.World) : Type 0 where
  pub names : Describes known.meaning world.scope
  pub event : (name : Name) → walk.global_size (known.event name) ≡ option_map (λ v. v.size) (tree.global_event world.project name)
  pub event_size : (name : Name) → IsUpTo (walk.global_size (known.event name)) most
  pub is_event : (name : Name) → is_some (known.event name) ≡ tree.is_event world.project name
  pub native : (name : Name) → option_map native_view (known.native name) ≡ tree.native_of world.project name
  pub params : (name : Name) → IfSome (known.native name) (λ n. length n.params ≤ limit)
  pub is_sub : (name : Name) → known.is_sub name ≡ tree.has_name world.subs name

-- Events

none-is : {A B : Type 0} (f : A → B) (o : Option A) → is_none (option_map f o) ≡ not (is_some o)
none-is f None = refl
none-is f (Some a) = refl

event-unknown : {known : Known} {world : tree.World} → DescribesWorld known world → (place : Place) (name : Name)
    → Tells (told.fault_if (is_none (walk.global_size (known.event name))) (pos_of place) code.Unknown) (tree.fault_if (not (is_some (tree.global_event world.project name))) place tree.unknown)
event-unknown {known} {world} w place name =
    rw (w.event name, none-is (λ v. v.size) (tree.global_event world.project name)) (if-tells (not (is_some (tree.global_event world.project name))) place code.Unknown)

emitted-tells : {known : Known} {world : tree.World} {e : Expr} {f : Facts} → DescribesWorld known world → (name : Name) → Tied world.scope e f
    → Tells (told.event_size f.first (walk.global_size (known.event name)) f.size) (tree.sizes_differ tree.event_size (first_of e) (option_map (λ v. v.size) (tree.global_event world.project name)) (size_of world.scope e))
emitted-tells {known} {world} {e} {f} w name t =
    let want : IsUpTo (option_map (λ v. v.size) (tree.global_event world.project name)) most = subst (λ (o : Option ℕ). IsUpTo o most) (w.event name) (w.event_size name) in
    let got : IsUpTo (size_of world.scope e) most = subst (λ (o : Option ℕ). IsUpTo o most) t.size t.within in
    rw (w.event name, t.first, t.size) (event-tells (first_of e) (option_map (λ v. v.size) (tree.global_event world.project name)) (size_of world.scope e) want got)

pub emit-tells : (known : Known) (world : tree.World) → DescribesWorld known world → (place : Place) (name : Name) (value : Option Expr) → EachOption Usable value → Tells (walk.emit_told known (pos_of place) name value) (tree.emit_faults world place name value)
emit-tells known world w place name None u =
    subst (λ (fs : List tree.Fault). Tells (walk.emit_told known (pos_of place) name None) fs) (sym (append-nil (tree.fault_if (not (is_some (tree.global_event world.project name))) place tree.unknown))) (event-unknown w place name)
emit-tells known world w place name (Some e) u =
    let t = tied known.meaning world.scope w.names e u.0 u.1 in
    regroup (tree.fault_if (not (is_some (tree.global_event world.project name))) place tree.unknown) (tree.expr_faults world.scope e)
    (tree.sizes_differ tree.event_size (first_of e) (option_map (λ v. v.size) (tree.global_event world.project name)) (size_of world.scope e))
    (join (join (event-unknown w place name) t.fault) (emitted-tells w name t))

-- Natives

-- each argument of a call has the facts that are so
abbrev pub AllTied : (names : Name → Option Meaning) (scope : Scope) → Exprs → Type 0
AllTied names scope no_exprs = Unit {0}
AllTied names scope (exprs e es) = Tied scope e (facts_of names e) × AllTied names scope es

pub all-tied : (names : Name → Option Meaning) (scope : Scope) → Describes names scope → (es : Exprs) → EachItem Usable es → AllTied names scope es
all-tied names scope w no_exprs u = tt
all-tied names scope w (exprs e es) u = (tied names scope w e u.0.0 u.0.1, all-tied names scope w es u.1)

pub inside-tells : (names : Name → Option Meaning) (scope : Scope) (before : Option Fault) (xs : List tree.Fault) (es : Exprs) → AllTied names scope es → Tells before xs
    → Tells (walk.inside_told before (walk.given names es)) (xs ++ tree.list_faults scope es)
inside-tells names scope before xs no_exprs a t = subst (λ (fs : List tree.Fault). Tells before fs) (sym (append-nil xs)) t
inside-tells names scope before xs (exprs e es) a t =
    regroup xs (tree.expr_faults scope e) (tree.list_faults scope es) (inside-tells names scope (told.least before (facts_of names e).fault) (xs ++ tree.expr_faults scope e) es a.1 (join t a.0.fault))

pub count-given : (names : Name → Option Meaning) (es : Exprs) → length (walk.given names es) ≡ tree.argument_count es
count-given names no_exprs = refl
count-given names (exprs e es) = ap suc (count-given names es) ∙ omega arith

cond-size : (b : Bool) {a c : Option ℕ} {d e : Option ℕ} → a ≡ c → d ≡ e → (if b then a else d) ≡ (if b then c else e)
cond-size true p q = p
cond-size false p q = q

template-is : (names : Name → Option Meaning) (scope : Scope) (ps : List code_param.Param) (es : Exprs) (template : ℤ) → AllTied names scope es
    → walk.template_size ps (walk.given names es) template ≡ tree.template_size scope (tree.with_params (map param_view ps) es) template
template-is names scope [] es template a = refl
template-is names scope (p ∷ ps) no_exprs template a = refl
template-is names scope (p ∷ ps) (exprs e es) template a = cond-size (int_eq p.size template) a.0.size (template-is names scope ps es template a.1)

cond-within : (b : Bool) (o p : Option ℕ) (m : ℕ) → IsUpTo o m → IsUpTo p m → IsUpTo (if b then o else p) m
cond-within true o p m h k = h
cond-within false o p m h k = k

template-within : (names : Name → Option Meaning) (scope : Scope) (ps : List code_param.Param) (es : Exprs) (template : ℤ) → AllTied names scope es → IsUpTo (walk.template_size ps (walk.given names es) template) most
template-within names scope [] es template a = tt
template-within names scope (p ∷ ps) no_exprs template a = tt
template-within names scope (p ∷ ps) (exprs e es) template a =
    cond-within (int_eq p.size template) (facts_of names e).size (walk.template_size ps (walk.given names es) template) most a.0.within (template-within names scope ps es template a.1)

signed-size : (o : Option ℕ) → IsUpTo o most → option_map told.signed o ≡ option_map pos o
signed-size None h = refl
signed-size (Some n) h = ap Some (signed-is n h)

wanted-is : (names : Name → Option Meaning) (scope : Scope) (ps : List code_param.Param) (es : Exprs) (size : ℤ) → AllTied names scope es
    → walk.wanted_length ps (walk.given names es) size ≡ option_map pos (tree.wanted_length scope (tree.with_params (map param_view ps) es) size)
wanted-is names scope ps es (pos n) a = refl
wanted-is names scope ps es (negsuc n) a =
    signed-size (walk.template_size ps (walk.given names es) (negsuc n)) (template-within names scope ps es (negsuc n) a) ∙ ap (λ o. option_map pos o) (template-is names scope ps es (negsuc n) a)

eq-cases : (a b : ℕ) (p q r : Bool) → nat_lt a b ≡ p → nat_lt b a ≡ q → nat_eq a b ≡ r → is_eq (cond p Less (cond q Greater Equal)) ≡ r
eq-cases a b true q false x y z = refl
eq-cases a b true q true x y z = absurd (let less = ltb-true a b x in let same = eqb-true a b z in omega arith)
eq-cases a b false true false x y z = refl
eq-cases a b false true true x y z = absurd (let less = ltb-true b a y in let same = eqb-true a b z in omega arith)
eq-cases a b false false true x y z = refl
eq-cases a b false false false x y z = let up = ltb-false a b x in let down = ltb-false b a y in let same : nat_eq a b ≡ true = eq-eqb a b (omega arith) in cc

int_eq-pos : (a b : ℕ) → int_eq (pos a) (pos b) ≡ nat_eq a b
int_eq-pos a b = eq-cases a b (nat_lt a b) (nat_lt b a) (nat_eq a b) refl refl refl

length-tells : (place : Place) (want got : Option ℕ) → IsUpTo got most → Tells (walk.length_told (pos_of place) (option_map pos want) got) (tree.sizes_differ tree.bad_size place want got)
length-tells place None got h = silent
length-tells place (Some want) None h = silent
length-tells place (Some want) (Some got) h =
    let faults = tree.fault_if (not (nat_eq want got)) place (tree.bad_size (pos want) (pos got)) in
    subst (λ (z : ℤ). Tells (told.fault_if (not (int_eq (pos want) z)) (pos_of place) (code.BadSize (pos want) z)) faults) (sym (signed-is got h))
    (subst (λ (b : Bool). Tells (told.fault_if (not b) (pos_of place) (code.BadSize (pos want) (pos got))) faults) (sym (int_eq-pos want got)) (if-tells (not (nat_eq want got)) place (code.BadSize (pos want) (pos got))))

argument-tells : (names : Name → Option Meaning) (scope : Scope) (ps : List code_param.Param) (es : Exprs) (size : ℤ) (e : Expr) → AllTied names scope es → Tied scope e (facts_of names e)
    → Tells (walk.length_told (facts_of names e).first (walk.wanted_length ps (walk.given names es) size) (facts_of names e).size)
    (tree.sizes_differ tree.bad_size (first_of e) (tree.wanted_length scope (tree.with_params (map param_view ps) es) size) (size_of scope e))
argument-tells names scope ps es size e a t =
    let got : IsUpTo (size_of scope e) most = subst (λ (o : Option ℕ). IsUpTo o most) t.size t.within in
    rw (t.first, wanted-is names scope ps es size a, t.size) (length-tells (first_of e) (tree.wanted_length scope (tree.with_params (map param_view ps) es) size) (size_of scope e) got)

pub lengths-tell : (names : Name → Option Meaning) (scope : Scope) (ps : List code_param.Param) (es : Exprs) → AllTied names scope es → (before : Option Fault) (xs : List tree.Fault) (qs : List code_param.Param) (ds : Exprs) → AllTied names scope ds → Tells before xs
    → Tells (walk.lengths_told ps (walk.given names es) before qs (walk.given names ds)) (xs ++ tree.length_faults scope (tree.with_params (map param_view ps) es) (tree.with_params (map param_view qs) ds))
lengths-tell names scope ps es a before xs [] ds b t = subst (λ (fs : List tree.Fault). Tells before fs) (sym (append-nil xs)) t
lengths-tell names scope ps es a before xs (q ∷ qs) no_exprs b t = subst (λ (fs : List tree.Fault). Tells before fs) (sym (append-nil xs)) t
lengths-tell names scope ps es a before xs (q ∷ qs) (exprs d ds) b t =
    let own = argument-tells names scope ps es q.size d a b.0 in
    regroup xs (tree.sizes_differ tree.bad_size (first_of d) (tree.wanted_length scope (tree.with_params (map param_view ps) es) q.size) (size_of scope d))
    (tree.length_faults scope (tree.with_params (map param_view ps) es) (tree.with_params (map param_view qs) ds))
    (lengths-tell names scope ps es a (walk.with_argument ps (walk.given names es) before q (facts_of names d))
    (xs ++ tree.sizes_differ tree.bad_size (first_of d) (tree.wanted_length scope (tree.with_params (map param_view ps) es) q.size) (size_of scope d)) qs ds b.1 (join t own))
