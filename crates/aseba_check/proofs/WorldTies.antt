-- What the tables hold is what a program's statements may name, and the walk over a source tells the least of its faults.
use Rattle.std.proofs.Common.{◌≡◌, refl, sym, ◌∙◌, ap, subst, ℕ, suc, ◌≤◌, Bool, true, false, cond, List, [], ◌∷◌, ◌++◌, length, map, Option, Some, None, arith, append_assoc}
use Rattle.std.proofs.lemmas.List.{append-nil}
use Rattle.std.proofs.lemmas.List.Elements.{recursion_from_All}
use Rattle.std.specs.Prelude.{◌||◌, is_some, IfSome, IsSome, option_map, option_and_then, slice_get, bytes_eq, find, filter, flat_map}
use Rattle.std.specs.List.{list_any, AllByRecursion}
use Rattle.std.specs.Option.{option_or}
use Rattle.std.specs.Cmp.Lexicographic.{same_text}
use Rattle.aseba_tree.specs.declared.description.Sized as code_sized
use Rattle.aseba_tree.specs.declared.description.Local as code_local
use Rattle.aseba_tree.specs.declared.description.Native as code_native
use Rattle.aseba_tree.specs.declared.project.Const as code_const
use Rattle.aseba_tree.specs.declared.project.Project as code_project
use Rattle.aseba_tree.specs.Code as tree_code
use Rattle.aseba_tree.specs.Code.{Name, Handler, Const, Sized, Source}
use Rattle.aseba_tree.specs.Inside.{InsideSized, InsideNative, InsideProject}
use Rattle.aseba_tree.specs.Shape.{decl_exprs, stmts_exprs, source_exprs, IsTree}
use Rattle.aseba_tree.specs.Sizes.{Known, Scope}
use Rattle.aseba_tree.specs.State.{Program}
use Rattle.aseba_tree.specs.View.{sized_view, local_view, native_view, const_view, project_view}
use Rattle.aseba_tree.specs.Faults as tree
use Rattle.aseba_check.specs.declared.facts.Meaning.TheVariants.{Constant}
use Rattle.aseba_check.specs.Looked.{nothing, with_value, first_value}
use Rattle.aseba_check.specs.Declarations as decls
use Rattle.aseba_check.specs.Declarations.{Names, ConstsFit}
use Rattle.aseba_check.specs.Statements as walk
use Rattle.aseba_check.specs.Parts as parts
use Rattle.aseba_check.specs.Walk.{first_names, known_to, rules_told, rule_faults, SourceFits}
use Rattle.aseba_check.proofs.Within.{IsUpTo, IsCell}
use Rattle.aseba_check.proofs.ExprTies.{Tells, silent, most, limit, meaning_of, Describes}
use Rattle.aseba_check.proofs.StatementTies.{DescribesWorld}
use Rattle.aseba_check.proofs.WalkTies.{total, under-append, stmts-tell}
use Rattle.aseba_check.proofs.DeclTies.{added, declared-describes, all-describe, decls-tell}
use Rattle.aseba_check.proofs.PartTies.{first-is, parts-tell}

-- The first value of a name

pub or-none : {V : Type 0} (o : Option V) → o ≡ option_or o None
or-none None = refl
or-none (Some v) = refl

first-plain : {V : Type 0} (v : V) (on oq : Option V) (b : Bool) → (b ≡ true → on ≡ oq) → cond (is_some on) oq (cond b (Some v) oq) ≡ option_or oq (cond b (Some v) None)
first-plain v (Some w) (Some x) b h = refl
first-plain v (Some w) None true h = let e = h refl in cc
first-plain v (Some w) None false h = refl
first-plain v None (Some x) true h = let e = h refl in cc
first-plain v None (Some x) false h = refl
first-plain v None None true h = refl
first-plain v None None false h = refl

split : {V : Type 0} (t : Bool) (values : Name → Option V) (n q : Name) (v : V) → (cond t values (with_value values n v)) q ≡ cond t (values q) (cond (bytes_eq n q) (Some v) (values q))
split true values n q v = refl
split false values n q v = refl

pub first-at : {V : Type 0} (values : Name → Option V) (n q : Name) (v : V) → first_value values n v q ≡ option_or (values q) (cond (bytes_eq n q) (Some v) None)
first-at values n q v = split (is_some (values n)) values n q v ∙ first-plain v (values n) (values q) (bytes_eq n q) (λ e. ap values (same_text n q (sym e)))

pub one-more : {V X : Type 0} (g : X → V) (o : Option V) (b : Bool) (x : X) (r : Option X) → option_or (option_or o (cond b (Some (g x)) None)) (option_map g r) ≡ option_or o (option_map g (cond b (Some x) r))
one-more g (Some v) b x r = refl
one-more g None true x r = refl
one-more g None false x r = refl

-- Constants and variables

consts-at : (names : Names) (cs : List code_const.Const) (q : Name) → decls.with_consts names cs q ≡ option_or (names q) (option_map (λ c. Constant c.value) (find (λ c. bytes_eq c.name q) (map const_view cs)))
consts-at names [] q = or-none (names q)
consts-at names (c ∷ cs) q =
    consts-at (decls.with_const names c) cs q
    ∙ (ap (λ o. option_or o (option_map (λ k. Constant k.value) (find (λ k. bytes_eq k.name q) (map const_view cs)))) (first-at names c.name q (Constant c.value))
    ∙ one-more (λ (k : Const). Constant k.value) (names q) (bytes_eq c.name q) (const_view c) (find (λ k. bytes_eq k.name q) (map const_view cs)))

constant-means : (o : Option Const) → option_map (λ c. Constant c.value) o ≡ meaning_of None (option_map (λ c. c.value) o)
constant-means None = refl
constant-means (Some c) = refl

cond-cell : (b : Bool) (c : code_const.Const) (r : Option Const) → IsCell (option_map (λ k. k.value) (Some (const_view c))) → IsCell (option_map (λ k. k.value) r) → IsCell (option_map (λ k. k.value) (cond b (Some (const_view c)) r))
cond-cell true c r h k = h
cond-cell false c r h k = k

consts-fit : (cs : List code_const.Const) → ConstsFit cs → (q : Name) → IsCell (option_map (λ c. c.value) (find (λ c. bytes_eq c.name q) (map const_view cs)))
consts-fit [] h q = tt
consts-fit (c ∷ cs) h q = cond-cell (bytes_eq c.name q) c (find (λ k. bytes_eq k.name q) (map const_view cs)) h.0 (consts-fit cs h.1 q)

abbrev only-consts : List code_const.Const → Scope
only-consts cs = record { consts = map const_view cs; variables = [] }

consts-describe : (cs : List code_const.Const) → ConstsFit cs → Describes (decls.with_consts nothing cs) (only-consts cs)
consts-describe cs h = record {
  means = λ q. consts-at nothing cs q ∙ constant-means (find (λ c. bytes_eq c.name q) (map const_view cs));
  bounded = record { numbers = consts-fit cs h; sizes = λ q. tt };
}

abbrev known : Sized → Known
known v = record { name = v.name; size = Some v.size }

vars-describe : (names : Names) (scope : Scope) → Describes names scope → (vs : List code_sized.Sized) → AllByRecursion (InsideSized 1 4096) vs
    → Describes (decls.with_variables names vs) (record scope { variables = scope.variables ++ map known (map sized_view vs) })
vars-describe names scope w [] h = subst (λ (ks : List Known). Describes names (record scope { variables = ks })) (sym (append-nil scope.variables)) w
vars-describe names scope w (v ∷ vs) h =
    subst (λ (ks : List Known). Describes (decls.with_variables (decls.declared names v.name (Some v.size)) vs) (record scope { variables = ks })) (append_assoc scope.variables (known (sized_view v) ∷ []) (map known (map sized_view vs)))
    (vars-describe (decls.declared names v.name (Some v.size)) (added scope v.name (Some v.size)) (declared-describes names scope w v.name (Some v.size) (let k = h.0.size.1 in omega arith)) vs h.1)

pub first-describes : (project : code_project.Project) → ConstsFit project.consts → InsideProject project → Describes (first_names project) (tree.first_scope (project_view project))
first-describes project h i =
    vars-describe (decls.with_consts nothing project.consts) (only-consts project.consts) (consts-describe project.consts h) project.node.variables
    (recursion_from_All (InsideSized 1 4096) project.node.variables i.node.variables.each.each)

-- Events

globals-at : (events : parts.Events) (es : List code_sized.Sized) (q : Name) → parts.with_globals events es q ≡ option_or (events q) (option_map (λ e. Some e.size) (find (λ e. bytes_eq e.name q) (map sized_view es)))
globals-at events [] q = or-none (events q)
globals-at events (e ∷ es) q =
    globals-at (first_value events e.name (Some e.size)) es q
    ∙ (ap (λ o. option_or o (option_map (λ s. Some s.size) (find (λ s. bytes_eq s.name q) (map sized_view es)))) (first-at events e.name q (Some e.size))
    ∙ one-more (λ (s : Sized). Some s.size) (events q) (bytes_eq e.name q) (sized_view e) (find (λ s. bytes_eq s.name q) (map sized_view es)))

locals-at : (events : parts.Events) (ls : List code_local.Local) (q : Name) → parts.with_locals events ls q ≡ option_or (events q) (option_map (λ l. None) (find (λ l. bytes_eq l.name q) (map local_view ls)))
locals-at events [] q = or-none (events q)
locals-at events (l ∷ ls) q =
    locals-at (first_value events l.name None) ls q
    ∙ (ap (λ o. option_or o (option_map (λ k. None) (find (λ k. bytes_eq k.name q) (map local_view ls)))) (first-at events l.name q None)
    ∙ one-more (λ k. None) (events q) (bytes_eq l.name q) (local_view l) (find (λ k. bytes_eq k.name q) (map local_view ls)))

any-step : {X : Type 0} (x : X) (o : Option X) (r : Bool) (b : Bool) → is_some o ≡ r → is_some (cond b (Some x) o) ≡ (b || r)
any-step x o r true e = refl
any-step x o r false e = e

found-any : {X : Type 0} (p : X → Bool) (xs : List X) → is_some (find p xs) ≡ list_any p xs
found-any p [] = refl
found-any p (x ∷ xs) = any-step x (find p xs) (list_any p xs) (p x) (found-any p xs)

global-plain : {X : Type 0} (g : Option Sized) (l : Option X) → walk.global_size (option_or (option_map (λ e. Some e.size) g) (option_map (λ k. None) l)) ≡ option_map (λ e. e.size) g
global-plain (Some e) l = refl
global-plain None (Some k) = refl
global-plain None None = refl

event-plain : {X : Type 0} (g : Option Sized) (l : Option X) → is_some (option_or (option_map (λ e. Some e.size) g) (option_map (λ k. None) l)) ≡ (is_some g || is_some l)
event-plain (Some e) l = refl
event-plain None (Some k) = refl
event-plain None None = refl

events-at : (project : code_project.Project) (q : Name) → parts.with_locals (parts.with_globals nothing project.events) project.node.locals q
    ≡ option_or (option_map (λ e. Some e.size) (tree.global_event (project_view project) q)) (option_map (λ l. None) (find (λ l. bytes_eq l.name q) (map local_view project.node.locals)))
events-at project q =
    locals-at (parts.with_globals nothing project.events) project.node.locals q
    ∙ ap (λ o. option_or o (option_map (λ l. None) (find (λ l. bytes_eq l.name q) (map local_view project.node.locals)))) (globals-at nothing project.events q)

cond-size : (b : Bool) (e : code_sized.Sized) (r : Option Sized) → e.size ≤ 256 → IsUpTo (option_map (λ s. s.size) r) most → IsUpTo (option_map (λ s. s.size) (cond b (Some (sized_view e)) r)) most
cond-size true e r h k = omega arith
cond-size false e r h k = k

event-within : (es : List code_sized.Sized) → AllByRecursion (InsideSized 0 256) es → (q : Name) → IsUpTo (option_map (λ e. e.size) (find (λ e. bytes_eq e.name q) (map sized_view es))) most
event-within [] h q = tt
event-within (e ∷ es) h q = cond-size (bytes_eq e.name q) e (find (λ s. bytes_eq s.name q) (map sized_view es)) h.0.size.1 (event-within es h.1 q)

-- Natives

abbrev long : {X : Type 0} → List X → ℕ
long [] = 0
long (x ∷ xs) = suc (long xs)

at-place : {X : Type 0} (pre : List X) (x : X) (xs : List X) → slice_get (pre ++ x ∷ xs) (long pre) ≡ Some x
at-place [] x xs = refl
at-place (p ∷ pre) x xs = at-place pre x xs

long-more : {X : Type 0} (pre : List X) (x : X) → long (pre ++ x ∷ []) ≡ suc (long pre)
long-more [] x = refl
long-more (p ∷ pre) x = ap suc (long-more pre x)

some-or : {X : Type 0} (o x : Option X) → IsSome o → o ≡ option_or o x
some-or None x h = cc
some-or (Some v) x h = refl

and-or : {X : Type 0} (look : ℕ → Option X) (o : Option ℕ) (b : Bool) (k : ℕ) → IfSome o (λ i. IsSome (look i)) → option_and_then look (option_or o (cond b (Some k) None)) ≡ option_or (option_and_then look o) (cond b (look k) None)
and-or look None true k h = refl
and-or look None false k h = refl
and-or look (Some i) b k h = some-or (look i) (cond b (look k) None) h

or-cond : {X : Type 0} (o : Option X) (b : Bool) (x : X) (r : Option X) → option_or (option_or o (cond b (Some x) None)) r ≡ option_or o (cond b (Some x) r)
or-cond (Some v) b x r = refl
or-cond None true x r = refl
or-cond None false x r = refl

valid-more : {X : Type 0} (look : ℕ → Option X) (k : ℕ) → IsSome (look k) → (o : Option ℕ) (b : Bool) → IfSome o (λ i. IsSome (look i)) → IfSome (option_or o (cond b (Some k) None)) (λ i. IsSome (look i))
valid-more look k s (Some i) b h = h
valid-more look k s None true h = s
valid-more look k s None false h = tt

abbrev Valid : List code_native.Native → parts.Numbered → Type 0
Valid all places = (q : Name) → IfSome (places q) (λ i. IsSome (slice_get all i))

natives-at : (all pre ns : List code_native.Native) (places : parts.Numbered) → all ≡ pre ++ ns → Valid all places → (q : Name)
    → option_and_then (λ i. slice_get all i) (parts.with_natives places (long pre) ns q) ≡ option_or (option_and_then (λ i. slice_get all i) (places q)) (find (λ n. bytes_eq n.name q) ns)
natives-at all pre [] places e v q = or-none (option_and_then (λ i. slice_get all i) (places q))
natives-at all pre (n ∷ ns) places e v q =
    let look : ℕ → Option code_native.Native = λ i. slice_get all i in
    let here : look (long pre) ≡ Some n = ap (λ (l : List code_native.Native). slice_get l (long pre)) e ∙ at-place pre n ns in
    let there : IsSome (look (long pre)) = subst (λ (o : Option code_native.Native). IsSome o) (sym here) refl in
    let next : parts.Numbered = first_value places n.name (long pre) in
    let valid : Valid all next = λ r. subst (λ (o : Option ℕ). IfSome o (λ i. IsSome (look i))) (sym (first-at places n.name r (long pre))) (valid-more look (long pre) there (places r) (bytes_eq n.name r) (v r)) in
    let moved = natives-at all (pre ++ n ∷ []) ns next (e ∙ sym (append_assoc pre (n ∷ []) ns)) valid q in
    ap (λ (k : ℕ). option_and_then look (parts.with_natives next k ns q)) (sym (long-more pre n))
    ∙ (moved
    ∙ (ap (λ o. option_or (option_and_then look o) (find (λ m. bytes_eq m.name q) ns)) (first-at places n.name q (long pre))
    ∙ (ap (λ o. option_or o (find (λ m. bytes_eq m.name q) ns)) (and-or look (places q) (bytes_eq n.name q) (long pre) (v q))
    ∙ (ap (λ o. option_or (option_or (option_and_then look (places q)) (cond (bytes_eq n.name q) o None)) (find (λ m. bytes_eq m.name q) ns)) here
    ∙ or-cond (option_and_then look (places q)) (bytes_eq n.name q) n (find (λ m. bytes_eq m.name q) ns)))))

pub native-found : (natives : List code_native.Native) (q : Name) → option_and_then (λ i. slice_get natives i) (parts.with_natives nothing 0 natives q) ≡ find (λ n. bytes_eq n.name q) natives
native-found natives q = natives-at natives [] natives nothing refl (λ r. tt) q

view-cond : (b : Bool) (n : code_native.Native) (r : Option code_native.Native) (s : Option tree_code.Native) → option_map native_view r ≡ s → option_map native_view (cond b (Some n) r) ≡ cond b (Some (native_view n)) s
view-cond true n r s e = refl
view-cond false n r s e = e

pub found-view : (natives : List code_native.Native) (q : Name) → option_map native_view (find (λ n. bytes_eq n.name q) natives) ≡ find (λ n. bytes_eq n.name q) (map native_view natives)
found-view [] q = refl
found-view (n ∷ ns) q = view-cond (bytes_eq n.name q) n (find (λ m. bytes_eq m.name q) ns) (find (λ m. bytes_eq m.name q) (map native_view ns)) (found-view ns q)

few-cond : (b : Bool) (n : code_native.Native) (r : Option code_native.Native) → length n.params ≤ 16 → IfSome r (λ m. length m.params ≤ limit) → IfSome (cond b (Some n) r) (λ m. length m.params ≤ limit)
few-cond true n r h k = omega arith
few-cond false n r h k = k

few-params : (natives : List code_native.Native) → AllByRecursion InsideNative natives → (q : Name) → IfSome (find (λ n. bytes_eq n.name q) natives) (λ n. length n.params ≤ limit)
few-params [] h q = tt
few-params (n ∷ ns) h q = few-cond (bytes_eq n.name q) n (find (λ m. bytes_eq m.name q) ns) h.0.params.few (few-params ns h.1 q)

-- Subroutines

or-true : (s : Bool) → s ≡ (s || false)
or-true true = refl
or-true false = refl

or-regroup : (s b r : Bool) → ((s || (b || false)) || r) ≡ (s || (b || r))
or-regroup true b r = refl
or-regroup false true r = refl
or-regroup false false r = refl

place-step : (b : Bool) (places : parts.Numbered) (k : ℕ) (h : Handler) (hs : List Handler) (q : Name)
    → (is_some ((cond b (first_value places h.name k) places) q) || list_any (λ n. bytes_eq n q) (map (λ g. g.name) hs)) ≡ (is_some (places q) || list_any (λ n. bytes_eq n q) (map (λ g. g.name) (cond b (h ∷ hs) hs)))
place-step true places k h hs q =
    ap (λ c. c || list_any (λ n. bytes_eq n q) (map (λ g. g.name) hs)) (first-is places h.name q k) ∙ or-regroup (is_some (places q)) (bytes_eq h.name q) (list_any (λ n. bytes_eq n q) (map (λ g. g.name) hs))
place-step false places k h hs q = refl

subs-at : (places : parts.Numbered) (k : ℕ) (hs : List Handler) (q : Name) → is_some (parts.with_subs places k hs q) ≡ (is_some (places q) || list_any (λ n. bytes_eq n q) (map (λ h. h.name) (filter (λ h. h.is_sub) hs)))
subs-at places k [] q = or-true (is_some (places q))
subs-at places k (h ∷ hs) q = subs-at (parts.with_place places k h) (suc k) hs q ∙ place-step h.is_sub places k h (filter (λ g. g.is_sub) hs) q

-- The world

world-described : (project : code_project.Project) (source : Source) → InsideProject project → SourceFits project source → total (source_exprs source) ≤ limit
    → DescribesWorld (known_to project source) (tree.world_of (record { project = project_view project; source = source }))
world-described project source i f s =
    let u = under-append (flat_map decl_exprs source.vars ++ stmts_exprs source.init) (flat_map (λ h. stmts_exprs h.body) source.parts) s in
    let v = under-append (flat_map decl_exprs source.vars) (stmts_exprs source.init) u.0 in
    let locals : Name → Option tree_code.Local = λ q. find (λ l. bytes_eq l.name q) (map local_view project.node.locals) in
    let global : Name → Option Sized = λ q. tree.global_event (project_view project) q in
    let size-of = λ (q : Name). ap walk.global_size (events-at project q) ∙ global-plain (global q) (locals q) in
    record {
      names = all-describe (first_names project) (tree.first_scope (project_view project)) (first-describes project f.consts i) source.vars f.vars v.0;
      event = size-of;
      event_size = λ q. subst (λ (o : Option ℕ). IsUpTo o most) (sym (size-of q)) (event-within project.events (recursion_from_All (InsideSized 0 256) project.events i.events.each) q);
      is_event = λ q. ap is_some (events-at project q) ∙ (event-plain (global q) (locals q) ∙ ap (λ b. is_some (global q) || b) (found-any (λ l. bytes_eq l.name q) (map local_view project.node.locals)));
      native = λ q. ap (λ o. option_map native_view o) (native-found project.node.natives q) ∙ found-view project.node.natives q;
      params = λ q. subst (λ (o : Option code_native.Native). IfSome o (λ n. length n.params ≤ limit)) (sym (native-found project.node.natives q))
          (few-params project.node.natives (recursion_from_All InsideNative project.node.natives i.node.natives.each) q);
      is_sub = λ q. subs-at nothing 0 source.parts q;
    }

-- what is told is the first fault of the source, leaving out the cycles of its subroutines
pub rules-tell : (project : code_project.Project) (source : Source) → InsideProject project → IsTree source → SourceFits project source
    → Tells (rules_told project source) (rule_faults (record { project = project_view project; source = source }))
rules-tell project source i tree_is f =
    let k = tree_is.is_small in
    let s : total (source_exprs source) ≤ limit = omega arith in
    let u = under-append (flat_map decl_exprs source.vars ++ stmts_exprs source.init) (flat_map (λ h. stmts_exprs h.body) source.parts) s in
    let v = under-append (flat_map decl_exprs source.vars) (stmts_exprs source.init) u.0 in
    let program : Program = record { project = project_view project; source = source } in
    let world = tree.world_of program in
    let w = world-described project source i f s in
    let first = decls-tell (first_names project) (tree.first_scope (project_view project)) (first-describes project f.consts i) None [] source.vars f.vars v.0 silent in
    let second = stmts-tell (known_to project source) world w _ (tree.decls_faults (tree.first_scope (project_view project)) source.vars) source.init f.init v.1 first in
    parts-tell (known_to project source) world w _ (tree.decls_faults (tree.first_scope (project_view project)) source.vars ++ tree.stmts_faults world source.init) source.parts f.parts u.1 second
