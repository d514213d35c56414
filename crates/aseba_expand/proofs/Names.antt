-- What the tables of a checked source's names hold, name by name.
use Rattle.std.proofs.Common.{◌≡◌, refl, sym, ◌∙◌, ap, subst, ℕ, suc, ◌+◌, ◌-◌, ◌≤◌, Bool, true, false, cond, List, [], ◌∷◌, length, map, Option, Some, None, arith}
use Rattle.std.specs.Prelude.{◌&&◌, not, ℤ, nat_lt, IfOk, IfSome, Ok, Err, Result, option_map, option_and_then, slice_get, unwrap_or, bytes_eq, find, sum_by}
use Rattle.std.specs.Bool.{beq}
use Rattle.std.specs.List.{position, position_from, position_or_len}
use Rattle.std.specs.Option.{option_or}
use Rattle.std.proofs.lemmas.Bool.{ltb-false}
use Rattle.std.proofs.lemmas.Iterator.Adapters.{position_from-zero}
use Rattle.std.proofs.lemmas.List.{length-map}
use Rattle.std.proofs.lemmas.List.Sums.{prefix_len-le-length, sum_by-cons}
use Rattle.aseba_tree.specs.declared.description.Sized as code_sized
use Rattle.aseba_tree.specs.declared.description.Local as code_local
use Rattle.aseba_tree.specs.declared.description.Native as code_native
use Rattle.aseba_tree.specs.declared.description.Param as code_param
use Rattle.aseba_tree.specs.declared.project.Const as code_const
use Rattle.aseba_tree.specs.declared.project.Project.{Project}
use Rattle.aseba_tree.specs.declared.source.Source as code_source
use Rattle.aseba_tree.specs.declared.placed.Placed as code_placed
use Rattle.aseba_tree.specs.Code.{Name, Const, Handler, Sized, Native}
use Rattle.aseba_tree.specs.Inside.{InsideProject}
use Rattle.aseba_tree.specs.Layout.{Placed, address_from, placed_from, placed_named, variables, layout, cells_of_variables}
use Rattle.aseba_tree.specs.Shape.{IsTree}
use Rattle.aseba_tree.specs.Soundness.{Sound}
use Rattle.aseba_tree.specs.State.{Program}
use Rattle.aseba_tree.specs.View.{placed_view, const_view, sized_view, local_view, param_view, native_view, handler_view, source_view}
use Rattle.aseba_tree.proofs.SoundProofs.{sound_is_faultless}
use Rattle.aseba_check.specs.Accepted.{IsChecked}
use Rattle.aseba_check.specs.Refused.{program_in}
use Rattle.aseba_check.specs.declared.checked.Checked.{Checked}
use Rattle.aseba_check.specs.Looked.{looked, nothing, first_value}
use Rattle.aseba_check.specs.Parts.{Numbered, with_natives, with_place, with_subs}
use Rattle.aseba_check.proofs.WorldTies.{or-none, first-at, one-more, native-found, found-view}
use Rattle.aseba_expand.specs.declared.scope.Place.{Place}
use Rattle.aseba_expand.specs.declared.scope.Scope.{Scope}
use Rattle.aseba_expand.specs.Scope.{IsShort, KnowsNames, pair_of, program_of, sizes_found, sizes_in}
use Rattle.aseba_expand.specs.Tables.{with_places, with_consts, with_globals, with_locals, IsFilled}

-- Variables

abbrev place_of : code_placed.Placed → Place
place_of p = record { start = p.start; size = p.size }

abbrev cells_of : Placed → ℕ × ℕ
cells_of p = (p.start, p.size)

placed-view : (b : Bool) (p : code_placed.Placed) (o : Option Place) (r : Option Placed) → option_map pair_of o ≡ option_map cells_of r
    → option_map pair_of (cond b (Some (place_of p)) o) ≡ option_map cells_of (cond b (Some (placed_view p)) r)
placed-view true p o r e = refl
placed-view false p o r e = e

map-cond : {X Y : Type 0} (f : X → Y) (b : Bool) (x : X) (r : Option X) → cond b (Some (f x)) (option_map f r) ≡ option_map f (cond b (Some x) r)
map-cond f true x r = refl
map-cond f false x r = refl

places-at : (known : Name → Option Place) (ps : List code_placed.Placed) (q : Name) → with_places known ps q ≡ option_or (known q) (option_map place_of (find (λ p. bytes_eq p.name q) ps))
places-at known [] q = or-none (known q)
places-at known (p ∷ ps) q =
    places-at (first_value known p.name (place_of p)) ps q
    ∙ (ap (λ o. option_or o (option_map place_of (find (λ r. bytes_eq r.name q) ps))) (first-at known p.name q (place_of p))
    ∙ one-more place_of (known q) (bytes_eq p.name q) p (find (λ r. bytes_eq r.name q) ps))

placed-found : (ps : List code_placed.Placed) (q : Name) → option_map pair_of (option_map place_of (find (λ p. bytes_eq p.name q) ps)) ≡ option_map cells_of (placed_named (map placed_view ps) q)
placed-found [] q = refl
placed-found (p ∷ ps) q =
    sym (ap (λ o. option_map pair_of o) (map-cond place_of (bytes_eq p.name q) p (find (λ r. bytes_eq r.name q) ps)))
    ∙ placed-view (bytes_eq p.name q) p (option_map place_of (find (λ r. bytes_eq r.name q) ps)) (placed_named (map placed_view ps) q) (placed-found ps q)

address-found : (base : ℕ) (vs : List Sized) (q : Name) → option_map cells_of (placed_named (placed_from base vs) q) ≡ address_from base vs q
address-found base [] q = refl
address-found base (v ∷ vs) q =
    sym (map-cond cells_of (bytes_eq v.name q) (record { name = v.name; start = base; size = v.size }) (placed_named (placed_from (base + v.size) vs) q))
    ∙ ap (λ o. cond (bytes_eq v.name q) (Some (base, v.size)) o) (address-found (base + v.size) vs q)

variables-known : (ps : List code_placed.Placed) (vs : List Sized) → map placed_view ps ≡ placed_from 0 vs → (q : Name) → option_map pair_of (with_places nothing ps q) ≡ address_from 0 vs q
variables-known ps vs e q =
    ap (λ o. option_map pair_of o) (places-at nothing ps q) ∙ (placed-found ps q ∙ (ap (λ l. option_map cells_of (placed_named l q)) e ∙ address-found 0 vs q))

short-cond : (b : Bool) (v : ℕ × ℕ) (r : Option (ℕ × ℕ)) → IsShort v → IfSome r IsShort → IfSome (cond b (Some v) r) IsShort
short-cond true v r h k = h
short-cond false v r h k = k

-- a variable ends at the last of all cells, at the latest
address-short : (base : ℕ) (vs : List Sized) (q : Name) → base + sum_by (λ v. v.size) vs ≤ 4096 → IfSome (address_from base vs q) IsShort
address-short base [] q h = tt
address-short base (v ∷ vs) q h =
    let whole = sum_by-cons (λ (s : Sized). s.size) v vs in
    short-cond (bytes_eq v.name q) (base, v.size) (address_from (base + v.size) vs q) (omega (arith, whole, h)) (address-short (base + v.size) vs q (omega (arith, whole, h)))

-- Constants

consts-at : (known : Name → Option ℤ) (cs : List code_const.Const) (q : Name) → with_consts known cs q ≡ option_or (known q) (option_map (λ c. c.value) (find (λ c. bytes_eq c.name q) (map const_view cs)))
consts-at known [] q = or-none (known q)
consts-at known (c ∷ cs) q =
    consts-at (first_value known c.name c.value) cs q
    ∙ (ap (λ o. option_or o (option_map (λ k. k.value) (find (λ k. bytes_eq k.name q) (map const_view cs)))) (first-at known c.name q c.value)
    ∙ one-more (λ (k : Const). k.value) (known q) (bytes_eq c.name q) (const_view c) (find (λ k. bytes_eq k.name q) (map const_view cs)))

-- Events

or-cond : {X : Type 0} (o : Option X) (b : Bool) (x : X) (r : Option X) → option_or (option_or o (cond b (Some x) None)) r ≡ option_or o (cond b (Some x) r)
or-cond (Some v) b x r = refl
or-cond None true x r = refl
or-cond None false x r = refl

behind : (n : ℕ) → suc n ≡ n + 1
behind n = omega arith

-- the first place in a list behind one element, after that element
first-from : {X : Type 0} (t : X → Bool) (o : Option ℕ) (b : Bool) (k : ℕ) (xs : List X)
    → option_or (option_or o (cond b (Some k) None)) (position_from t (suc k) xs) ≡ option_or o (cond b (Some k) (position_from t (k + 1) xs))
first-from t o b k xs = or-cond o b k (position_from t (suc k) xs) ∙ ap (λ n. option_or o (cond b (Some k) (position_from t n xs))) (behind k)

globals-at : (known : Numbered) (number : ℕ) (es : List code_sized.Sized) (q : Name) → with_globals known number es q ≡ option_or (known q) (position_from (λ e. bytes_eq e.name q) number (map sized_view es))
globals-at known number [] q = or-none (known q)
globals-at known number (e ∷ es) q =
    globals-at (first_value known e.name number) (suc number) es q
    ∙ (ap (λ o. option_or o (position_from (λ s. bytes_eq s.name q) (suc number) (map sized_view es))) (first-at known e.name q number)
    ∙ first-from (λ s. bytes_eq s.name q) (known q) (bytes_eq e.name q) number (map sized_view es))

locals-at : (known : Numbered) (before : ℕ) (ls : List code_local.Local) (q : Name) → with_locals known before ls q ≡ option_or (known q) (option_map (λ i. 0xFFFE - i) (position_from (λ l. bytes_eq l.name q) before (map local_view ls)))
locals-at known before [] q = or-none (known q)
locals-at known before (l ∷ ls) q =
    locals-at (first_value known l.name (0xFFFE - before)) (suc before) ls q
    ∙ (ap (λ o. option_or o (option_map (λ i. 0xFFFE - i) (position_from (λ k. bytes_eq k.name q) (suc before) (map local_view ls)))) (first-at known l.name q (0xFFFE - before))
    ∙ (one-more (λ i. 0xFFFE - i) (known q) (bytes_eq l.name q) before (position_from (λ k. bytes_eq k.name q) (suc before) (map local_view ls))
    ∙ ap (λ n. option_or (known q) (option_map (λ i. 0xFFFE - i) (cond (bytes_eq l.name q) (Some before) (position_from (λ k. bytes_eq k.name q) n (map local_view ls))))) (behind before)))

events-known : (es : List code_sized.Sized) (ls : List code_local.Local) (q : Name) → with_locals (with_globals nothing 0 es) 0 ls q
    ≡ option_or (position (λ e. bytes_eq e.name q) (map sized_view es)) (option_map (λ i. 0xFFFE - i) (position (λ l. bytes_eq l.name q) (map local_view ls)))
events-known es ls q =
    locals-at (with_globals nothing 0 es) 0 ls q
    ∙ (ap (λ o. option_or o (option_map (λ i. 0xFFFE - i) (position_from (λ l. bytes_eq l.name q) 0 (map local_view ls)))) (globals-at nothing 0 es q ∙ sym (position_from-zero (λ e. bytes_eq e.name q) (map sized_view es)))
    ∙ ap (λ o. option_or (position (λ e. bytes_eq e.name q) (map sized_view es)) (option_map (λ i. 0xFFFE - i) o)) (sym (position_from-zero (λ l. bytes_eq l.name q) (map local_view ls))))

-- Places among natives and parts

first-or-all : {X : Type 0} (t : X → Bool) (xs : List X) → unwrap_or (position t xs) (length xs) ≡ position_or_len t xs
first-or-all t xs = step (nat_lt (position_or_len t xs) (length xs)) refl
  where
    step : (b : Bool) → nat_lt (position_or_len t xs) (length xs) ≡ b → unwrap_or (cond b (Some (position_or_len t xs)) None) (length xs) ≡ position_or_len t xs
    step true e = refl
    step false e = let above = ltb-false (position_or_len t xs) (length xs) e in let below = prefix_len-le-length (λ x. not (t x)) xs in omega (arith, above, below)

natives-at : (known : Numbered) (before : ℕ) (ns : List code_native.Native) (q : Name) → with_natives known before ns q ≡ option_or (known q) (position_from (λ n. bytes_eq n.name q) before (map native_view ns))
natives-at known before [] q = or-none (known q)
natives-at known before (n ∷ ns) q =
    natives-at (first_value known n.name before) (suc before) ns q
    ∙ (ap (λ o. option_or o (position_from (λ m. bytes_eq m.name q) (suc before) (map native_view ns))) (first-at known n.name q before)
    ∙ first-from (λ m. bytes_eq m.name q) (known q) (bytes_eq n.name q) before (map native_view ns))

natives-known : (ns : List code_native.Native) (q : Name) → unwrap_or (with_natives nothing 0 ns q) (length ns) ≡ position_or_len (λ n. bytes_eq n.name q) (map native_view ns)
natives-known ns q =
    let test : Native → Bool = λ n. bytes_eq n.name q in
    ap (λ o. unwrap_or o (length ns)) (natives-at nothing 0 ns q ∙ sym (position_from-zero test (map native_view ns)))
    ∙ (ap (λ n. unwrap_or (position test (map native_view ns)) n) (sym (length-map ns native_view)) ∙ first-or-all test (map native_view ns))

sizes-view : (ps : List code_param.Param) → map (λ p. p.size) ps ≡ map (λ p. p.size) (map param_view ps)
sizes-view [] = refl
sizes-view (p ∷ ps) = ap (λ l. p.size ∷ l) (sizes-view ps)

sizes-found : (ns : List code_native.Native) (o : Option ℕ) → sizes_found ns o ≡ sizes_in (option_and_then (λ i. slice_get ns i) o)
sizes-found ns None = refl
sizes-found ns (Some i) = refl

sizes-of : (o : Option code_native.Native) → sizes_in o ≡ unwrap_or (option_map (λ n. map (λ p. p.size) n.params) (option_map native_view o)) []
sizes-of None = refl
sizes-of (Some n) = sizes-view n.params

params-known : (ns : List code_native.Native) (q : Name) → sizes_found ns (with_natives nothing 0 ns q) ≡ unwrap_or (option_map (λ n. map (λ p. p.size) n.params) (find (λ n. bytes_eq n.name q) (map native_view ns))) []
params-known ns q =
    sizes-found ns (with_natives nothing 0 ns q)
    ∙ (ap sizes_in (native-found ns q)
    ∙ (sizes-of (find (λ n. bytes_eq n.name q) ns)
    ∙ ap (λ o. unwrap_or (option_map (λ n. map (λ p. p.size) n.params) o) []) (found-view ns q)))

place-at : (known : Numbered) (before : ℕ) (h : Handler) (q : Name) → with_place known before h q ≡ option_or (known q) (cond (beq h.is_sub true && bytes_eq h.name q) (Some before) None)
place-at known before h q = step h.is_sub
  where
    step : (b : Bool) → (cond b (first_value known h.name before) known) q ≡ option_or (known q) (cond (beq b true && bytes_eq h.name q) (Some before) None)
    step true = first-at known h.name q before
    step false = or-none (known q)

subs-at : (known : Numbered) (before : ℕ) (hs : List Handler) (q : Name) → with_subs known before hs q ≡ option_or (known q) (position_from (λ h. beq h.is_sub true && bytes_eq h.name q) before hs)
subs-at known before [] q = or-none (known q)
subs-at known before (h ∷ hs) q =
    subs-at (with_place known before h) (suc before) hs q
    ∙ (ap (λ o. option_or o (position_from (λ g. beq g.is_sub true && bytes_eq g.name q) (suc before) hs)) (place-at known before h q)
    ∙ first-from (λ g. beq g.is_sub true && bytes_eq g.name q) (known q) (beq h.is_sub true && bytes_eq h.name q) before hs)

subs-known : (hs : List Handler) (many : ℕ) → many ≡ length hs → (q : Name) → unwrap_or (with_subs nothing 0 hs q) many ≡ position_or_len (λ h. beq h.is_sub true && bytes_eq h.name q) hs
subs-known hs many e q =
    let test : Handler → Bool = λ h. beq h.is_sub true && bytes_eq h.name q in
    ap (λ o. unwrap_or o many) (subs-at nothing 0 hs q ∙ sym (position_from-zero test hs))
    ∙ (ap (λ n. unwrap_or (position test hs) n) e ∙ first-or-all test hs)

-- All of them

few-first : {X : Type 0} (t : X → Bool) (xs : List X) (most : ℕ) → length xs ≤ most → position_or_len t xs ≤ most
few-first t xs most h = let below = prefix_len-le-length (λ x. not (t x)) xs in omega (arith, h, below)

names-known : (scope : Scope) (places : List code_placed.Placed) → InsideProject scope.project.now → IsTree (source_view scope.source.now) → Sound (program_of scope)
    → map placed_view places ≡ layout (program_of scope) → scope.cells ≡ cells_of_variables (program_of scope)
    → looked scope.variables ≡ with_places nothing places
    → looked scope.constants ≡ with_consts nothing scope.project.now.consts
    → looked scope.events ≡ with_locals (with_globals nothing 0 scope.project.now.events) 0 scope.project.now.node.locals
    → looked scope.natives ≡ with_natives nothing 0 scope.project.now.node.natives
    → looked scope.subs ≡ with_subs nothing 0 (map handler_view scope.source.now.parts)
    → KnowsNames scope
names-known scope places inside tree sound laid counted variables-are constants-are events-are natives-are subs-are =
    let program = program_of scope in
    let project = scope.project.now in
    let room = ((sound_is_faultless program).0 sound).1 in
    let cells = inside.node.cells.1 in
    let few : cells_of_variables program ≤ 4096 = omega (arith, room, cells) in
    let small = tree.is_small in
    let natives-few = inside.node.natives.few in
    let natives-view = length-map project.node.natives native_view in
    let parts : length program.source.parts ≤ 4294967295 = omega (arith, small) in
    record {
      variables = λ q. ap (λ f. option_map pair_of (f q)) variables-are ∙ variables-known places (variables program) laid q;
      constants = λ q. ap (λ f. f q) constants-are ∙ consts-at nothing project.consts q;
      events = λ q. ap (λ f. f q) events-are ∙ events-known project.events project.node.locals q;
      natives = λ q. ap (λ f. unwrap_or (f q) (length project.node.natives)) natives-are ∙ natives-known project.node.natives q;
      params = λ q. ap (λ f. sizes_found project.node.natives (f q)) natives-are ∙ params-known project.node.natives q;
      subs = λ q. ap (λ f. unwrap_or (f q) (length scope.source.now.parts)) subs-are ∙ subs-known program.source.parts (length scope.source.now.parts) (sym (length-map scope.source.now.parts handler_view)) q;
      short = λ q. address-short 0 (variables program) q (omega (arith, few));
      few_natives = λ q. let below = few-first (λ n. bytes_eq n.name q) program.project.node.natives 64 (omega (arith, natives-few, natives-view)) in omega (arith, below);
      few_parts = λ q. let below = few-first (λ h. beq h.is_sub true && bytes_eq h.name q) program.source.parts 4294967295 parts in omega (arith, below);
      few_cells = omega (arith, few, counted);
      first_temporary = counted;
    }

same-program : (scope : Scope) (project : Project) (checked : Checked) → IsFilled project checked scope → program_in project checked.source ≡ program_of scope
same-program scope project checked f = ap (λ p. program_in p checked.source) (sym f.same_project) ∙ ap (λ s. program_in scope.project.now s) (sym f.same_source)

filled-names : (scope : Scope) (project : Project) (checked : Checked) → IsChecked project checked → IsFilled project checked scope → KnowsNames scope
filled-names scope project checked is f =
    let program = same-program scope project checked f in
    names-known scope checked.places
    (subst (λ (p : Project). InsideProject p) (sym f.same_project) is.inside)
    (subst (λ (s : code_source.Source). IsTree (source_view s)) (sym f.same_source) is.is_tree)
    (subst (λ (p : Program). Sound p) program is.sound)
    (is.places ∙ ap layout program)
    (f.same_cells ∙ (is.cells ∙ ap cells_of_variables program))
    f.variables f.constants f.events f.natives f.subs

if-ok : {A E : Type 0} {P Q : A → Type 0} (r : Result A E) → ((x : A) → P x → Q x) → IfOk r P → IfOk r Q
if-ok (Ok x) h p = h x p
if-ok (Err e) h p = tt

pub scope-knows : {E : Type 0} (r : Result Scope E) (project : Project) (checked : Checked) → IsChecked project checked → IfOk r (λ scope. IsFilled project checked scope) → IfOk r (λ scope. KnowsNames scope)
scope-knows r project checked is f = if-ok {P = λ scope. IsFilled project checked scope} {Q = λ scope. KnowsNames scope} r (λ scope g. filled-names scope project checked is g) f

pub scope-program : {E : Type 0} (r : Result Scope E) (project : Project) (checked : Checked) → IfOk r (λ scope. IsFilled project checked scope) → IfOk r (λ scope. program_of scope ≡ program_in project checked.source)
scope-program r project checked f = if-ok {P = λ scope. IsFilled project checked scope} {Q = λ scope. program_of scope ≡ program_in project checked.source} r (λ scope g. sym (same-program scope project checked g)) f

-- an address of sixteen bits has room for all cells of a checked source
pub cells-short : (project : Project) (checked : Checked) → IsChecked project checked → checked.cells ≤ 65535
cells-short project checked is =
    let room = ((sound_is_faultless (program_in project checked.source)).0 is.sound).1 in
    let cells = is.inside.node.cells.1 in
    let counted = is.cells in
    omega (arith, room, cells, counted)
