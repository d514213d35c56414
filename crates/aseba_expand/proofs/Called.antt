-- The call of a native in element form is well formed: each parameter reads cells of variables, or temporaries that have been stored into.
use Rattle.std.proofs.Common.{◌≡◌, refl, sym, ◌∙◌, ap, subst, ℕ, zero, suc, ◌+◌, ◌≤◌, ◌<◌, Bool, true, false, ◌||◌, if◌then◌else◌, ℤ, pos, negsuc, List, [], ◌∷◌, ◌++◌, arith, Option, Some, None, length, map, drop, nat_lt, nat_le, nat_eq, int_lt, length-append, get_or, slice_get, unwrap_or}
use Rattle.std.specs.Prelude.{slice_index, bytes_eq, option_map}
use Rattle.std.specs.List.{list_all, list_any, range_with_len, position_or_len}
use Rattle.std.specs.Ordering.{int_eq}
use Rattle.std.proofs.Math.Seq.{drop-append_seam}
use Rattle.std.proofs.lemmas.Bool.{lt-ltb, le-leb, eq-eqb}
use Rattle.std.proofs.lemmas.Bool.Decides.{Decides-int_eq}
use Rattle.std.proofs.lemmas.List.{length-map}
use Rattle.std.proofs.lemmas.List.FromFn.{length-range_with_len}
use Rattle.std.proofs.lemmas.List.Sums.{passes_at_first}
use Rattle.std.proofs.lemmas.Option.{slice_get_within, get_or_from_slice_get}
use Rattle.std.proofs.lemmas.Slice.Eq.{bytes_eq-Decides}
use Rattle.aseba_tree.specs.Code.{Name, Expr, Exprs, no_exprs, exprs, Native, Project}
use Rattle.aseba_tree.specs.NativeName.{native_named}
use Rattle.aseba_tree.specs.State.{Program}
use Rattle.aseba_tree.specs.Step.{native_place, native_sizes}
use Rattle.aseba_tree.specs.CoreExpr.{cell}
use Rattle.aseba_tree.specs.Core.{CoreStmts, core_stmts, core_stmt, send, use_native}
use Rattle.aseba_tree.specs.CoreShape.{stands_in, is_good_list, is_good_call, is_readable, is_readable_range, sizes_of_native, are_readable_params}
use Rattle.aseba_tree.specs.Templates.{opens_template, templates, template_lengths, cells_of_param}
use Rattle.aseba_tree.specs.Elements.{elements_of}
use Rattle.aseba_tree.specs.Layout.{cells_of_variables}
use Rattle.aseba_tree.specs.Numbers.{source_room, is_own, fresh_elements, fresh_of_list, lengths, param_sizes, given_lengths}
use Rattle.aseba_expand.specs.Plain.{sent_number, own_start, argument_start, argument_starts, plain_core}
use Rattle.aseba_expand.proofs.Ready.{Grounded, GroundedList, first_length, asked, Fit}
use Rattle.aseba_expand.proofs.Good.{AreSome, GoodCall}
use Rattle.aseba_expand.proofs.Readable.{own-cells, own-range, both}

-- the last statement of an emit with an argument, and that of a call
abbrev pub sent_row : Program → (line : ℕ) → Name → Expr → CoreStmts → CoreStmts
sent_row program line name e behind =
    core_stmts (core_stmt line (send (sent_number program name) (argument_start program (cells_of_variables program) e) (length (elements_of program e)))) behind

abbrev pub called_row : Program → (line : ℕ) → Name → Exprs → CoreStmts → CoreStmts
called_row program line name es behind =
    core_stmts (core_stmt line (use_native (native_place program.project name) (argument_starts program (cells_of_variables program) es ++ given_lengths program name es))) behind

-- Goodness

abbrev pub IsGood : Program → List ℕ → CoreStmts → Type 0
IsGood program stored ss = is_good_list program.project (plain_core program) stored ss ≡ true

-- values have been stored in so many temporaries
abbrev pub Has : Program → List ℕ → ℕ → Type 0
Has program stored j = (k : ℕ) → k < j → stands_in stored (cells_of_variables program + k) ≡ true

-- Temporaries

pub temporary-readable : (program : Program) (stored : List ℕ) (j : ℕ) → j < source_room program → stands_in stored (cells_of_variables program + j) ≡ true → is_readable (plain_core program) stored (cells_of_variables program + j) ≡ true
temporary-readable program stored j less has =
    let c = cells_of_variables program in
    let inside = lt-ltb (c + j) (c + source_room program) (omega (arith, less)) in
    rw (inside, has) (by (nat_lt (c + j) c))
  where
    by : (b : Bool) → (b || true) ≡ true
    by true = refl
    by false = refl

temporaries-readable : (program : Program) (stored : List ℕ) (j n : ℕ) → j + n ≤ source_room program → Has program stored (j + n) → list_all (is_readable (plain_core program) stored) (range_with_len (cells_of_variables program + j) n) ≡ true
temporaries-readable program stored j zero room h = refl
temporaries-readable program stored j (suc n) room h =
    let up : cells_of_variables program + j + 1 ≡ cells_of_variables program + (j + 1) = omega arith in
    both (is_readable (plain_core program) stored (cells_of_variables program + j)) _ (temporary-readable program stored j (omega (arith, room)) (h j (omega arith)))
    (subst (λ a. list_all (is_readable (plain_core program) stored) (range_with_len a n) ≡ true) (sym up) (temporaries-readable program stored (j + 1) n (omega (arith, room)) (λ i less. h i (omega (arith, less)))))

-- temporaries that were stored are readable as a range
pub kept-range : (program : Program) (stored : List ℕ) (j n : ℕ) → j + n ≤ source_room program → Has program stored (j + n) → is_readable_range (plain_core program) stored (cells_of_variables program + j) n ≡ true
kept-range program stored j n room h =
    both (nat_le (cells_of_variables program + j + n) (cells_of_variables program + source_room program)) _ (le-leb (cells_of_variables program + j + n) (cells_of_variables program + source_room program) (omega (arith, room)))
    (temporaries-readable program stored j n room h)

-- Templates

same-fits : (ps qs : List ℤ) (ns ms : List ℕ) → Fit ps ns qs ms → length qs ≡ length ms
same-fits ps [] ns [] f = refl
same-fits ps [] ns (m ∷ ms) f = absurd f
same-fits ps (q ∷ qs) ns [] f = absurd f
same-fits ps (q ∷ qs) ns (m ∷ ms) f = let rest = same-fits ps qs ns ms f.1 in omega (arith, rest)

-- parameters have as many cells as their arguments
pub fit-length : (program : Program) (name : Name) (es : Exprs) → GoodCall program name es → length (native_sizes program.project name) ≡ length (lengths program es)
fit-length program name es g = same-fits (native_sizes program.project name) (native_sizes program.project name) (lengths program es) (lengths program es) g.ready.fits

-- there is a length for each template
pub given-length : (before ps : List ℤ) (ns : List ℕ) → length ps ≡ length ns → length (template_lengths before ps ns) ≡ length (templates before ps)
given-length before [] ns e = refl
given-length before (p ∷ ps) [] e = absurd (omega (arith, e))
given-length before (p ∷ ps) (n ∷ ns) e = pick (opens_template before p) (given-length (p ∷ before) ps ns (omega (arith, e))) (given-length before ps ns (omega (arith, e)))
  where
    pick : (b : Bool) → length (template_lengths (p ∷ before) ps ns) ≡ length (templates (p ∷ before) ps) → length (template_lengths before ps ns) ≡ length (templates before ps)
        → length (if b then n ∷ template_lengths (p ∷ before) ps ns else template_lengths before ps ns) ≡ length (if b then p ∷ templates (p ∷ before) ps else templates before ps)
    pick true more less = ap suc more
    pick false more less = less

eq-apart : (x y : ℤ) (b : Bool) → int_eq x y ≡ b → int_eq y x ≡ b
eq-apart x y true e = (Decides-int_eq y x).1 (sym ((Decides-int_eq x y).0 e))
eq-apart x y false e = by (int_eq y x) refl
  where
    by : (c : Bool) → int_eq y x ≡ c → int_eq y x ≡ false
    by false t = t
    by true t = let wrong : int_eq x y ≡ true = (Decides-int_eq x y).1 (sym ((Decides-int_eq y x).0 t)) in absurd (bad (sym wrong ∙ e))
      where
        bad : true ≡ false → ⊥
        bad e = cc

-- the length of a template is that of its first argument
template-length : (before ps : List ℤ) (ns : List ℕ) (t : ℤ) → int_lt t (pos 0) ≡ true → list_any (int_eq t) before ≡ false → length ps ≡ length ns
    → slice_index (template_lengths before ps ns) (position_or_len (int_eq t) (templates before ps)) ≡ first_length ps ns t
template-length before [] ns t low new e = refl
template-length before (p ∷ ps) [] t low new e = absurd (omega (arith, e))
template-length before (p ∷ ps) (n ∷ ns) t low new e = by (λ more apart. template-length more ps ns t low apart (omega (arith, e))) (int_eq t p) refl (opens_template before p) refl
  where
    opens : int_eq t p ≡ true → opens_template before p ≡ true
    opens q = let same : t ≡ p = (Decides-int_eq t p).0 q in subst (λ x. opens_template before x ≡ true) same (rw (low, new) refl)

    first : int_eq t p ≡ false → first_length (p ∷ ps) (n ∷ ns) t ≡ first_length ps ns t
    first q = rw (eq-apart t p false q) refl

    bad : false ≡ true → ⊥
    bad e = cc

    by : ((more : List ℤ) → list_any (int_eq t) more ≡ false → slice_index (template_lengths more ps ns) (position_or_len (int_eq t) (templates more ps)) ≡ first_length ps ns t)
        → (q : Bool) → int_eq t p ≡ q → (o : Bool) → opens_template before p ≡ o
        → slice_index (if o then n ∷ template_lengths (p ∷ before) ps ns else template_lengths before ps ns) (position_or_len (int_eq t) (if o then p ∷ templates (p ∷ before) ps else templates before ps)) ≡ first_length (p ∷ ps) (n ∷ ns) t
    by rest true eq true eo = rw (eq, eq-apart t p true eq) refl
    by rest true eq false eo = absurd (bad (sym eo ∙ opens eq))
    by rest false eq true eo =
        let up : 1 + position_or_len (int_eq t) (templates (p ∷ before) ps) ≡ suc (position_or_len (int_eq t) (templates (p ∷ before) ps)) = omega arith in
        let more : list_any (int_eq t) (p ∷ before) ≡ false = rw eq new in
        rw eq (ap (slice_index (n ∷ template_lengths (p ∷ before) ps ns)) up ∙ rest (p ∷ before) more ∙ sym (first eq))
    by rest false eq false eo = rest before new ∙ sym (first eq)

-- a parameter has the cells that it asks for
cells-asked : (ps : List ℤ) (ns : List ℕ) (p : ℤ) → length ps ≡ length ns → cells_of_param (templates [] ps) (template_lengths [] ps ns) p ≡ asked ps ns p
cells-asked ps ns (pos n) e = refl
cells-asked ps ns (negsuc n) e = template-length [] ps ns (negsuc n) refl refl e

-- each number in a list is 1 at least
abbrev AllSome : List ℕ → Type 0
AllSome [] = Unit {0}
AllSome (n ∷ ns) = (1 ≤ n) × AllSome ns

lengths-some : (program : Program) (es : Exprs) → AreSome program es → AllSome (lengths program es)
lengths-some program no_exprs g = tt
lengths-some program (exprs e es) g = (g.0, lengths-some program es g.1)

given-some : (before ps : List ℤ) (ns : List ℕ) → AllSome ns → list_all (nat_lt 0) (template_lengths before ps ns) ≡ true
given-some before [] ns g = refl
given-some before (p ∷ ps) [] g = refl
given-some before (p ∷ ps) (n ∷ ns) g = pick (opens_template before p) (given-some (p ∷ before) ps ns g.1) (given-some before ps ns g.1)
  where
    pick : (b : Bool) → list_all (nat_lt 0) (template_lengths (p ∷ before) ps ns) ≡ true → list_all (nat_lt 0) (template_lengths before ps ns) ≡ true
        → list_all (nat_lt 0) (if b then n ∷ template_lengths (p ∷ before) ps ns else template_lengths before ps ns) ≡ true
    pick true more less = rw (lt-ltb 0 n g.0) more
    pick false more less = less

-- Arguments

pub starts-length : (program : Program) (t : ℕ) (es : Exprs) → length (argument_starts program t es) ≡ length (lengths program es)
starts-length program t no_exprs = refl
starts-length program t (exprs e es) = ap suc (starts-length program (t + length (fresh_elements program e)) es)

argument-readable : (program : Program) (stored : List ℕ) (j : ℕ) (e : Expr) (own : Bool) → is_own program e ≡ own → Grounded program e → j + length (if own then [] else elements_of program e) ≤ source_room program
    → Has program stored (j + length (if own then [] else elements_of program e)) → is_readable_range (plain_core program) stored (if own then own_start program e else cells_of_variables program + j) (length (elements_of program e)) ≡ true
argument-readable program stored j e true o g room h =
    let w = own-cells program e o g in
    let count : length (elements_of program e) ≡ w.count = ap length w.found ∙ length-map (range_with_len (own_start program e) w.count) cell ∙ length-range_with_len (own_start program e) w.count in
    let inside = w.inside in own-range program stored (own_start program e) (length (elements_of program e)) (omega (arith, inside, count))
argument-readable program stored j e false o g room h = kept-range program stored j (length (elements_of program e)) room h

-- the parameters read what the arguments have, where so many temporaries are in use before them
params-readable : (program : Program) (stored : List ℕ) (all : List ℤ) (sizes : List ℕ) (behind : List ℕ) (qs : List ℤ) (es : Exprs) (j : ℕ) → length all ≡ length sizes → Fit all sizes qs (lengths program es) → GroundedList program es
    → j + length (fresh_of_list program es) ≤ source_room program → Has program stored (j + length (fresh_of_list program es))
    → are_readable_params (plain_core program) stored (templates [] all) (template_lengths [] all sizes) qs (argument_starts program (cells_of_variables program + j) es ++ behind) ≡ true
params-readable program stored all sizes behind [] es j n f g room h = refl
params-readable program stored all sizes behind (q ∷ qs) no_exprs j n f g room h = absurd f
params-readable program stored all sizes behind (q ∷ qs) (exprs e es) j n f g room h =
    let own = fresh_elements program e in
    let more = fresh_of_list program es in
    let sum = length-append own more in
    let next : cells_of_variables program + j + length own ≡ cells_of_variables program + (j + length own) = omega arith in
    let here = argument-readable program stored j e (is_own program e) refl g.0 (omega (arith, room, sum)) (λ i less. h i (omega (arith, less, sum))) in
    let count : cells_of_param (templates [] all) (template_lengths [] all sizes) q ≡ length (elements_of program e) = cells-asked all sizes q n ∙ f.0 in
    let rest = params-readable program stored all sizes behind qs es (j + length own) n f.1 g.1 (omega (arith, room, sum)) (λ i less. h i (omega (arith, less, sum))) in
    both _ _ (subst (λ m. is_readable_range (plain_core program) stored (argument_start program (cells_of_variables program + j) e) m ≡ true) (sym count) here)
    (subst (λ a. are_readable_params (plain_core program) stored (templates [] all) (template_lengths [] all sizes) qs (argument_starts program a es ++ behind) ≡ true) (sym next) rest)

-- the place of a name is that of the first native of the name
named-first : (project : Project) (name : Name) (native : Native) → slice_get project.node.natives (native_place project name) ≡ Some native
    → native_place project (native_named project (native_place project name)) ≡ native_place project name
named-first project name native found =
    let natives : List Native = project.node.natives in
    let inside : native_place project name < length natives = slice_get_within natives (native_place project name) native found in
    let here : get_or natives (native_place project name) native ≡ native = get_or_from_slice_get natives (native_place project name) native native found in
    let passes : bytes_eq native.name name ≡ true = ap (λ (n : Native). bytes_eq n.name name) (sym here) ∙ passes_at_first (λ (n : Native). bytes_eq n.name name) natives native inside in
    let same : native.name ≡ name = (bytes_eq-Decides native.name name).0 passes in
    ap (λ (o : Option Native). native_place project (unwrap_or (option_map (λ n. n.name) o) [])) found ∙ ap (native_place project) same

-- the sizes of the parameters of the native at the place of a name
pub sizes-found : (program : Program) (name : Name) (es : Exprs) → GoodCall program name es → sizes_of_native program.project (native_place program.project name) ≡ Some (native_sizes program.project name)
sizes-found program name es g =
    let place : ℕ = native_place program.project name in
    let first : nat_eq (native_place program.project (native_named program.project place)) place ≡ true =
    eq-eqb (native_place program.project (native_named program.project place)) place (named-first program.project name g.native g.found) in
    ap (λ b. if b then option_map (λ (n : Native). map (λ p. p.size) n.params) (slice_get program.project.node.natives place) else None) first ∙ rw g.found refl

-- those that are found by the name itself are the same
pub same-sizes : (program : Program) (name : Name) (es : Exprs) → GoodCall program name es → param_sizes program.project name ≡ native_sizes program.project name
same-sizes program name es g = rw g.found g.sizes

pub call-is-good : (program : Program) (name : Name) (es : Exprs) (stored : List ℕ) → GoodCall program name es → Has program stored (length (fresh_of_list program es))
    → is_good_call (plain_core program) stored (sizes_of_native program.project (native_place program.project name)) (argument_starts program (cells_of_variables program) es ++ given_lengths program name es) ≡ true
call-is-good program name es stored g h =
    let ps = native_sizes program.project name in
    let ns = lengths program es in
    let starts = argument_starts program (cells_of_variables program) es in
    let given = template_lengths [] ps ns in
    let count = fit-length program name es g in
    let begins : length starts ≡ length ps = starts-length program (cells_of_variables program) es ∙ sym count in
    let dropped : drop (length ps) (starts ++ given) ≡ given = ap (λ n. drop n (starts ++ given)) (sym begins) ∙ drop-append_seam starts given in
    let total : length (starts ++ given) ≡ length ps + length (templates [] ps) = (let a = length-append starts given in let b = given-length [] ps ns count in omega (arith, a, b, begins)) in
    let none : cells_of_variables program + 0 ≡ cells_of_variables program = omega arith in
    let reads = params-readable program stored ps ns given ps es 0 count g.ready.fits g.ready.grounded (let r = g.ready.room in omega (arith, r)) (λ i less. h i (omega (arith, less))) in
    rw (sizes-found program name es g, same-sizes program name es g, dropped, eq-eqb (length (starts ++ given)) (length ps + length (templates [] ps)) total, given-some [] ps ns (lengths-some program es g.some))
    (subst (λ a. are_readable_params (plain_core program) stored (templates [] ps) given ps (argument_starts program a es ++ given) ≡ true) none reads)
