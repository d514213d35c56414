-- Calls of natives, on both sides.
use Rattle.std.proofs.Common.{◌≡◌, refl, sym, ◌∙◌, ap, subst, ℕ, zero, suc, ◌+◌, ◌≤◌, true, false, Bool, if◌then◌else◌, ℤ, pos, negsuc, List, [], ◌∷◌, arith, Option, Some, None, length, MatchOption, nat_lt, ltb-true, slice_get, slice_index_or, ◌&&◌, option_map, unwrap_or, Result, Ok, Err, map, take, ◌++◌}
use Rattle.std.specs.List.{range_with_len}
use Rattle.std.specs.Prelude.{int_lt, bytes_eq}
use Rattle.std.proofs.Math.Seq.{take-append_seam}
use Rattle.std.proofs.lemmas.List.{length-map, get_or-append-add}
use Rattle.std.proofs.lemmas.List.Folds.{find_at}
use Rattle.aseba_words.specs.Natives.{native_run, native_params, native_numbered, param_cells, sizes}
use Rattle.aseba_words.specs.declared.native.Native.{Native}
use Rattle.aseba_words.specs.declared.native.Native.TheVariants.{Copy, Fill, AddScalar, Add, Sub, Mul, Div, Min, Max, Clamp, Dot, MulDiv, Stat, ArgBounds}
use Rattle.aseba_natives.proofs.Alike.{AllCover, native-alike}
use Rattle.aseba_tree.specs.Code.{Name, Place, Exprs, Project, call}
use Rattle.aseba_tree.specs.CoreExpr.{core_value}
use Rattle.aseba_tree.specs.CoreStep.{CoreTask, CoreState, CoreStepped, perform_core, core_first_done, core_native, core_after_native, core_stopped, core_going_on, put_from}
use Rattle.aseba_tree.specs.Layout.{cells_of_variables}
use Rattle.aseba_tree.specs.Numbers.{param_sizes, given_lengths, lengths, fresh_of_list}
use Rattle.aseba_tree.specs.Run.{Knows}
use Rattle.aseba_tree.specs.State.{Program, State, Task}
use Rattle.aseba_tree.specs.Step.{Argument, Store, get, put_in, template_length, reached, arguments, argument_sizes, native_place, native_sizes, native_done, after_native, called, performed, IsKnown, going_on, stopped}
use Rattle.aseba_tree.specs.Templates.{template_lengths}
use Rattle.aseba_tree.specs.Value.{Stop, by_zero, first_stop}
use Rattle.aseba_expand.specs.Plain.{plain_program, argument_starts}
use Rattle.aseba_expand.proofs.Alike.{SteppedAlike}
use Rattle.aseba_expand.proofs.ArgumentLaws.{SameStore, Covers, look, set_at, reads-alike, stores-alike, Stands, stands-length}
use Rattle.aseba_expand.proofs.Assigned.{put_from-length, put_from-at, stop-length}
use Rattle.aseba_expand.proofs.Ends.{twin, Sturdy, alike-twin, stopped-alike}
use Rattle.aseba_expand.proofs.Kept.{kept-run, KeptRun}
use Rattle.aseba_expand.proofs.Passed.{fresh_values, fresh-alike, Passed, all-passed, sizes-alike}
use Rattle.aseba_expand.proofs.Ready.{first_length, asked, Fit, ReadyCall, ReadyTasks}
use Rattle.aseba_expand.proofs.Steps.{settled}
use Rattle.aseba_expand.proofs.Tasks.{work_core, kept_tasks, native_call, form_tasks}
use Rattle.aseba_expand.proofs.Values.{with_room}

-- Parameters

-- the size of a known native's parameter: a number of cells, or the one template
abbrev IsParam : ℤ → Type 0
IsParam (pos n) = Unit {0}
IsParam (negsuc zero) = Unit {0}
IsParam (negsuc (suc n)) = ⊥

abbrev AreParams : List ℤ → Type 0
AreParams [] = Unit {0}
AreParams (p ∷ ps) = IsParam p × AreParams ps

known-params : (native : Native) → AreParams (sizes native)
known-params Copy = (tt, (tt, tt))
known-params Fill = (tt, (tt, tt))
known-params AddScalar = (tt, (tt, (tt, tt)))
known-params Add = (tt, (tt, (tt, tt)))
known-params Sub = (tt, (tt, (tt, tt)))
known-params Mul = (tt, (tt, (tt, tt)))
known-params Div = (tt, (tt, (tt, tt)))
known-params Min = (tt, (tt, (tt, tt)))
known-params Max = (tt, (tt, (tt, tt)))
known-params Clamp = (tt, (tt, (tt, (tt, tt))))
known-params Dot = (tt, (tt, (tt, (tt, tt))))
known-params MulDiv = (tt, (tt, (tt, (tt, tt))))
known-params Stat = (tt, (tt, (tt, (tt, tt))))
known-params ArgBounds = (tt, (tt, (tt, tt)))

not-below : (m : ℕ) → int_lt (pos m) (pos 0) ≡ false
not-below m = by (nat_lt m 0) refl
  where
    by : (b : Bool) → nat_lt m 0 ≡ b → b ≡ false
    by true e = absurd (let less = ltb-true m 0 e in omega (arith, less))
    by false e = refl

-- the one template's length is that of the first parameter with a number below 0
first-template : (ps : List ℤ) (ns : List ℕ) → AreParams ps → first_length ps ns (negsuc 0) ≡ template_length ps ns
first-template [] ns h = refl
first-template (p ∷ ps) [] h = refl
first-template (pos m ∷ ps) (n ∷ ns) h = rw (not-below m) (first-template ps ns h.1)
first-template (negsuc zero ∷ ps) (n ∷ ns) h = refl
first-template (negsuc (suc k) ∷ ps) (n ∷ ns) h = absurd h.0

-- the first length that a call gives to its templates is the length of its first template
given-first : (ps : List ℤ) (ns : List ℕ) → slice_index_or (template_lengths [] ps ns) 0 0 ≡ template_length ps ns
given-first [] ns = refl
given-first (p ∷ ps) [] = refl
given-first (p ∷ ps) (n ∷ ns) = by (int_lt p (pos 0)) (given-first ps ns)
  where
    by : (b : Bool) → slice_index_or (template_lengths [] ps ns) 0 0 ≡ template_length ps ns
        → slice_index_or (if b && true then n ∷ template_lengths (p ∷ []) ps ns else template_lengths [] ps ns) 0 0 ≡ (if b then n else template_length ps ns)
    by true e = refl
    by false e = e

-- a parameter has no more cells than its argument
param-covers : (ps : List ℤ) (ns : List ℕ) (p : ℤ) (m : ℕ) → AreParams ps → IsParam p → asked ps ns p ≡ m → param_cells (template_length ps ns) p ≤ m
param-covers ps ns (pos n) m all is e = omega (arith, e)
param-covers ps ns (negsuc zero) m all is e = let same = first-template ps ns all in omega (arith, e, same)
param-covers ps ns (negsuc (suc n)) m all is e = absurd is

abbrev CallCovers : Program → (ns starts : List ℕ) → (len : ℕ) → List ℤ → List ℕ → List ℕ → Type 0
CallCovers program ns starts len ps rs qs = AllCover get put_in look set_at (SameStore program ns starts) (Covers ns starts) (reads-alike program ns starts) (stores-alike program ns starts) len ps rs qs

-- the arguments from one on cover their parameters
covers-from : (program : Program) (ps : List ℤ) (ns starts : List ℕ) → AreParams ps → (i : ℕ) (qs : List ℤ) (ms as_too : List ℕ) → AreParams qs → Fit ps ns qs ms → length ms ≡ length as_too
    → ((k : ℕ) → slice_get ns (i + k) ≡ slice_get ms k) → ((k : ℕ) → slice_get starts (i + k) ≡ slice_get as_too k)
    → CallCovers program ns starts (template_length ps ns) qs (range_with_len i (length as_too)) as_too
covers-from program ps ns starts all i [] [] [] are fit same counts places = tt
covers-from program ps ns starts all i [] [] (a ∷ as_too) are fit same counts places = absurd (omega (arith, same))
covers-from program ps ns starts all i (q ∷ qs) (m ∷ ms) [] are fit same counts places = absurd (omega (arith, same))
covers-from program ps ns starts all i (q ∷ qs) (m ∷ ms) (a ∷ as_too) are fit same counts places =
    let none : i + 0 ≡ i = omega arith in (
      (
        m,
        ap (slice_get starts) (sym none) ∙ places 0,
        ap (slice_get ns) (sym none) ∙ counts 0,
        param-covers ps ns q m all are.0 fit.0,
      ),
      covers-from program ps ns starts all (i + 1) qs ms as_too are.1 fit.1 (omega (arith, same))
          (λ k. let up : i + 1 + k ≡ i + suc k = omega arith in ap (slice_get ns) up ∙ counts (suc k))
          (λ k. let up : i + 1 + k ≡ i + suc k = omega arith in ap (slice_get starts) up ∙ places (suc k)),
    )
covers-from program ps ns starts all i qs ms as_too are fit same counts places = absurd fit

-- Known natives

-- what is known of a native: it is one of those that there are, and these are its parameters
known-native : (id : ℕ) (ps : List ℤ) → native_params id ≡ Some ps → (native : Native) × (native_numbered id ≡ Some native) × (sizes native ≡ ps)
known-native id ps e = by (native_numbered id) refl e
  where
    by : (o : Option Native) → native_numbered id ≡ o → option_map sizes o ≡ Some ps → (native : Native) × (native_numbered id ≡ Some native) × (sizes native ≡ ps)
    by None f e = cc
    by (Some native) f e = (native, f, ap (λ o. unwrap_or o []) e)

-- a native on both sides
native-same : (program : Program) (id : ℕ) (ps : List ℤ) (ns starts : List ℕ) (args : List Argument) (store : Store) (cells : List ℤ) → native_params id ≡ Some ps → Fit ps ns ps ns
    → (length args ≡ length starts) × (length ns ≡ length starts) → SameStore program ns starts store cells
    → ((native_run get put_in id (range_with_len 0 (length args)) (template_length ps ns) store).0 ≡ (native_run look set_at id starts (template_length ps ns) cells).0)
    × SameStore program ns starts (native_run get put_in id (range_with_len 0 (length args)) (template_length ps ns) store).1 (native_run look set_at id starts (template_length ps ns) cells).1
native-same program id ps ns starts args store cells known fit long h =
    let native = known-native id ps known in
    let are : AreParams ps = subst AreParams native.2 (known-params native.0) in
    let none : (k : ℕ) → 0 + k ≡ k = λ k. omega arith in
    let covers : CallCovers program ns starts (template_length ps ns) ps (range_with_len 0 (length starts)) starts =
    covers-from program ps ns starts are 0 ps ns starts are fit long.1 (λ k. ap (slice_get ns) (none k)) (λ k. ap (slice_get starts) (none k)) in
    let covers_args : CallCovers program ns starts (template_length ps ns) (sizes native.0) (range_with_len 0 (length args)) starts =
    subst (λ l. CallCovers program ns starts (template_length ps ns) l (range_with_len 0 (length args)) starts) (sym native.2)
    (subst (λ n. CallCovers program ns starts (template_length ps ns) ps (range_with_len 0 n) starts) (sym long.0) covers) in
    native-alike get put_in look set_at (SameStore program ns starts) (Covers ns starts) (reads-alike program ns starts) (stores-alike program ns starts)
    id (range_with_len 0 (length args)) starts (template_length ps ns)
    (subst (λ o. MatchOption o (Unit {0}) (λ native. CallCovers program ns starts (template_length ps ns) (sizes native) (range_with_len 0 (length args)) starts)) (sym native.1) covers_args)
    store cells h

fit-length : (ps : List ℤ) (ns : List ℕ) (qs : List ℤ) (ms : List ℕ) → Fit ps ns qs ms → length qs ≡ length ms
fit-length ps ns [] [] h = refl
fit-length ps ns (q ∷ qs) (m ∷ ms) h = ap suc (fit-length ps ns qs ms h.1)
fit-length ps ns qs ms h = absurd h

-- the element form's native reads its addresses and the first template's length
core-native : (id : ℕ) (ps : List ℤ) (starts given : List ℕ) (len : ℕ) (cells : List ℤ) → native_params id ≡ Some ps → length ps ≡ length starts → slice_index_or given 0 0 ≡ len
    → core_native id (starts ++ given) cells ≡ native_run look set_at id starts len cells
core-native id ps starts given len cells known long first =
    let none : length starts ≡ length starts + 0 = omega arith in
    ap (λ o. native_run look set_at id (take (length (unwrap_or o [])) (starts ++ given)) (slice_index_or (starts ++ given) (length (unwrap_or o [])) 0) cells) known
    ∙ ap (λ n. native_run look set_at id (take n (starts ++ given)) (slice_index_or (starts ++ given) n 0) cells) long
    ∙ ap (λ l. native_run look set_at id l (slice_index_or (starts ++ given) (length starts) 0) cells) (take-append_seam starts given)
    ∙ ap (λ n. native_run look set_at id starts n cells) (ap (λ i. slice_index_or (starts ++ given) i 0) none ∙ get_or-append-add starts given 0 0 ∙ first)

same-params : (project : Project) (name : Name) → param_sizes project name ≡ native_sizes project name
same-params project name = ap (λ o. unwrap_or (option_map (λ native. map (λ p. p.size) native.params) o) []) (find_at (λ native. bytes_eq native.name name) project.node.natives)

-- what follows a native, on both sides
after-alike : (program : Program) (s : State) (temporaries : List ℤ) (held_behind : List (Option ℤ)) (rest : List Task) (line : ℕ) (ns starts : List ℕ) (a : Bool × Store) (b : Bool × List ℤ)
    → Sturdy program s temporaries → ReadyTasks program rest → a.0 ≡ b.0 → SameStore program ns starts a.1 b.1
    → SteppedAlike program (after_native line (record s { work = rest }) a) (core_after_native line (twin s temporaries held_behind (work_core program rest)) b)
after-alike program s temporaries held_behind rest line ns starts a b h g same stores = pick a.0 b.0 same
  where
    t : State
    t = record s { cells = (a.1).0; work = rest }

    sturdy : Sturdy program t stores.temporaries
    sturdy = record { laid = stores.laid; held_laid = h.held_laid; room = stores.long }

    c : CoreState
    c = record (twin s temporaries held_behind (work_core program rest)) { cells = b.1 }

    core : c ≡ twin t stores.temporaries held_behind (work_core program rest)
    core = ap (λ l. record (twin s temporaries held_behind (work_core program rest)) { cells = l }) stores.is

    pick : (x y : Bool) → x ≡ y → SteppedAlike program (if x then stopped line t by_zero else going_on t []) (if y then core_stopped line c by_zero else core_going_on c [])
    pick true true e = subst (λ x. SteppedAlike program (stopped line t by_zero) (core_stopped line x by_zero)) (sym core) (stopped-alike program t stores.temporaries held_behind (work_core program rest) line by_zero sturdy)
    pick false false e = subst (λ x. SteppedAlike program (going_on t []) (core_going_on x [])) (sym core) (record { states = alike-twin program t stores.temporaries held_behind (work_core program rest) sturdy (settled program stores.temporaries rest g); reports = refl })
    pick true false e = cc
    pick false true e = cc

-- what is done once the elements of arguments were kept
call-kept : (program : Program) (s : State) (temporaries : List ℤ) (held_behind : List (Option ℤ)) (work : List CoreTask) (rest : List Task) (line before : ℕ) (name : Name) (es : Exprs) (result : CoreStepped) (r : Result (List ℤ) Stop)
    → Sturdy program s temporaries → ReadyCall program name es → ReadyTasks program rest → Knows (IsKnown program.project) (reached name (arguments program.project.consts s.cells es))
    → Passed program s.cells es r → ((values : List ℤ) → r ≡ Ok values → length values ≡ length (fresh_of_list program es))
    → KeptRun (plain_program program) line s.cells (twin s temporaries held_behind work) 0 temporaries (perform_core before (native_call program line name es) ∷ work_core program rest) result r
    → SteppedAlike program (called program.project line (record s { work = rest }) name (arguments program.project.consts s.cells es) (argument_sizes program.project.consts s.cells es)) result
call-kept program s temporaries held_behind work rest line before name es result (Err stop) h g k known passed long run =
    rw (passed, run.2) (stopped-alike program (record s { work = rest }) run.0 held_behind work line stop (record { laid = h.laid; held_laid = h.held_laid; room = run.1 ∙ h.room }))
call-kept program s temporaries held_behind work rest line before name es result (Ok values) h g k known passed long run =
    let project = program.project in
    let id = native_place project name in
    let ps = native_sizes project name in
    let ns = lengths program es in
    let starts = argument_starts program (cells_of_variables program) es in
    let args = passed.0 in
    let more = put_from temporaries 0 values in
    let none : cells_of_variables program + 0 ≡ cells_of_variables program = omega arith in
    let kept_length = put_from-length temporaries 0 values in
    let room : 0 + length values ≤ length more = (let size = long values refl in omega (arith, size, g.room, h.room, kept_length)) in
    let room_too : 0 + length values ≤ length temporaries = (let size = long values refl in omega (arith, size, g.room, h.room)) in
    let stands : Stands program 0 ns starts args more =
    subst (λ n. Stands program 0 ns (argument_starts program n es) args more) none (passed.2 0 more room (λ i less. put_from-at temporaries 0 values i less room_too)) in
    let sturdy : Sturdy program s more = record { laid = h.laid; held_laid = h.held_laid; room = kept_length ∙ h.room } in
    let store : SameStore program ns starts (s.cells, args) (with_room s.cells more) = record { temporaries = more; is = refl; laid = h.laid; long = kept_length ∙ h.room; stands = stands } in
    let is_known : native_params id ≡ Some ps = known name (ap (reached name) passed.1) in
    let lens = stands-length program 0 ns starts args more stands in
    let both = native-same program id ps ns starts args (s.cells, args) (with_room s.cells more) is_known g.fits lens store in
    let first : slice_index_or (given_lengths program name es) 0 0 ≡ template_length ps ns = ap (λ l. slice_index_or (template_lengths [] l ns) 0 0) (same-params project name) ∙ given-first ps ns in
    let core : core_native id (starts ++ given_lengths program name es) (with_room s.cells more) ≡ native_run look set_at id starts (template_length ps ns) (with_room s.cells more) =
    core-native id ps starts (given_lengths program name es) (template_length ps ns) (with_room s.cells more) is_known (fit-length ps ns ps ns g.fits ∙ lens.1) first in
    let source : native_done project s.cells name args (argument_sizes project.consts s.cells es) ≡ native_run get put_in id (range_with_len 0 (length args)) (template_length ps ns) (s.cells, args) =
    ap (native_done project s.cells name args) (sizes-alike program s.cells es h.laid g.grounded) in
    let after : SteppedAlike program (after_native line (record s { work = rest }) (native_done project s.cells name args (argument_sizes project.consts s.cells es)))
    (core_after_native line (twin s more held_behind (work_core program rest)) (core_native id (starts ++ given_lengths program name es) (with_room s.cells more))) =
    rw (source, core) (after-alike program s more held_behind rest line ns starts (native_run get put_in id (range_with_len 0 (length args)) (template_length ps ns) (s.cells, args))
    (native_run look set_at id starts (template_length ps ns) (with_room s.cells more)) sturdy k both.0 both.1) in
    rw (passed.1, run) after

pub call-alike : (program : Program) (s : State) (temporaries : List ℤ) (held_behind : List (Option ℤ)) (work : List CoreTask) (rest : List Task) (line before : ℕ) (place : Place) (name : Name) (es : Exprs)
    → Sturdy program s temporaries → ReadyCall program name es → ReadyTasks program rest → Knows (IsKnown program.project) (reached name (arguments program.project.consts s.cells es))
    → SteppedAlike program (performed program (record s { work = rest }) before line place (call name es)) (core_first_done (plain_program program) (twin s temporaries held_behind work) (form_tasks program before line (call name es) (work_core program rest)))
call-alike program s temporaries held_behind work rest line before place name es h g k known =
    let fs = fresh_of_list program es in
    let vs = fresh_values program s.cells es in
    let none : cells_of_variables program + 0 ≡ cells_of_variables program = omega arith in
    let after = perform_core before (native_call program line name es) ∷ work_core program rest in
    let run = kept-run program s.cells line fs 0 before after (twin s temporaries held_behind work) temporaries vs h.laid (λ t. fresh-alike program s.cells t es h.laid g.grounded) in
    let size : length vs ≡ length fs = sym (ap length (fresh-alike program s.cells temporaries es h.laid g.grounded)) ∙ length-map fs (core_value (with_room s.cells temporaries)) in
    subst (λ n. SteppedAlike program (called program.project line (record s { work = rest }) name (arguments program.project.consts s.cells es) (argument_sizes program.project.consts s.cells es))
    (core_first_done (plain_program program) (twin s temporaries held_behind work) (kept_tasks before line n fs after))) none
    (call-kept program s temporaries held_behind work rest line before name es _ (first_stop vs) h g k known (all-passed program s.cells es h.laid g.grounded) (λ values f. stop-length vs values f ∙ size) run)
