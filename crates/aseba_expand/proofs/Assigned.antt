-- Assignments, on both sides.
use Rattle.std.proofs.Common.{◌≡◌, refl, sym, ◌∙◌, ap, subst, ℕ, zero, suc, ◌+◌, ◌≤◌, ◌<◌, ℤ, pos, List, [], ◌∷◌, ◌++◌, arith, Option, Some, length, map}
use Rattle.std.specs.List.{range_with_len}
use Rattle.std.specs.Prelude.{◌≢◌, Result, Ok, Err, slice_index_or, slice_set, zip}
use Rattle.std.proofs.lemmas.List.{length-map, get_or-append-add, length-set, get_or-set_same, get_or-set_other}
use Rattle.aseba_tree.specs.Code.{Name}
use Rattle.aseba_tree.specs.Core.{core_stmt, store}
use Rattle.aseba_tree.specs.CoreExpr.{CoreExpr, cell, into, into_index, core_value}
use Rattle.aseba_tree.specs.CoreStep.{CoreStepped, CoreTask, perform_core, core_first_done, put_from, core_storing}
use Rattle.aseba_tree.specs.Elements.{variable_place}
use Rattle.aseba_tree.specs.Layout.{variables, cells_of_variables}
use Rattle.aseba_tree.specs.State.{Program, State, Task, put}
use Rattle.aseba_tree.specs.Step.{stored, storing, assigned}
use Rattle.aseba_tree.specs.Value.{Stop, Element, and_then, first_stop, place_among}
use Rattle.aseba_expand.specs.Expands.{all_cells_of}
use Rattle.aseba_expand.specs.Plain.{plain_program}
use Rattle.aseba_expand.proofs.Alike.{SteppedAlike, WorkAlike}
use Rattle.aseba_expand.proofs.Ends.{twin, Sturdy, alike-twin, with-work, stopped-alike}
use Rattle.aseba_expand.proofs.Kept.{laid-length, kept-run, KeptRun}
use Rattle.aseba_expand.proofs.Ready.{ReadyTasks, HasRoom}
use Rattle.aseba_expand.proofs.Steps.{settled}
use Rattle.aseba_expand.proofs.StoreLaws.{place_of, core-store, stored-sturdy}
use Rattle.aseba_expand.proofs.Tasks.{work_core, kept_tasks, moved_tasks, stored_tasks}
use Rattle.aseba_expand.proofs.Values.{with_room, place-inside}

-- Temporaries that have been put

pub put_from-length : (t : List ℤ) (j : ℕ) (vs : List ℤ) → length (put_from t j vs) ≡ length t
put_from-length t j [] = refl
put_from-length t j (v ∷ vs) = put_from-length (slice_set t j v) (suc j) vs ∙ length-set t j v

put_from-below : (t : List ℤ) (j : ℕ) (vs : List ℤ) (k : ℕ) → k < j → slice_index_or (put_from t j vs) k (pos 0) ≡ slice_index_or t k (pos 0)
put_from-below t j [] k h = refl
put_from-below t j (v ∷ vs) k h = put_from-below (slice_set t j v) (suc j) vs k (omega (arith, h)) ∙ get_or-set_other t j k v (pos 0) (let ne : k ≢ j = omega (arith, h) in ne)

pub put_from-at : (t : List ℤ) (j : ℕ) (vs : List ℤ) (k : ℕ) → k < length vs → j + length vs ≤ length t → slice_index_or (put_from t j vs) (j + k) (pos 0) ≡ slice_index_or vs k (pos 0)
put_from-at t j [] k h room = absurd (omega (arith, h))
put_from-at t j (v ∷ vs) zero h room =
    let e : j + 0 ≡ j = omega arith in
    ap (λ n. slice_index_or (put_from (slice_set t j v) (suc j) vs) n (pos 0)) e ∙ put_from-below (slice_set t j v) (suc j) vs j (omega arith) ∙ get_or-set_same t j v (pos 0) (let short : j < length t = omega (arith, room) in short)
put_from-at t j (v ∷ vs) (suc k) h room =
    let e : j + suc k ≡ suc j + k = omega arith in
    ap (λ n. slice_index_or (put_from (slice_set t j v) (suc j) vs) n (pos 0)) e ∙ put_from-at (slice_set t j v) (suc j) vs k (omega (arith, h)) (omega (arith, room, length-set t j v))

pub stop-length : (vs : List Element) (values : List ℤ) → first_stop vs ≡ Ok values → length values ≡ length vs
stop-length [] values e = let same : [] ≡ values = cc in ap length (sym same)
stop-length (Err s ∷ vs) values e = cc
stop-length (Ok v ∷ vs) values e = by (first_stop vs) (λ rest f. stop-length vs rest f) refl e
  where
    by : (r : Result (List ℤ) Stop) → ((rest : List ℤ) → first_stop vs ≡ Ok rest → length rest ≡ length vs) → first_stop vs ≡ r → and_then r (λ rest. Ok (v ∷ rest)) ≡ Ok values → length values ≡ suc (length vs)
    by (Err s) deeper f e = cc
    by (Ok rest) deeper f e =
        let same : v ∷ rest ≡ values = cc in
        ap length (sym same) ∙ (let inner = deeper rest f in omega (arith, inner))

-- Vectors

-- the places lie in a variable of so many cells
abbrev pub Below : ℕ → List ℕ → Type 0
Below n [] = Unit {0}
Below n (p ∷ ps) = (p < n) × Below n ps

pub range-below : (n c count : ℕ) → c + count ≤ n → Below n (range_with_len c count)
range-below n c zero h = tt
range-below n c (suc count) h = (omega (arith, h), range-below n (c + 1) count (omega (arith, h)))

abbrev pub put_one : (line : ℕ) → Name → ℕ × ℤ → Task
put_one line name q = put line name q.0 q.1

-- each computed cell that is to be stored waits in its temporary
pub puts-alike : (program : Program) (temporaries : List ℤ) (line : ℕ) (name : Name) (a n : ℕ) (ps : List ℕ) (vs : List ℤ) (k before : ℕ) (rest : List Task)
    → variable_place program name ≡ Some (a, n) → Below n ps → length ps ≡ length vs → k + length vs ≤ length temporaries
    → ((i : ℕ) → i < length vs → slice_index_or temporaries (k + i) (pos 0) ≡ slice_index_or vs i (pos 0)) → ReadyTasks program rest
    → WorkAlike program temporaries (map (put_one line name) (zip ps vs) ++ rest) (moved_tasks before line (cells_of_variables program + k) (map (λ p. a + p) ps) (work_core program rest))
puts-alike program temporaries line name a n [] [] k before rest at inside same room reads g = settled program temporaries rest g
puts-alike program temporaries line name a n [] (v ∷ vs) k before rest at inside same room reads g = absurd (omega (arith, same))
puts-alike program temporaries line name a n (p ∷ ps) [] k before rest at inside same room reads g = absurd (omega (arith, same))
puts-alike program temporaries line name a n (p ∷ ps) (v ∷ vs) k before rest at inside same room reads g =
    let first : slice_index_or temporaries k (pos 0) ≡ v = (let e : k + 0 ≡ k = omega arith in let z : 0 < suc (length vs) = omega arith in subst (λ m. slice_index_or temporaries m (pos 0) ≡ v) e (reads 0 z)) in
    let up : suc (cells_of_variables program + k) ≡ cells_of_variables program + suc k = omega arith in
    record {
      before = before;
      k = k;
      base = a;
      size = n;
      rest = moved_tasks before line (suc (cells_of_variables program + k)) (map (λ p. a + p) ps) (work_core program rest);
      at = at;
      inside = inside.0;
      kept = omega (arith, room);
      value = first;
      first = refl;
      behind = rw up (puts-alike program temporaries line name a n ps vs (suc k) before rest at inside.1 (omega (arith, same)) (omega (arith, room))
          (λ i less. let e : suc k + i ≡ k + suc i = omega arith in let more : suc i < suc (length vs) = omega (arith, less) in subst (λ m. slice_index_or temporaries m (pos 0) ≡ slice_index_or vs i (pos 0)) (sym e) (reads (suc i) more)) g);
    }

-- the state after the first store of a vector, on both sides
vector-stored : (program : Program) (s : State) (temporaries : List ℤ) (held_behind : List (Option ℤ)) (work : List CoreTask) (rest : List Task) (line before : ℕ) (name : Name) (a n p : ℕ) (ps : List ℕ) (v : ℤ) (vs : List ℤ)
    → Sturdy program s temporaries → variable_place program name ≡ Some (a, n) → Below n (p ∷ ps) → length ps ≡ length vs → suc (length vs) ≤ length temporaries
    → ((i : ℕ) → i < suc (length vs) → slice_index_or temporaries i (pos 0) ≡ slice_index_or (v ∷ vs) i (pos 0)) → ReadyTasks program rest
    → SteppedAlike program (storing line (record s { work = rest }) name (zip (p ∷ ps) (v ∷ vs)))
    (core_first_done (plain_program program) (twin s temporaries held_behind work) (moved_tasks before line (cells_of_variables program) (map (λ p. a + p) (p ∷ ps)) (work_core program rest)))
vector-stored program s temporaries held_behind work rest line before name a n p ps v vs h at inside same room reads g =
    let zero_less : 0 < suc (length vs) = omega arith in
    let none : cells_of_variables program + 0 ≡ cells_of_variables program = omega arith in
    let long = laid-length s.cells (variables program) h.laid in
    let value : core_value (with_room s.cells temporaries) (cell (cells_of_variables program)) ≡ Ok v =
    ap Ok (ap (λ k. slice_index_or (with_room s.cells temporaries) k (pos 0)) (sym none ∙ ap (λ k. k + 0) (sym long)) ∙ get_or-append-add (all_cells_of s.cells) temporaries 0 (pos 0) ∙ reads 0 zero_less) in
    let one : suc (cells_of_variables program) ≡ cells_of_variables program + 1 = omega arith in
    let after = core-store program s temporaries held_behind work (moved_tasks before line (suc (cells_of_variables program)) (map (λ p. a + p) ps) (work_core program rest))
    name a n p before line (cell (cells_of_variables program)) v h at inside.0 value in
    rw after (record {
      states = alike-twin program (record (stored s name p v) { work = map (put_one line name) (zip ps vs) ++ rest }) temporaries held_behind _
          (record { laid = (stored-sturdy program s temporaries name p v h).laid; held_laid = h.held_laid; room = h.room })
          (rw one (puts-alike program temporaries line name a n ps vs 1 before rest at inside.1 same (omega (arith, room))
          (λ i less. let e : 1 + i ≡ suc i = omega arith in let more : suc i < suc (length vs) = omega (arith, less) in subst (λ m. slice_index_or temporaries m (pos 0) ≡ slice_index_or vs i (pos 0)) (sym e) (reads (suc i) more)) g));
      reports = refl;
    })

-- Elements stored in cells of a variable

one-stored : (program : Program) (s : State) (temporaries : List ℤ) (held_behind : List (Option ℤ)) (work : List CoreTask) (rest : List Task) (line before : ℕ) (name : Name) (a n p : ℕ) (e : CoreExpr) (r : Element)
    → Sturdy program s temporaries → variable_place program name ≡ Some (a, n) → p < n → core_value (with_room s.cells temporaries) e ≡ r → ReadyTasks program rest
    → SteppedAlike program (assigned line (record s { work = rest }) name (first_stop (r ∷ [])) (Ok (p ∷ [])))
    (core_first_done (plain_program program) (twin s temporaries held_behind work) (perform_core before (core_stmt line (store (into (a + p)) e)) ∷ work_core program rest))
one-stored program s temporaries held_behind work rest line before name a n p e (Err stop) h at inside k g =
    rw ((place_of program s.cells temporaries name a n p h.laid at inside).below, k) (stopped-alike program (record s { work = rest }) temporaries held_behind (work_core program rest) line stop (with-work program s temporaries rest h))
one-stored program s temporaries held_behind work rest line before name a n p e (Ok v) h at inside k g =
    rw (core-store program s temporaries held_behind work (work_core program rest) name a n p before line e v h at inside k) (record {
      states = alike-twin program (record (stored s name p v) { work = rest }) temporaries held_behind (work_core program rest)
          (record { laid = (stored-sturdy program s temporaries name p v h).laid; held_laid = h.held_laid; room = h.room }) (settled program temporaries rest g);
      reports = refl;
    })

-- what is done once the elements of a vector were kept
vector-kept : (program : Program) (s : State) (temporaries : List ℤ) (held_behind : List (Option ℤ)) (work : List CoreTask) (rest : List Task) (line before : ℕ) (name : Name) (a n : ℕ) (ps : List ℕ) (count : ℕ) (result : CoreStepped) (r : Result (List ℤ) Stop)
    → Sturdy program s temporaries → variable_place program name ≡ Some (a, n) → Below n ps → length ps ≡ suc count → suc count ≤ length temporaries → ReadyTasks program rest
    → ((values : List ℤ) → r ≡ Ok values → length values ≡ suc count)
    → KeptRun (plain_program program) line s.cells (twin s temporaries held_behind work) 0 temporaries (moved_tasks before line (cells_of_variables program) (map (λ p. a + p) ps) (work_core program rest)) result r
    → SteppedAlike program (assigned line (record s { work = rest }) name r (Ok ps)) result
vector-kept program s temporaries held_behind work rest line before name a n ps count result (Err stop) h at inside same room g long run =
    rw run.2 (stopped-alike program (record s { work = rest }) run.0 held_behind work line stop (record { laid = h.laid; held_laid = h.held_laid; room = run.1 ∙ h.room }))
vector-kept program s temporaries held_behind work rest line before name a n [] count result (Ok values) h at inside same room g long run = absurd (omega (arith, same))
vector-kept program s temporaries held_behind work rest line before name a n (p ∷ ps) count result (Ok []) h at inside same room g long run = absurd (let bad = long [] refl in omega (arith, bad))
vector-kept program s temporaries held_behind work rest line before name a n (p ∷ ps) count result (Ok (v ∷ vs)) h at inside same room g long run =
    let size = long (v ∷ vs) refl in
    let more = put_from temporaries 0 (v ∷ vs) in
    let kept_length = put_from-length temporaries 0 (v ∷ vs) in
    rw run (vector-stored program s more held_behind work rest line before name a n p ps v vs
    (record { laid = h.laid; held_laid = h.held_laid; room = kept_length ∙ h.room }) at inside (omega (arith, same, size)) (omega (arith, room, size, kept_length))
    (λ i less. let e : 0 + i ≡ i = omega arith in subst (λ m. slice_index_or more m (pos 0) ≡ slice_index_or (v ∷ vs) i (pos 0)) e (put_from-at temporaries 0 (v ∷ vs) i less (omega (arith, room, size)))) g)

-- elements that are stored in as many cells
pub cells-assigned : (program : Program) (s : State) (temporaries : List ℤ) (held_behind : List (Option ℤ)) (work : List CoreTask) (rest : List Task) (line before : ℕ) (name : Name) (a n : ℕ) (ps : List ℕ) (es : List CoreExpr) (vs : List Element)
    → Sturdy program s temporaries → variable_place program name ≡ Some (a, n) → Below n ps → length ps ≡ length es → HasRoom program es → ReadyTasks program rest
    → ((t : List ℤ) → map (core_value (with_room s.cells t)) es ≡ vs)
    → SteppedAlike program (assigned line (record s { work = rest }) name (first_stop vs) (Ok ps))
    (core_first_done (plain_program program) (twin s temporaries held_behind work) (stored_tasks before line (cells_of_variables program) (map (λ p. a + p) ps) es (work_core program rest)))
cells-assigned program s temporaries held_behind work rest line before name a n ps [] vs h at inside same room g k = absurd room
cells-assigned program s temporaries held_behind work rest line before name a n [] (e ∷ []) vs h at inside same room g k = absurd (omega (arith, same))
cells-assigned program s temporaries held_behind work rest line before name a n (p ∷ []) (e ∷ []) vs h at inside same room g k =
    rw (← k temporaries) (one-stored program s temporaries held_behind work rest line before name a n p e (core_value (with_room s.cells temporaries) e) h at inside.0 refl g)
cells-assigned program s temporaries held_behind work rest line before name a n (p ∷ q ∷ ps) (e ∷ []) vs h at inside same room g k = absurd (omega (arith, same))
cells-assigned program s temporaries held_behind work rest line before name a n [] (e ∷ f ∷ es) vs h at inside same room g k = absurd (omega (arith, same))
cells-assigned program s temporaries held_behind work rest line before name a n (p ∷ ps) (e ∷ f ∷ es) vs h at inside same room g k =
    let all = e ∷ f ∷ es in
    let none : cells_of_variables program + 0 ≡ cells_of_variables program = omega arith in
    let after = moved_tasks before line (cells_of_variables program) (map (λ p. a + p) (p ∷ ps)) (work_core program rest) in
    let run = kept-run program s.cells line all 0 before after (twin s temporaries held_behind work) temporaries vs h.laid k in
    let size : length vs ≡ length all = sym (ap length (k temporaries)) ∙ length-map all (core_value (with_room s.cells temporaries)) in
    let long : suc (suc (length es)) ≤ length temporaries = omega (arith, room, h.room) in
    subst (λ c. SteppedAlike program (assigned line (record s { work = rest }) name (first_stop vs) (Ok (p ∷ ps))) (core_first_done (plain_program program) (twin s temporaries held_behind work) (kept_tasks before line c all after))) none
    (vector-kept program s temporaries held_behind work rest line before name a n (p ∷ ps) (suc (length es)) _ (first_stop vs) h at inside same long g
    (λ values e. stop-length vs values e ∙ size) run)

-- Stores at an index

pub index-assigned : (program : Program) (s : State) (temporaries : List ℤ) (held_behind : List (Option ℤ)) (work : List CoreTask) (rest : List Task) (line before : ℕ) (name : Name) (a n : ℕ) (i e : CoreExpr) (ri r : Element)
    → Sturdy program s temporaries → variable_place program name ≡ Some (a, n) → ReadyTasks program rest
    → core_value (with_room s.cells temporaries) i ≡ ri → core_value (with_room s.cells temporaries) e ≡ r
    → SteppedAlike program (assigned line (record s { work = rest }) name (first_stop (r ∷ [])) (and_then ri (λ i. and_then (place_among n i) (λ place. Ok (place ∷ [])))))
    (core_first_done (plain_program program) (twin s temporaries held_behind work) (perform_core before (core_stmt line (store (into_index a n i) e)) ∷ work_core program rest))
index-assigned program s temporaries held_behind work rest line before name a n i e ri (Err stop) h at g ki k =
    rw k (stopped-alike program (record s { work = rest }) temporaries held_behind (work_core program rest) line stop (with-work program s temporaries rest h))
index-assigned program s temporaries held_behind work rest line before name a n i e (Err stop) (Ok v) h at g ki k =
    rw (k, ki) (stopped-alike program (record s { work = rest }) temporaries held_behind (work_core program rest) line stop (with-work program s temporaries rest h))
index-assigned program s temporaries held_behind work rest line before name a n i e (Ok iv) (Ok v) h at g ki k = rw (k, ki) (by (place_among n iv) refl)
  where
    by : (o : Result ℕ Stop) → place_among n iv ≡ o
        → SteppedAlike program (assigned line (record s { work = rest }) name (Ok (v ∷ [])) (and_then o (λ place. Ok (place ∷ []))))
        (core_storing line (record (twin s temporaries held_behind work) { work = work_core program rest }) (Ok v) (and_then o (λ place. Ok (a + place))))
    by (Err stop) f = stopped-alike program (record s { work = rest }) temporaries held_behind (work_core program rest) line stop (with-work program s temporaries rest h)
    by (Ok p) f =
        let p_at = place_of program s.cells temporaries name a n p h.laid at (place-inside n iv p f) in
        rw (p_at.sets v) (record {
          states = alike-twin program (record (stored s name p v) { work = rest }) temporaries held_behind (work_core program rest)
              (record { laid = (stored-sturdy program s temporaries name p v h).laid; held_laid = h.held_laid; room = h.room }) (settled program temporaries rest g);
          reports = refl;
        })
