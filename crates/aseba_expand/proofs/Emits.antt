-- Events that are sent, on both sides.
use Rattle.std.proofs.Common.{◌≡◌, refl, sym, ◌∙◌, ap, subst, ℕ, zero, suc, ◌+◌, ◌-◌, ◌≤◌, ◌<◌, true, false, Bool, ℤ, pos, List, [], ◌∷◌, arith, Option, Some, None, is_some, length, map, take, drop, drop-cons, length-append}
use Rattle.std.specs.List.{range_with_len}
use Rattle.std.specs.Prelude.{Result, Ok, Err, if◌then◌else◌, slice_index_or, slice_range}
use Rattle.std.proofs.lemmas.List.{length-map, get_or-append-add}
use Rattle.std.proofs.lemmas.List.FromFn.{length-range_with_len}
use Rattle.aseba_tree.specs.Code.{Name, Place, Expr, expr, Form, number, whole, index, range, items, one, two}
use Rattle.aseba_tree.specs.Core.{core_stmt, send}
use Rattle.aseba_tree.specs.CoreExpr.{cell, core_value}
use Rattle.aseba_tree.specs.CoreStep.{CoreStepped, CoreTask, perform_core, core_first_done, put_from}
use Rattle.aseba_tree.specs.Elements.{variable_place, elements_of}
use Rattle.aseba_tree.specs.Layout.{variables, cells_of_variables}
use Rattle.aseba_tree.specs.Line.{named, sent}
use Rattle.aseba_tree.specs.Numbers.{is_own, is_own_form, source_room}
use Rattle.aseba_tree.specs.State.{Program, State, Task}
use Rattle.aseba_tree.specs.Step.{emitted}
use Rattle.aseba_tree.specs.Value.{Stop, value, elements, first_stop, from_to}
use Rattle.aseba_expand.specs.Expands.{all_cells_of}
use Rattle.aseba_expand.specs.Plain.{bound, own_start, sent_number, plain_program}
use Rattle.aseba_expand.proofs.Alike.{SteppedAlike}
use Rattle.aseba_expand.proofs.Assigned.{put_from-length, put_from-at, stop-length}
use Rattle.aseba_expand.proofs.Cells.{place-below}
use Rattle.aseba_expand.proofs.Ends.{twin, Sturdy, alike-twin, with-work, stopped-alike}
use Rattle.aseba_expand.proofs.Kept.{laid-length, kept-run, KeptRun}
use Rattle.aseba_expand.proofs.Ready.{Reaches, Grounded, GroundedForm, ReadyTasks, ReadyArgument, IsEvent}
use Rattle.aseba_expand.proofs.Steps.{settled}
use Rattle.aseba_expand.proofs.Targets.{range-moved}
use Rattle.aseba_expand.proofs.Tasks.{work_core, kept_tasks}
use Rattle.aseba_expand.proofs.Values.{with_room, values-alike}

-- the cells from one on, so many
taken : (xs : List ℤ) (a m : ℕ) → a + m ≤ length xs → take m (drop a xs) ≡ map (λ k. slice_index_or xs k (pos 0)) (range_with_len a m)
taken xs a zero h = refl
taken xs a (suc m) h =
    let less : a < length xs = omega (arith, h) in
    let more : a + 1 + m ≤ length xs = omega (arith, h) in
    let up : suc a ≡ a + 1 = omega arith in
    rw (drop-cons xs a (pos 0) less, up) (ap (λ l. slice_index_or xs a (pos 0) ∷ l) (taken xs (a + 1) m more))

cells-stop : (xs : List ℤ) (ks : List ℕ) → first_stop (map (core_value xs) (map cell ks)) ≡ Ok (map (λ k. slice_index_or xs k (pos 0)) ks)
cells-stop xs [] = refl
cells-stop xs (k ∷ ks) = rw (cells-stop xs ks) refl

-- Own cells

-- where an argument's own cells stand
pub record Own (program : Program) (e : Expr) : Type 0 where
  pub count : ℕ
  pub found : elements_of program e ≡ map cell (range_with_len (own_start program e) count)
  pub inside : own_start program e + count ≤ cells_of_variables program

cells-of : (a : ℕ) (ks : List ℕ) → map (λ i. cell (a + i)) ks ≡ map cell (map (λ i. a + i) ks)
cells-of a [] = refl
cells-of a (k ∷ ks) = ap (λ l. cell (a + k) ∷ l) (cells-of a ks)

own-form : (program : Program) (first here : Place) (form : Form) → is_own_form program form ≡ true → GroundedForm program form → Own program (expr first here form)
own-form program first here (number v) o g = cc
own-form program first here (whole name) o g = by (variable_place program name) refl o
  where
    by : (p : Option (ℕ × ℕ)) → variable_place program name ≡ p → is_some p ≡ true → Own program (expr first here (whole name))
    by None e o = cc
    by (Some p) e o = record { count = p.1; found = rw e refl; inside = rw e (place-below program name p.0 p.1 e) }
own-form program first here (index name i) o g = cc
own-form program first here (range name c d) o g = by (variable_place program name) refl g.0
  where
    by : (p : Option (ℕ × ℕ)) → variable_place program name ≡ p → Reaches p (bound program d) → Own program (expr first here (range name c d))
    by None e r = absurd r
    by (Some p) e r =
        let inside = place-below program name p.0 p.1 e in
        record {
          count = bound program d + 1 - bound program c;
          found = rw e (cells-of p.0 (from_to (bound program c) (bound program d)) ∙ ap (map cell) (sym (range-moved p.0 (bound program c) (bound program d + 1 - bound program c))));
          inside = rw e (omega (arith, inside, r, g.1));
        }
own-form program first here (items es) o g = cc
own-form program first here (one op e) o g = cc
own-form program first here (two op l r) o g = cc

pub own-cells : (program : Program) (e : Expr) → is_own program e ≡ true → Grounded program e → Own program e
own-cells program (expr first here form) o g = own-form program first here form o g

-- an event with cells of its own
own-value : (program : Program) (s : State) (temporaries : List ℤ) (e : Expr) (w : Own program e) → Sturdy program s temporaries → Grounded program e
    → value program.project.consts s.cells e ≡ Ok (slice_range (with_room s.cells temporaries) (own_start program e) (own_start program e + length (elements_of program e)))
own-value program s temporaries e w h g =
    let xs = with_room s.cells temporaries in
    let a = own_start program e in
    let ks = range_with_len a w.count in
    let count : length (elements_of program e) ≡ w.count = ap length w.found ∙ length-map ks cell ∙ length-range_with_len a w.count in
    let back : a + w.count - a ≡ w.count = omega arith in
    let long = laid-length s.cells (variables program) h.laid in
    let room : a + w.count ≤ length xs = omega (arith, w.inside, long, length-append (all_cells_of s.cells) temporaries) in
    ap first_stop (sym (values-alike program s.cells temporaries e h.laid g)) ∙ ap (λ es. first_stop (map (core_value xs) es)) w.found ∙ cells-stop xs ks
    ∙ ap Ok (sym (ap (λ n. slice_range xs a (a + n)) count ∙ ap (λ n. take n (drop a xs)) back ∙ taken xs a w.count room))

pub sent-alike : (program : Program) (s : State) (temporaries : List ℤ) (held_behind : _) (work : List CoreTask) (rest : List Task) (line before : ℕ) (name : Name) (a n : ℕ) (cells : List ℤ)
    → Sturdy program s temporaries → IsEvent program name → ReadyTasks program rest → slice_range (with_room s.cells temporaries) a (a + n) ≡ cells
    → SteppedAlike program (record { state = record s { work = rest }; report = Some (sent (named name) cells) })
    (core_first_done (plain_program program) (twin s temporaries held_behind work) (perform_core before (core_stmt line (send (sent_number program name) a n)) ∷ work_core program rest))
sent-alike program s temporaries held_behind work rest line before name a n cells h e g same = record {
  states = alike-twin program (record s { work = rest }) temporaries held_behind (work_core program rest) (with-work program s temporaries rest h) (settled program temporaries rest g);
  reports = rw (e, same) refl;
}

-- Elements that are put into temporaries

all-got : (xs vs : List ℤ) (a : ℕ) → ((i : ℕ) → i < length vs → slice_index_or xs (a + i) (pos 0) ≡ slice_index_or vs i (pos 0)) → map (λ k. slice_index_or xs k (pos 0)) (range_with_len a (length vs)) ≡ vs
all-got xs [] a h = refl
all-got xs (v ∷ vs) a h =
    let none : a + 0 ≡ a = omega arith in
    let first : slice_index_or xs a (pos 0) ≡ v = subst (λ k. slice_index_or xs k (pos 0) ≡ v) none (h 0 (omega arith)) in
    let rest = all-got xs vs (a + 1) (λ i less.
    let e : a + 1 + i ≡ a + suc i = omega arith in
    let more : suc i < suc (length vs) = omega (arith, less) in
    subst (λ k. slice_index_or xs k (pos 0) ≡ slice_index_or vs i (pos 0)) (sym e) (h (suc i) more)) in
    rw (first, rest) refl

-- the temporaries that were put are read as one range
put-range : (program : Program) (s : State) (temporaries : List ℤ) (values : List ℤ) → Sturdy program s temporaries → length values ≤ length temporaries
    → slice_range (with_room s.cells (put_from temporaries 0 values)) (cells_of_variables program) (cells_of_variables program + length values) ≡ values
put-range program s temporaries values h room =
    let t = put_from temporaries 0 values in
    let xs = with_room s.cells t in
    let c = cells_of_variables program in
    let back : c + length values - c ≡ length values = omega arith in
    let long = laid-length s.cells (variables program) h.laid in
    let wide : c + length values ≤ length xs = omega (arith, room, long, length-append (all_cells_of s.cells) t, put_from-length temporaries 0 values) in
    ap (λ n. take n (drop c xs)) back ∙ taken xs c (length values) wide
    ∙ all-got xs values c (λ i less.
    let none : 0 + i ≡ i = omega arith in
    ap (λ n. slice_index_or xs (n + i) (pos 0)) (sym long) ∙ get_or-append-add (all_cells_of s.cells) t i (pos 0) ∙ ap (λ k. slice_index_or t k (pos 0)) (sym none) ∙ put_from-at temporaries 0 values i less (let zero : 0 + length values ≤ length temporaries = omega (arith, room) in zero))

kept-sent : (program : Program) (s : State) (temporaries : List ℤ) (held_behind : _) (work : List CoreTask) (rest : List Task) (line before : ℕ) (name : Name) (count : ℕ) (result : CoreStepped) (r : Result (List ℤ) Stop)
    → Sturdy program s temporaries → IsEvent program name → ReadyTasks program rest → count ≤ length temporaries → ((values : List ℤ) → r ≡ Ok values → length values ≡ count)
    → KeptRun (plain_program program) line s.cells (twin s temporaries held_behind work) 0 temporaries (perform_core before (core_stmt line (send (sent_number program name) (cells_of_variables program) count)) ∷ work_core program rest) result r
    → SteppedAlike program (emitted line (record s { work = rest }) name r) result
kept-sent program s temporaries held_behind work rest line before name count result (Err stop) h e g room long run =
    rw run.2 (stopped-alike program (record s { work = rest }) run.0 held_behind work line stop (record { laid = h.laid; held_laid = h.held_laid; room = run.1 ∙ h.room }))
kept-sent program s temporaries held_behind work rest line before name count result (Ok values) h e g room long run =
    let size = long values refl in
    let more = put_from temporaries 0 values in
    let fits : length values ≤ length temporaries = omega (arith, size, room) in
    rw run (sent-alike program s more held_behind work rest line before name (cells_of_variables program) count values (record { laid = h.laid; held_laid = h.held_laid; room = put_from-length temporaries 0 values ∙ h.room }) e g
    (subst (λ n. slice_range (with_room s.cells more) (cells_of_variables program) (cells_of_variables program + n) ≡ values) size (put-range program s temporaries values h fits)))

-- the tasks of an event with an argument
abbrev pub emit_tasks : Program → (before line : ℕ) → Name → Expr → Bool → List CoreTask → List CoreTask
emit_tasks program before line name e own rest =
    kept_tasks before line (cells_of_variables program) (if own then [] else elements_of program e)
    (perform_core before (core_stmt line (send (sent_number program name) (if own then own_start program e else cells_of_variables program) (length (elements_of program e)))) ∷ rest)

pub emit-argument : (program : Program) (s : State) (temporaries : List ℤ) (held_behind : _) (work : List CoreTask) (rest : List Task) (line before : ℕ) (name : Name) (e : Expr) (own : Bool)
    → Sturdy program s temporaries → IsEvent program name → is_own program e ≡ own → ReadyArgument program (Some e) → ReadyTasks program rest
    → SteppedAlike program (emitted line (record s { work = rest }) name (value program.project.consts s.cells e))
    (core_first_done (plain_program program) (twin s temporaries held_behind work) (emit_tasks program before line name e own (work_core program rest)))
emit-argument program s temporaries held_behind work rest line before name e true h event o g k =
    let w = own-cells program e o g.0 in
    rw (own-value program s temporaries e w h g.0) (sent-alike program s temporaries held_behind work rest line before name (own_start program e) (length (elements_of program e)) _ h event k refl)
emit-argument program s temporaries held_behind work rest line before name e false h event o g k =
    let es = elements_of program e in
    let none : cells_of_variables program + 0 ≡ cells_of_variables program = omega arith in
    let after = perform_core before (core_stmt line (send (sent_number program name) (cells_of_variables program) (length es))) ∷ work_core program rest in
    let vs = elements program.project.consts s.cells e in
    let run = kept-run program s.cells line es 0 before after (twin s temporaries held_behind work) temporaries vs h.laid (λ t. values-alike program s.cells t e h.laid g.0) in
    let size : length vs ≡ length es = sym (ap length (values-alike program s.cells temporaries e h.laid g.0)) ∙ length-map es (core_value (with_room s.cells temporaries)) in
    let fresh : length es ≤ source_room program = subst (λ b. length (if b then [] else es) ≤ source_room program) o g.1 in
    let room : length es ≤ length temporaries = omega (arith, fresh, h.room) in
    subst (λ c. SteppedAlike program (emitted line (record s { work = rest }) name (value program.project.consts s.cells e)) (core_first_done (plain_program program) (twin s temporaries held_behind work) (kept_tasks before line c es after))) none
    (kept-sent program s temporaries held_behind work rest line before name (length es) _ (first_stop vs) h event k room (λ values f. stop-length vs values f ∙ size) run)
