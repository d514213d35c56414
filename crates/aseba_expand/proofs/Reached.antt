-- Which native's call is reached next: the same in a source and its element form.
use Rattle.std.proofs.Common.{◌≡◌, refl, sym, ◌∙◌, ap, subst, ℕ, suc, ◌+◌, ◌<◌, true, false, Bool, if◌then◌else◌, ℤ, List, [], ◌∷◌, arith, Option, Some, None, length, map, nat_le, slice_set, Result, Ok, Err}
use Rattle.std.specs.List.{range_with_len}
use Rattle.std.proofs.lemmas.Bool.{lt-leb}
use Rattle.std.proofs.lemmas.List.FromFn.{length-range_with_len}
use Rattle.aseba_tree.specs.Code.{Name, Place, Expr, Exprs, Part, all, at, span, stmt, StmtForm, assign, change, bump, if_then, when_do, while_do, for_do, emit, callsub, call, return}
use Rattle.aseba_tree.specs.Core.{core_stmt, store}
use Rattle.aseba_tree.specs.CoreExpr.{CoreExpr, cell, into, core_value}
use Rattle.aseba_tree.specs.CoreRun.{call_behind, first_call, work_call, core_next_native}
use Rattle.aseba_tree.specs.CoreStep.{put_from, CoreTask, perform_core, CoreState, turn_core}
use Rattle.aseba_tree.specs.Elements.{variable_place}
use Rattle.aseba_tree.specs.Layout.{variables, cells_of_variables}
use Rattle.aseba_tree.specs.Numbers.{fresh_elements, fresh_of_list}
use Rattle.aseba_tree.specs.State.{list_whens, Program, State, Task, perform, put, leave, turn, try, next, back, finish}
use Rattle.aseba_tree.specs.Step.{arguments, task_native, next_native, is_running, reached}
use Rattle.aseba_tree.specs.Value.{and_then, Cells, Stop, Element, first_stop, from_to}
use Rattle.aseba_expand.specs.Plain.{bound, start_of, start_in, plain_program, for_first, for_next}
use Rattle.aseba_expand.proofs.Alike.{Alike, WorkAlike}
use Rattle.aseba_expand.proofs.Assigned.{Below, range-below}
use Rattle.aseba_expand.proofs.Cells.{Laid, place-below}
use Rattle.aseba_expand.proofs.Ends.{is-twin}
use Rattle.aseba_expand.proofs.Kept.{set-room, is-temporary, first_element, other_elements}
use Rattle.aseba_expand.proofs.Passed.{Passed, all-passed, fresh_values, fresh-alike}
use Rattle.aseba_expand.proofs.Ready.{IsSized, HasRoom, Reaches, ReadyPart, ReadyForm, ReadyCall}
use Rattle.aseba_expand.proofs.Targets.{reaches-below, range-moved}
use Rattle.aseba_expand.proofs.Tasks.{kept_tasks, moved_tasks, stored_tasks, assigning_tasks, sending_tasks, form_tasks, native_call, work_core, for_loop, target_of}
use Rattle.aseba_expand.proofs.Values.{with_room}

-- no native is called by a work's first step, whatever the cells hold
abbrev pub Silent : Program → List CoreTask → Type 0
Silent program work = (cells : List ℤ) → work_call (plain_program program) work cells ≡ None

-- Stores

behind-silent : (r : Element) (a : ℕ) (cells : List ℤ) (go_on : List ℤ → Option Name) → ((after : List ℤ) → go_on after ≡ None) → call_behind r a cells go_on ≡ None
behind-silent (Err stop) a cells go_on h = refl
behind-silent (Ok v) a cells go_on h = h (slice_set cells a v)

-- a store in front of work that calls nothing
store-silent : (program : Program) (before line a : ℕ) (e : CoreExpr) (rest : List CoreTask) → Silent program rest → Silent program (perform_core before (core_stmt line (store (into a) e)) ∷ rest)
store-silent program before line a e rest h cells = by (nat_le (cells_of_variables program) a)
  where
    by : (b : Bool) → first_call program.project (perform_core before (core_stmt line (store (into a) e))) cells (if b then Some (line, a, e) else None) (λ after. work_call (plain_program program) rest after) ≡ None
    by true = behind-silent (core_value cells e) a cells (λ after. work_call (plain_program program) rest after) h
    by false = refl

-- a store into a variable's cell is an effect
pub cell-silent : (program : Program) (before line a : ℕ) (e : CoreExpr) (rest : List CoreTask) → a < cells_of_variables program → Silent program (perform_core before (core_stmt line (store (into a) e)) ∷ rest)
cell-silent program before line a e rest below cells = rw (lt-leb (cells_of_variables program) a below) refl

kept-silent : (program : Program) (before line from : ℕ) (es : List CoreExpr) (rest : List CoreTask) → Silent program rest → Silent program (kept_tasks before line from es rest)
kept-silent program before line from [] rest h = h
kept-silent program before line from (e ∷ es) rest h = store-silent program before line from e (kept_tasks before line (suc from) es rest) (kept-silent program before line (suc from) es rest h)

-- Assignments

stored-silent : (program : Program) (before line : ℕ) (name : Name) (a n : ℕ) (ps : List ℕ) (es : List CoreExpr) (rest : List CoreTask) → variable_place program name ≡ Some (a, n) → Below n ps → length ps ≡ length es → HasRoom program es
    → Silent program (stored_tasks before line (cells_of_variables program) (map (λ p. a + p) ps) es rest)
stored-silent program before line name a n ps [] rest found inside same room = absurd room
stored-silent program before line name a n [] (e ∷ es) rest found inside same room = absurd (omega (arith, same))
stored-silent program before line name a n (p ∷ ps) (e ∷ []) rest found inside same room =
    cell-silent program before line (a + p) e rest (let far = place-below program name a n found in omega (arith, far, inside.0))
stored-silent program before line name a n (p ∷ ps) (e ∷ f ∷ es) rest found inside same room =
    let far = place-below program name a n found in
    kept-silent program before line (cells_of_variables program) (e ∷ f ∷ es) (moved_tasks before line (cells_of_variables program) (map (λ p. a + p) (p ∷ ps)) rest)
    (cell-silent program before line (a + p) (cell (cells_of_variables program)) (moved_tasks before line (suc (cells_of_variables program)) (map (λ p. a + p) ps) rest) (omega (arith, far, inside.0)))

part-silent : (program : Program) (before line : ℕ) (here : Place) (name : Name) (part : Part) (place : Option (ℕ × ℕ)) (es : List CoreExpr) (rest : List CoreTask) → variable_place program name ≡ place → ReadyPart program name part es
    → (cells : List ℤ) → work_call (plain_program program) (assigning_tasks program before line (target_of here name part) es rest) cells ≡ None
part-silent program before line here name all None es rest e g cells = absurd (subst (λ o. IsSized o (length es)) e g.0)
part-silent program before line here name all (Some p) es rest e g cells =
    let size : p.1 ≡ length es = subst (λ o. IsSized o (length es)) e g.0 in
    let long : length (range_with_len 0 p.1) ≡ length es = length-range_with_len 0 p.1 ∙ size in
    let a : p.0 + 0 ≡ p.0 = omega arith in
    rw (e, ← a, range-moved p.0 0 p.1) (stored-silent program before line name p.0 p.1 (range_with_len 0 p.1) es rest e (range-below p.1 0 p.1 (omega arith)) long g.1 cells)
part-silent program before line here name (at i) place [] rest e g cells = absurd g.3
part-silent program before line here name (at i) place (x ∷ es) rest e g cells = refl
part-silent program before line here name (span c d) None es rest e g cells = absurd (subst (λ o. Reaches o (bound program d)) e g.0)
part-silent program before line here name (span c d) (Some p) es rest e g cells =
    let up : bound program d < p.1 = subst (λ o. Reaches o (bound program d)) e g.0 in
    rw e (stored-silent program before line name p.0 p.1 (from_to (bound program c) (bound program d)) es rest e (reaches-below p.1 (bound program c) (bound program d) up) g.1 g.2 cells)

-- the cell of the variable of a `for`
counter-below : (program : Program) (name : Name) → IsSized (variable_place program name) 1 → start_of program name < cells_of_variables program
counter-below program name g = by (variable_place program name) refl g
  where
    by : (o : Option (ℕ × ℕ)) → variable_place program name ≡ o → IsSized o 1 → start_in o < cells_of_variables program
    by None e g = absurd g
    by (Some p) e g = let far = place-below program name p.0 p.1 e in omega (arith, far, g)

sending-silent : (program : Program) (before line : ℕ) (name : Name) (argument : Option Expr) (rest : List CoreTask) → Silent program (sending_tasks program before line name argument rest)
sending-silent program before line name None rest cells = refl
sending-silent program before line name (Some e) rest cells = kept-silent program before line (cells_of_variables program) (fresh_elements program e) _ (λ cells. refl) cells

-- Calls

-- what is reached behind elements that are kept
abbrev KeptCall : Program → Cells → (j : ℕ) → List ℤ → List CoreTask → Option Name → Result (List ℤ) Stop → Type 0
KeptCall program cells j temporaries after found (Err stop) = found ≡ None
KeptCall program cells j temporaries after found (Ok values) = found ≡ work_call (plain_program program) after (with_room cells (put_from temporaries j values))

more-called : (program : Program) (cells : Cells) (j : ℕ) (temporaries : List ℤ) (x : ℤ) (after : List CoreTask) (found : Option Name) (r : Result (List ℤ) Stop)
    → KeptCall program cells (suc j) (slice_set temporaries j x) after found r → KeptCall program cells j temporaries after found (and_then r (λ vs. Ok (x ∷ vs)))
more-called program cells j temporaries x after found (Err stop) h = h
more-called program cells j temporaries x after found (Ok values) h = h

kept-called : (program : Program) (cells : Cells) (line : ℕ) (es : List CoreExpr) (j before : ℕ) (after : List CoreTask) (temporaries : List ℤ) (vs : List Element)
    → Laid cells (variables program) → ((t : List ℤ) → map (core_value (with_room cells t)) es ≡ vs)
    → KeptCall program cells j temporaries after (work_call (plain_program program) (kept_tasks before line (cells_of_variables program + j) es after) (with_room cells temporaries)) (first_stop vs)
kept-called program cells line [] j before after temporaries vs h k = subst (λ vs. KeptCall program cells j temporaries after (work_call (plain_program program) after (with_room cells temporaries)) (first_stop vs)) (k temporaries) refl
kept-called program cells line (e ∷ es) j before after temporaries [] h k = let bad : core_value (with_room cells temporaries) e ∷ map (core_value (with_room cells temporaries)) es ≡ [] = k temporaries in cc
kept-called program cells line (e ∷ es) j before after temporaries (v ∷ vs) h k = by v (ap first_element (k temporaries)) (λ x. kept-called program cells line es (suc j) before after (slice_set temporaries j x) vs h (λ t. ap other_elements (k t)))
  where
    by : (v : Element) → core_value (with_room cells temporaries) e ≡ v
        → ((x : ℤ) → KeptCall program cells (suc j) (slice_set temporaries j x) after (work_call (plain_program program) (kept_tasks before line (cells_of_variables program + suc j) es after) (with_room cells (slice_set temporaries j x))) (first_stop vs))
        → KeptCall program cells j temporaries after (work_call (plain_program program) (kept_tasks before line (cells_of_variables program + j) (e ∷ es) after) (with_room cells temporaries)) (first_stop (v ∷ vs))
    by (Err stop) e1 more = rw (is-temporary (cells_of_variables program) j before line e, e1) refl
    by (Ok x) e1 more =
        let room = set-room program cells temporaries j x h in
        let up : suc (cells_of_variables program + j) ≡ cells_of_variables program + suc j = omega arith in
        rw (is-temporary (cells_of_variables program) j before line e, e1, room, up) (more-called program cells j temporaries x after _ (first_stop vs) (more x))

-- the native that is reached behind the kept elements of its arguments
call-reached : (program : Program) (cells : Cells) (line before : ℕ) (name : Name) (es : Exprs) (rest : List CoreTask) (temporaries : List ℤ) (found : Option Name) (r : Result (List ℤ) Stop) → ReadyCall program name es
    → Passed program cells es r → KeptCall program cells 0 temporaries (perform_core before (native_call program line name es) ∷ rest) found r → found ≡ reached name (arguments program.project.consts cells es)
call-reached program cells line before name es rest temporaries found (Err stop) g passed k = k ∙ sym (ap (reached name) passed)
call-reached program cells line before name es rest temporaries found (Ok values) g passed k = k ∙ ap Some g.name_of ∙ sym (ap (reached name) passed.1)

calling-reached : (program : Program) (cells : Cells) (line before : ℕ) (name : Name) (es : Exprs) (rest : List CoreTask) (temporaries : List ℤ) → Laid cells (variables program) → ReadyCall program name es
    → work_call (plain_program program) (form_tasks program before line (call name es) rest) (with_room cells temporaries) ≡ reached name (arguments program.project.consts cells es)
calling-reached program cells line before name es rest temporaries h g =
    let fs = fresh_of_list program es in
    let after = perform_core before (native_call program line name es) ∷ rest in
    let none : cells_of_variables program + 0 ≡ cells_of_variables program = omega arith in
    ap (λ n. work_call (plain_program program) (kept_tasks before line n fs after) (with_room cells temporaries)) (sym none)
    ∙ call-reached program cells line before name es rest temporaries _ (first_stop (fresh_values program cells es)) g (all-passed program cells es h g.grounded)
    (kept-called program cells line fs 0 before after temporaries (fresh_values program cells es) h (λ t. fresh-alike program cells t es h g.grounded))

-- Tasks

form-reached : (program : Program) (cells : Cells) (line before : ℕ) (place : Place) (form : StmtForm) (ts : List Task) (rest : List CoreTask) (temporaries : List ℤ) → Laid cells (variables program) → ReadyForm program form
    → work_call (plain_program program) (form_tasks program before line form rest) (with_room cells temporaries) ≡ task_native program cells (perform before (stmt line place form) ∷ ts)
form-reached program cells line before place (assign target e) ts rest temporaries h g = part-silent program before line target.place target.name target.part _ _ rest refl g.0 (with_room cells temporaries)
form-reached program cells line before place (change target op e) ts rest temporaries h g = part-silent program before line target.place target.name target.part _ _ rest refl g.0 (with_room cells temporaries)
form-reached program cells line before place (bump target op) ts rest temporaries h g = part-silent program before line target.place target.name target.part _ _ rest refl g.0 (with_room cells temporaries)
form-reached program cells line before place (if_then c body other) ts rest temporaries h g = refl
form-reached program cells line before place (when_do c body) ts rest temporaries h g = refl
form-reached program cells line before place (while_do c body) ts rest temporaries h g = refl
form-reached program cells line before place (for_do head body) ts rest temporaries h g = cell-silent program before line (start_of program head.name) (for_first program head) (perform_core before (for_loop program line head body) ∷ rest) (counter-below program head.name g.0) (with_room cells temporaries)
form-reached program cells line before place (emit name argument) ts rest temporaries h g = sending-silent program before line name argument rest (with_room cells temporaries)
form-reached program cells line before place (callsub name) ts rest temporaries h g = refl
form-reached program cells line before place (call name es) ts rest temporaries h g = calling-reached program cells line before name es rest temporaries h g
form-reached program cells line before place return ts rest temporaries h g = refl

work-reached : (program : Program) (cells : Cells) (temporaries : List ℤ) (ts : List Task) (work : List CoreTask) → Laid cells (variables program) → WorkAlike program temporaries ts work
    → work_call (plain_program program) work (with_room cells temporaries) ≡ task_native program cells ts
work-reached program cells temporaries [] work h w = rw w.0 refl
work-reached program cells temporaries (put line name place v ∷ ts) work h w =
    rw w.first (cell-silent program w.before line (w.base + place) (cell (cells_of_variables program + w.k)) w.rest (let far = place-below program name w.base w.size w.at in omega (arith, far, w.inside)) (with_room cells temporaries))
work-reached program cells temporaries (perform before (stmt line place form) ∷ ts) work h w = rw w.0 (form-reached program cells line before place form ts (work_core program ts) temporaries h w.1.0)
work-reached program cells temporaries (leave line ∷ ts) work h w = rw w.0 refl
work-reached program cells temporaries (turn (perform before (stmt line place (while_do c body))) ∷ ts) work h w = rw w.0 refl
work-reached program cells temporaries (turn (try line before head body) ∷ ts) work h w = rw w.0 refl
work-reached program cells temporaries (turn t ∷ ts) work h w = absurd w.1.0
work-reached program cells temporaries (try line before head body ∷ ts) work h w = rw w.0 refl
work-reached program cells temporaries (next line before head body ∷ ts) work h w =
    rw w.0 (cell-silent program (before + list_whens body) line (start_of program head.name) (for_next program head) (turn_core (perform_core before (for_loop program line head body)) ∷ work_core program ts) (counter-below program head.name w.1.0.0) (with_room cells temporaries))
work-reached program cells temporaries (back line ∷ ts) work h w = rw w.0 refl
work-reached program cells temporaries (finish line ∷ ts) work h w = rw w.0 refl

-- Both reach the same native's call, if they reach one.
pub native-reached : (program : Program) (s : State) (c : CoreState) → Alike program s c → core_next_native (plain_program program) c ≡ next_native program s
native-reached program s c a = rw (is-twin program s c a) (by (is_running s))
  where
    by : (b : Bool) → (if b then work_call (plain_program program) c.work (with_room s.cells a.temporaries) else None) ≡ (if b then task_native program s.cells s.work else None)
    by true = work-reached program s.cells a.temporaries s.work c.work a.laid a.work
    by false = refl
