-- Each task of the source, and those of its element form: both are done alike.
use Rattle.std.proofs.Common.{◌≡◌, refl, sym, ◌∙◌, ap, subst, ℕ, zero, suc, ◌+◌, ◌<◌, true, false, Bool, not, ℤ, pos, List, [], ◌∷◌, ◌++◌, arith, Option, Some, None, length, map}
use Rattle.std.specs.Prelude.{Ok, if◌then◌else◌, slice_index_or, int_lt, ◌+ℤ◌}
use Rattle.std.proofs.lemmas.List.{length-map}
use Rattle.aseba_words.specs.Cell.{wrapped, truth, is_true}
use Rattle.aseba_words.specs.declared.operators.Binary.{Binary}
use Rattle.aseba_words.specs.declared.operators.Binary.TheVariants.{Add, AtLeast, AtMost}
use Rattle.aseba_tree.specs.Code.{Name, Place, Expr, expr, items, Target, ForHead, stmt, assign, change, bump, if_then, when_do, while_do, for_do, Stmts}
use Rattle.aseba_tree.specs.Core.{core_stmt, store, no_core, core_stmts}
use Rattle.aseba_tree.specs.CoreExpr.{CoreExpr, fixed, cell, infix_of, into, core_value}
use Rattle.aseba_tree.specs.CoreStep.{CoreTask, perform_core, turn_core, core_tasks, core_leaving, core_first_done}
use Rattle.aseba_tree.specs.Elements.{variable_place, elements_of, elements_of_list, target_elements, changed_elements, bumped_elements, paired_elements}
use Rattle.aseba_tree.specs.State.{Program, State, Task, perform, turn, try, next, tasks, list_whens}
use Rattle.aseba_tree.specs.Step.{going_on, stored, leaving, performed, done, target_expr, changed, ones, step_of, is_within, scalar}
use Rattle.aseba_tree.specs.Value.{value, elements, constant}
use Rattle.aseba_expand.specs.Plain.{start_in, all_plain, for_test, plain_program, start_of}
use Rattle.aseba_expand.proofs.Alike.{SteppedAlike}
use Rattle.aseba_expand.proofs.Ends.{twin, Sturdy, alike-twin}
use Rattle.aseba_expand.proofs.Ready.{GroundedList, IsSized, ReadyForm, ReadyTasks, ReadyTask, ReadyStmts}
use Rattle.aseba_expand.proofs.Rows.{leaving-onto, ready-leaving, ready-tasks}
use Rattle.aseba_expand.proofs.Steps.{settled, ready-append, tested-alike, edge-alike, condition, Ahead, nothing-ahead}
use Rattle.aseba_expand.proofs.StoreLaws.{core-store, stored-sturdy}
use Rattle.aseba_expand.proofs.Targets.{target-assigned}
use Rattle.aseba_expand.proofs.Tasks.{work_core, for_loop, form_tasks, onto-append, body-onto, body-whens, for-onto, next_store, while_loop}
use Rattle.aseba_expand.proofs.Values.{with_room, reading, values-alike}

-- Assignments

pub assign-alike : (program : Program) (s : State) (temporaries : List ℤ) (held_behind : _) (work : List CoreTask) (rest : List Task) (line before : ℕ) (place : Place) (target : Target) (e : Expr)
    → Sturdy program s temporaries → ReadyForm program (assign target e) → ReadyTasks program rest
    → SteppedAlike program (performed program (record s { work = rest }) before line place (assign target e)) (core_first_done (plain_program program) (twin s temporaries held_behind work) (form_tasks program before line (assign target e) (work_core program rest)))
assign-alike program s temporaries held_behind work rest line before place target e h g k =
    target-assigned program s temporaries held_behind work rest line before target (elements_of program e) (elements program.project.consts s.cells e) h g.0 k (λ t. values-alike program s.cells t e h.laid g.1)

pub change-alike : (program : Program) (s : State) (temporaries : List ℤ) (held_behind : _) (work : List CoreTask) (rest : List Task) (line before : ℕ) (place : Place) (target : Target) (op : Binary) (e : Expr)
    → Sturdy program s temporaries → ReadyForm program (change target op e) → ReadyTasks program rest
    → SteppedAlike program (performed program (record s { work = rest }) before line place (change target op e)) (core_first_done (plain_program program) (twin s temporaries held_behind work) (form_tasks program before line (change target op e) (work_core program rest)))
change-alike program s temporaries held_behind work rest line before place target op e h g k =
    target-assigned program s temporaries held_behind work rest line before target (changed_elements program target op e) (elements program.project.consts s.cells (changed target op place e)) h g.0 k
    (λ t. values-alike program s.cells t (changed target op place e) h.laid (g.1, g.2))

ones-paired : (program : Program) (place : Place) (op : Binary) (ls : List CoreExpr) → paired_elements op ls (elements_of_list program (ones place (length ls))) ≡ map (λ l. infix_of op l (fixed (pos 1))) ls
ones-paired program place op [] = refl
ones-paired program place op (l ∷ ls) = ap (λ t. infix_of op l (fixed (pos 1)) ∷ t) (ones-paired program place op ls)

ones-grounded : (program : Program) (place : Place) (n : ℕ) → GroundedList program (ones place n)
ones-grounded program place zero = tt
ones-grounded program place (suc n) = (tt, ones-grounded program place n)

pub bump-alike : (program : Program) (s : State) (temporaries : List ℤ) (held_behind : _) (work : List CoreTask) (rest : List Task) (line before : ℕ) (place : Place) (target : Target) (op : Binary)
    → Sturdy program s temporaries → ReadyForm program (bump target op) → ReadyTasks program rest
    → SteppedAlike program (performed program (record s { work = rest }) before line place (bump target op)) (core_first_done (plain_program program) (twin s temporaries held_behind work) (form_tasks program before line (bump target op) (work_core program rest)))
bump-alike program s temporaries held_behind work rest line before place target op h g k =
    let size = length (elements program.project.consts s.cells (target_expr target)) in
    let whole = changed target op place (expr place place (items (ones place size))) in
    let long : length (target_elements program target) ≡ size =
    sym (length-map (target_elements program target) (core_value (with_room s.cells temporaries))) ∙ ap length (values-alike program s.cells temporaries (target_expr target) h.laid g.1) in
    let same : elements_of program whole ≡ bumped_elements program target op =
    ap (λ n. paired_elements op (target_elements program target) (elements_of_list program (ones place n))) (sym long) ∙ ones-paired program place op (target_elements program target) in
    target-assigned program s temporaries held_behind work rest line before target (bumped_elements program target op) (elements program.project.consts s.cells whole) h g.0 k
    (λ t. ap (map (core_value (with_room s.cells t))) (sym same) ∙ values-alike program s.cells t whole h.laid (g.1, ones-grounded program place size))

-- Branches and loops

-- the tasks of statements that are ready
body-ahead : (program : Program) (before : ℕ) (ss : Stmts) → ReadyStmts program ss → Ahead program (tasks before ss) (core_tasks before (all_plain program ss no_core))
body-ahead program before ss g = record { onto = body-onto program before ss; ready = ready-tasks program before ss g }

both-ahead : (program : Program) (xs ys : List Task) (cx cy : List CoreTask) → Ahead program xs cx → Ahead program ys cy → Ahead program (xs ++ ys) (cx ++ cy)
both-ahead program xs ys cx cy h k = record { onto = onto-append program xs ys cx cy h.onto k.onto; ready = ready-append program xs ys h.ready k.ready }

pub if-alike : (program : Program) (s : State) (temporaries : List ℤ) (held_behind : _) (work : List CoreTask) (rest : List Task) (line before : ℕ) (place : Place) (c : Expr) (body other : Stmts)
    → Sturdy program s temporaries → ReadyForm program (if_then c body other) → ReadyTasks program rest
    → SteppedAlike program (performed program (record s { work = rest }) before line place (if_then c body other)) (core_first_done (plain_program program) (twin s temporaries held_behind work) (form_tasks program before line (if_then c body other) (work_core program rest)))
if-alike program s temporaries held_behind work rest line before place c body other h g k =
    let test = condition program s temporaries c h g.0 in
    let first = body-ahead program before body g.1 in
    let leave : Ahead program (leaving line other) (core_leaving line (all_plain program other no_core)) = record { onto = leaving-onto program line other g.2; ready = ready-leaving program line other } in
    rw (test.computed, test.same, body-whens program body)
    (tested-alike program s temporaries held_behind rest line test.r (tasks before body ++ leaving line other) (tasks (before + list_whens body) other)
    (core_tasks before (all_plain program body no_core) ++ core_leaving line (all_plain program other no_core)) (core_tasks (before + list_whens body) (all_plain program other no_core)) h
    (both-ahead program _ _ _ _ first leave) (body-ahead program (before + list_whens body) other g.2) k)

pub when-alike : (program : Program) (s : State) (temporaries : List ℤ) (held_behind : _) (work : List CoreTask) (rest : List Task) (line before : ℕ) (place : Place) (c : Expr) (body : Stmts)
    → Sturdy program s temporaries → ReadyForm program (when_do c body) → ReadyTasks program rest
    → SteppedAlike program (performed program (record s { work = rest }) before line place (when_do c body)) (core_first_done (plain_program program) (twin s temporaries held_behind work) (form_tasks program before line (when_do c body) (work_core program rest)))
when-alike program s temporaries held_behind work rest line before place c body h g k =
    let test = condition program s temporaries c h g.0 in
    rw (test.computed, test.same)
    (edge-alike program s temporaries held_behind rest line before test.r (tasks (suc before) body) (core_tasks (suc before) (all_plain program body no_core)) h (body-ahead program (suc before) body g.1) k)

pub while-alike : (program : Program) (s : State) (temporaries : List ℤ) (held_behind : _) (work : List CoreTask) (rest : List Task) (line before : ℕ) (place : Place) (c : Expr) (body : Stmts)
    → Sturdy program s temporaries → ReadyForm program (while_do c body) → ReadyTasks program rest
    → SteppedAlike program (performed program (record s { work = rest }) before line place (while_do c body)) (core_first_done (plain_program program) (twin s temporaries held_behind work) (form_tasks program before line (while_do c body) (work_core program rest)))
while-alike program s temporaries held_behind work rest line before place c body h g k =
    let test = condition program s temporaries c h g.0 in
    let again : Ahead program (turn (perform before (stmt line place (while_do c body))) ∷ []) (turn_core (perform_core before (while_loop program line c body)) ∷ []) = record { onto = λ rest. refl; ready = (g, tt) } in
    rw (test.computed, test.same)
    (tested-alike program s temporaries held_behind rest line test.r (tasks before body ++ turn (perform before (stmt line place (while_do c body))) ∷ []) []
    (core_tasks before (all_plain program body no_core) ++ turn_core (perform_core before (while_loop program line c body)) ∷ []) [] h
    (both-ahead program _ _ _ _ (body-ahead program before body g.1) again) (nothing-ahead program) k)

-- `for`

-- the cell of the variable of a `for`
pub record Counter (program : Program) (s : State) (temporaries : List ℤ) (name : Name) : Type 0 where
  pub found : variable_place program name ≡ Some (start_of program name, 1)
  pub reads : slice_index_or (with_room s.cells temporaries) (start_of program name) (pos 0) ≡ scalar s.cells name

sized-place : (o : Option (ℕ × ℕ)) → IsSized o 1 → o ≡ Some (start_in o, 1)
sized-place None g = absurd g
sized-place (Some p) g = ap (λ n. Some (p.0, n)) g

counter : (program : Program) (s : State) (temporaries : List ℤ) (name : Name) → Sturdy program s temporaries → IsSized (variable_place program name) 1 → Counter program s temporaries name
counter program s temporaries name h g =
    let found : variable_place program name ≡ Some (start_of program name, 1) = sized-place (variable_place program name) g in
    let r = reading program s.cells temporaries name (start_of program name) 1 h.laid found in
    let one : 0 < 1 = omega arith in
    let none : start_of program name + 0 ≡ start_of program name = omega arith in
    record { found = found; reads = ap (λ k. slice_index_or (with_room s.cells temporaries) k (pos 0)) (sym none) ∙ r.reads 0 one ∙ rw r.found refl }

truth-true : (b : Bool) → is_true (if b then pos 1 else pos 0) ≡ b
truth-true true = refl
truth-true false = refl

-- the test of a `for`
within-alike : (v last by : ℤ) (cells : List ℤ) (a : ℕ) → slice_index_or cells a (pos 0) ≡ v
    → (w : ℤ) × (core_value cells (infix_of (if int_lt by (pos 0) then AtLeast else AtMost) (cell a) (fixed last)) ≡ Ok w) × (is_true w ≡ is_within by v last)
within-alike v last by cells a e = pick (int_lt by (pos 0)) refl
  where
    pick : (b : Bool) → int_lt by (pos 0) ≡ b → (w : ℤ) × (core_value cells (infix_of (if b then AtLeast else AtMost) (cell a) (fixed last)) ≡ Ok w) × (is_true w ≡ (if b then not (int_lt v last) else not (int_lt last v)))
    pick true t = (truth (not (int_lt v last)), rw e refl, truth-true (not (int_lt v last)))
    pick false t = (truth (not (int_lt last v)), rw e refl, truth-true (not (int_lt last v)))

-- a store in the one cell of a variable, behind which a task of the source is the next
counter-stored : (program : Program) (s : State) (temporaries : List ℤ) (held_behind : _) (work : List CoreTask) (rest first : List Task) (line before : ℕ) (name : Name) (a : ℕ) (e : CoreExpr) (v : ℤ) (behind : List CoreTask)
    → Sturdy program s temporaries → variable_place program name ≡ Some (a, 1) → ReadyTasks program first → ReadyTasks program rest → core_value (with_room s.cells temporaries) e ≡ Ok v → behind ≡ work_core program (first ++ rest)
    → SteppedAlike program (going_on (stored (record s { work = rest }) name 0 v) first)
    (core_first_done (plain_program program) (twin s temporaries held_behind work) (perform_core before (core_stmt line (store (into a) e)) ∷ behind))
counter-stored program s temporaries held_behind work rest first line before name a e v behind h at g k value same =
    let one : 0 < 1 = omega arith in
    let none : a + 0 ≡ a = omega arith in
    let after = core-store program s temporaries held_behind work behind name a 1 0 before line e v h at one value in
    let after_a = subst (λ n. core_first_done (plain_program program) (twin s temporaries held_behind work) (perform_core before (core_stmt line (store (into n) e)) ∷ behind) ≡ record { state = twin (stored s name 0 v) temporaries held_behind behind; report = None }) none after in
    rw (after_a, same) (record {
      states = alike-twin program (record (stored s name 0 v) { work = first ++ rest }) temporaries held_behind (work_core program (first ++ rest))
          (record { laid = (stored-sturdy program s temporaries name 0 v h).laid; held_laid = h.held_laid; room = h.room }) (settled program temporaries (first ++ rest) (ready-append program first rest g k));
      reports = refl;
    })

pub for-alike : (program : Program) (s : State) (temporaries : List ℤ) (held_behind : _) (work : List CoreTask) (rest : List Task) (line before : ℕ) (place : Place) (head : ForHead) (body : Stmts)
    → Sturdy program s temporaries → ReadyForm program (for_do head body) → ReadyTasks program rest
    → SteppedAlike program (performed program (record s { work = rest }) before line place (for_do head body)) (core_first_done (plain_program program) (twin s temporaries held_behind work) (form_tasks program before line (for_do head body) (work_core program rest)))
for-alike program s temporaries held_behind work rest line before place head body h g k =
    let c = counter program s temporaries head.name h g.0 in
    let first = constant program.project.consts head.first in
    counter-stored program s temporaries held_behind work rest (try line before head body ∷ []) line before head.name (start_of program head.name) (fixed first) first
    (perform_core before (for_loop program line head body) ∷ work_core program rest) h c.found ((g.0, g.1), tt) k refl refl

pub try-alike : (program : Program) (s : State) (temporaries : List ℤ) (held_behind : _) (work : List CoreTask) (rest : List Task) (line before : ℕ) (head : ForHead) (body : Stmts)
    → Sturdy program s temporaries → ReadyTask program (try line before head body) → ReadyTasks program rest
    → SteppedAlike program (done program (record s { work = rest }) (try line before head body)) (core_first_done (plain_program program) (twin s temporaries held_behind work) (work_core program (try line before head body ∷ rest)))
try-alike program s temporaries held_behind work rest line before head body h g k =
    let c = counter program s temporaries head.name h g.0 in
    let by = step_of program.project.consts head.step in
    let last = constant program.project.consts head.last in
    let test = within-alike (scalar s.cells head.name) last by (with_room s.cells temporaries) (start_of program head.name) c.reads in
    let same : core_value (with_room s.cells temporaries) (for_test program head) ≡ Ok test.0 = test.1 in
    let around : Ahead program (tasks before body ++ next line before head body ∷ [])
    (core_tasks before (all_plain program body (core_stmts (next_store program line head) no_core)) ++ turn_core (perform_core before (for_loop program line head body)) ∷ []) =
    record { onto = for-onto program before line head body; ready = ready-append program (tasks before body) (next line before head body ∷ []) (ready-tasks program before body g.1) (g, tt) } in
    rw (same, ← test.2)
    (tested-alike program s temporaries held_behind rest line (Ok test.0) (tasks before body ++ next line before head body ∷ []) []
    (core_tasks before (all_plain program body (core_stmts (next_store program line head) no_core)) ++ turn_core (perform_core before (for_loop program line head body)) ∷ []) [] h
    around (nothing-ahead program) k)

pub next-alike : (program : Program) (s : State) (temporaries : List ℤ) (held_behind : _) (work : List CoreTask) (rest : List Task) (line before : ℕ) (head : ForHead) (body : Stmts)
    → Sturdy program s temporaries → ReadyTask program (next line before head body) → ReadyTasks program rest
    → SteppedAlike program (done program (record s { work = rest }) (next line before head body)) (core_first_done (plain_program program) (twin s temporaries held_behind work) (work_core program (next line before head body ∷ rest)))
next-alike program s temporaries held_behind work rest line before head body h g k =
    let c = counter program s temporaries head.name h g.0 in
    let by = step_of program.project.consts head.step in
    let value : core_value (with_room s.cells temporaries) (infix_of Add (cell (start_of program head.name)) (fixed by)) ≡ Ok (wrapped (scalar s.cells head.name +ℤ by)) = rw c.reads refl in
    counter-stored program s temporaries held_behind work rest (turn (try line before head body) ∷ []) line (before + list_whens body) head.name (start_of program head.name) (infix_of Add (cell (start_of program head.name)) (fixed by)) (wrapped (scalar s.cells head.name +ℤ by))
    (turn_core (perform_core before (for_loop program line head body)) ∷ work_core program rest) h c.found ((g.0, g.1), tt) k value refl
