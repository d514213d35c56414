-- The work of a source as that of its element form, task by task, each in front of what stands behind it.
use Rattle.std.proofs.Common.{◌≡◌, refl, sym, ◌∙◌, ap, ℕ, suc, ◌+◌, List, [], ◌∷◌, ◌++◌, arith, Option, Some, None, length, append_assoc, add-zero}
use Rattle.aseba_tree.specs.Code.{Name, Expr, Exprs, Target, ForHead, stmt, StmtForm, assign, change, bump, if_then, when_do, while_do, for_do, emit, callsub, call, return, Stmts, no_stmts, stmts, Place, Part}
use Rattle.aseba_tree.specs.Core.{CoreStmt, core_stmt, store, branch, on_edge, loop, send, enter, use_native, go_back, CoreStmts, no_core, core_stmts}
use Rattle.aseba_tree.specs.CoreExpr.{CoreExpr, cell, into, into_index}
use Rattle.aseba_tree.specs.CoreStep.{core_whens, core_list_whens, CoreTask, perform_core, leave_core, turn_core, back_core, finish_core, core_tasks}
use Rattle.aseba_tree.specs.Elements.{elements_of, changed_elements, bumped_elements, element_of, target_index}
use Rattle.aseba_tree.specs.Layout.{cells_of_variables}
use Rattle.aseba_tree.specs.Numbers.{fresh_elements, fresh_of_list, given_lengths}
use Rattle.aseba_tree.specs.State.{Program, form_whens, list_whens, Task, perform, put, leave, turn, try, next, back, finish, tasks}
use Rattle.aseba_tree.specs.Step.{native_place}
use Rattle.aseba_expand.specs.Plain.{moved, start_of, size_of, part_addresses, kept, stored_in, stored_by, assigned_by, argument_start, argument_starts, sent_number, sending, sub_place, for_test, for_first, for_next, plain_form, all_plain}

-- Rows of stores, in front of what is left

abbrev pub kept_tasks : (before line from : ℕ) → List CoreExpr → List CoreTask → List CoreTask
kept_tasks before line from [] rest = rest
kept_tasks before line from (e ∷ es) rest = perform_core before (core_stmt line (store (into from) e)) ∷ kept_tasks before line (suc from) es rest

abbrev pub moved_tasks : (before line from : ℕ) → List ℕ → List CoreTask → List CoreTask
moved_tasks before line from [] rest = rest
moved_tasks before line from (to ∷ tos) rest = perform_core before (core_stmt line (store (into to) (cell from))) ∷ moved_tasks before line (suc from) tos rest

abbrev pub stored_tasks : (before line temporary : ℕ) → List ℕ → List CoreExpr → List CoreTask → List CoreTask
stored_tasks before line temporary (to ∷ tos) (e ∷ []) rest = perform_core before (core_stmt line (store (into to) e)) ∷ rest
stored_tasks before line temporary tos es rest = kept_tasks before line temporary es (moved_tasks before line temporary tos rest)

abbrev pub indexed_tasks : (before line start size : ℕ) → CoreExpr → List CoreExpr → List CoreTask → List CoreTask
indexed_tasks before line start size i [] rest = rest
indexed_tasks before line start size i (e ∷ es) rest = perform_core before (core_stmt line (store (into_index start size i) e)) ∷ indexed_tasks before line start size i es rest

abbrev pub assigned_tasks : Program → (before line : ℕ) → Target → Option CoreExpr → List CoreExpr → List CoreTask → List CoreTask
assigned_tasks program before line target None es rest = stored_tasks before line (cells_of_variables program) (part_addresses program target.name target.part) es rest
assigned_tasks program before line target (Some i) es rest = indexed_tasks before line (start_of program target.name) (size_of program target.name) i es rest

-- a target by its name's place, its name and its part
abbrev pub target_of : Place → Name → Part → Target
target_of place name part = record { place = place; name = name; part = part }

abbrev pub assigning_tasks : Program → (before line : ℕ) → Target → List CoreExpr → List CoreTask → List CoreTask
assigning_tasks program before line target es rest = assigned_tasks program before line target (target_index program target.part) es rest

abbrev pub sending_tasks : Program → (before line : ℕ) → Name → Option Expr → List CoreTask → List CoreTask
sending_tasks program before line name None rest = perform_core before (core_stmt line (send (sent_number program name) 0 0)) ∷ rest
sending_tasks program before line name (Some e) rest =
    kept_tasks before line (cells_of_variables program) (fresh_elements program e)
    (perform_core before (core_stmt line (send (sent_number program name) (argument_start program (cells_of_variables program) e) (length (elements_of program e)))) ∷ rest)

-- the call of a native, whose arguments' own elements are in temporaries
abbrev pub native_call : Program → (line : ℕ) → Name → Exprs → CoreStmt
native_call program line name es =
    core_stmt line (use_native (native_place program.project name) (argument_starts program (cells_of_variables program) es ++ given_lengths program name es))

abbrev pub calling_tasks : Program → (before line : ℕ) → Name → Exprs → List CoreTask → List CoreTask
calling_tasks program before line name es rest =
    kept_tasks before line (cells_of_variables program) (fresh_of_list program es) (perform_core before (native_call program line name es) ∷ rest)

-- Statements

abbrev pub while_loop : Program → (line : ℕ) → Expr → Stmts → CoreStmt
while_loop program line c body = core_stmt line (loop (element_of program c) (all_plain program body no_core))

abbrev pub next_store : Program → (line : ℕ) → ForHead → CoreStmt
next_store program line head = core_stmt line (store (into (start_of program head.name)) (for_next program head))

abbrev pub for_loop : Program → (line : ℕ) → ForHead → Stmts → CoreStmt
for_loop program line head body = core_stmt line (loop (for_test program head) (all_plain program body (core_stmts (next_store program line head) no_core)))

abbrev pub form_tasks : Program → (before line : ℕ) → StmtForm → List CoreTask → List CoreTask
form_tasks program before line (assign target e) rest = assigning_tasks program before line target (elements_of program e) rest
form_tasks program before line (change target op e) rest = assigning_tasks program before line target (changed_elements program target op e) rest
form_tasks program before line (bump target op) rest = assigning_tasks program before line target (bumped_elements program target op) rest
form_tasks program before line (if_then c body other) rest =
    perform_core before (core_stmt line (branch (element_of program c) (all_plain program body no_core) (all_plain program other no_core))) ∷ rest
form_tasks program before line (when_do c body) rest = perform_core before (core_stmt line (on_edge (element_of program c) (all_plain program body no_core))) ∷ rest
form_tasks program before line (while_do c body) rest = perform_core before (while_loop program line c body) ∷ rest
form_tasks program before line (for_do head body) rest =
    perform_core before (core_stmt line (store (into (start_of program head.name)) (for_first program head))) ∷ perform_core before (for_loop program line head body) ∷ rest
form_tasks program before line (emit name argument) rest = sending_tasks program before line name argument rest
form_tasks program before line (callsub name) rest = perform_core before (core_stmt line (enter (sub_place program name))) ∷ rest
form_tasks program before line (call name es) rest = calling_tasks program before line name es rest
form_tasks program before line return rest = perform_core before (core_stmt line go_back) ∷ rest

-- Work

abbrev pub turned : Program → Task → List CoreTask → List CoreTask
turned program (perform before (stmt line place (while_do c body))) rest = turn_core (perform_core before (while_loop program line c body)) ∷ rest
turned program (try line before head body) rest = turn_core (perform_core before (for_loop program line head body)) ∷ rest
turned program _ rest = rest

-- the tasks of the element form for a task of the source that stores nothing that was computed
abbrev pub task_onto : Program → Task → List CoreTask → List CoreTask
task_onto program (perform before (stmt line place form)) rest = form_tasks program before line form rest
task_onto program (put line name place v) rest = rest
task_onto program (leave line) rest = leave_core line ∷ rest
task_onto program (turn t) rest = turned program t rest
task_onto program (try line before head body) rest = perform_core before (for_loop program line head body) ∷ rest
task_onto program (next line before head body) rest =
    perform_core (before + list_whens body) (next_store program line head) ∷ turn_core (perform_core before (for_loop program line head body)) ∷ rest
task_onto program (back line) rest = back_core line ∷ rest
task_onto program (finish line) rest = finish_core line ∷ rest

abbrev pub work_onto : Program → List Task → List CoreTask → List CoreTask
work_onto program [] rest = rest
work_onto program (t ∷ ts) rest = task_onto program t (work_onto program ts rest)

abbrev pub work_core : Program → List Task → List CoreTask
work_core program ts = work_onto program ts []

pub work-append : (program : Program) (xs ys : List Task) (rest : List CoreTask) → work_onto program (xs ++ ys) rest ≡ work_onto program xs (work_onto program ys rest)
work-append program [] ys rest = refl
work-append program (x ∷ xs) ys rest = ap (task_onto program x) (work-append program xs ys rest)

-- these tasks of a source, and those of its element form, in front of anything
abbrev pub Onto : Program → List Task → List CoreTask → Type 0
Onto program ts core_ts = (rest : List CoreTask) → core_ts ++ rest ≡ work_onto program ts rest

pub onto-append : (program : Program) (xs ys : List Task) (cx cy : List CoreTask) → Onto program xs cx → Onto program ys cy → Onto program (xs ++ ys) (cx ++ cy)
onto-append program xs ys cx cy h k rest =
    append_assoc cx cy rest ∙ ap (λ l. cx ++ l) (k rest) ∙ h (work_onto program ys rest) ∙ sym (work-append program xs ys rest)

-- How many `when`s

kept-whens : (line from : ℕ) (es : List CoreExpr) (behind : CoreStmts) → core_list_whens (kept line from es behind) ≡ core_list_whens behind
kept-whens line from [] behind = refl
kept-whens line from (e ∷ es) behind = let inner = kept-whens line (suc from) es behind in omega (arith, inner)

moved-whens : (line from : ℕ) (tos : List ℕ) (behind : CoreStmts) → core_list_whens (moved line from tos behind) ≡ core_list_whens behind
moved-whens line from [] behind = refl
moved-whens line from (to ∷ tos) behind = let inner = moved-whens line (suc from) tos behind in omega (arith, inner)

stored-whens : (line temporary : ℕ) (tos : List ℕ) (es : List CoreExpr) (behind : CoreStmts) → core_list_whens (stored_in line temporary tos es behind) ≡ core_list_whens behind
stored-whens line temporary [] [] behind = refl
stored-whens line temporary [] (e ∷ es) behind = kept-whens line temporary (e ∷ es) behind
stored-whens line temporary (to ∷ tos) [] behind = moved-whens line temporary (to ∷ tos) behind
stored-whens line temporary (to ∷ tos) (e ∷ []) behind = omega arith
stored-whens line temporary (to ∷ tos) (e ∷ f ∷ es) behind =
    kept-whens line temporary (e ∷ f ∷ es) (moved line temporary (to ∷ tos) behind) ∙ moved-whens line temporary (to ∷ tos) behind

indexed-whens : (line start size : ℕ) (i : CoreExpr) (es : List CoreExpr) (behind : CoreStmts) → core_list_whens (stored_by line start size i es behind) ≡ core_list_whens behind
indexed-whens line start size i [] behind = refl
indexed-whens line start size i (e ∷ es) behind = let inner = indexed-whens line start size i es behind in omega (arith, inner)

assigned-whens : (program : Program) (line : ℕ) (target : Target) (i : Option CoreExpr) (es : List CoreExpr) (behind : CoreStmts) → core_list_whens (assigned_by program line target i es behind) ≡ 0 + core_list_whens behind
assigned-whens program line target None es behind =
    let inner = stored-whens line (cells_of_variables program) (part_addresses program target.name target.part) es behind in omega (arith, inner)
assigned-whens program line target (Some i) es behind =
    let inner = indexed-whens line (start_of program target.name) (size_of program target.name) i es behind in omega (arith, inner)

sending-whens : (program : Program) (line : ℕ) (name : Name) (argument : Option Expr) (behind : CoreStmts) → core_list_whens (sending program line name argument behind) ≡ 0 + core_list_whens behind
sending-whens program line name None behind = refl
sending-whens program line name (Some e) behind = kept-whens line (cells_of_variables program) (fresh_elements program e) _

mutual
  pub form-whens : (program : Program) (line : ℕ) (form : StmtForm) (behind : CoreStmts) → core_list_whens (plain_form program line form behind) ≡ form_whens form + core_list_whens behind
  form-whens program line (assign target e) behind = assigned-whens program line target (target_index program target.part) _ behind
  form-whens program line (change target op e) behind = assigned-whens program line target (target_index program target.part) _ behind
  form-whens program line (bump target op) behind = assigned-whens program line target (target_index program target.part) _ behind
  form-whens program line (if_then c body other) behind =
      let b : core_list_whens (all_plain program body no_core) ≡ list_whens body + 0 = list-whens program body no_core in
      let o : core_list_whens (all_plain program other no_core) ≡ list_whens other + 0 = list-whens program other no_core in
      omega (arith, b, o)
  form-whens program line (when_do c body) behind = let b : core_list_whens (all_plain program body no_core) ≡ list_whens body + 0 = list-whens program body no_core in omega (arith, b)
  form-whens program line (while_do c body) behind = let b : core_list_whens (all_plain program body no_core) ≡ list_whens body + 0 = list-whens program body no_core in omega (arith, b)
  form-whens program line (for_do head body) behind =
      let last = core_stmts (next_store program line head) no_core in
      let b : core_list_whens (all_plain program body last) ≡ list_whens body + (0 + 0) = list-whens program body last in omega (arith, b)
  form-whens program line (emit name argument) behind = sending-whens program line name argument behind
  form-whens program line (callsub name) behind = refl
  form-whens program line (call name es) behind = kept-whens line (cells_of_variables program) (fresh_of_list program es) _
  form-whens program line return behind = refl

  -- statements hold as many `when`s as their element form
  pub list-whens : (program : Program) (ss : Stmts) (behind : CoreStmts) → core_list_whens (all_plain program ss behind) ≡ list_whens ss + core_list_whens behind
  list-whens program no_stmts behind = omega arith
  list-whens program (stmts (stmt line place form) ss) behind =
      let a = form-whens program line form (all_plain program ss behind) in let b = list-whens program ss behind in omega (arith, a, b)

pub body-whens : (program : Program) (ss : Stmts) → core_list_whens (all_plain program ss no_core) ≡ list_whens ss
body-whens program ss = list-whens program ss no_core ∙ add-zero (list_whens ss)

-- The tasks of the element form

-- no `when` stands between
flat : (before : ℕ) (behind : CoreStmts) (rest : List CoreTask) → core_tasks (before + 0) behind ++ rest ≡ core_tasks before behind ++ rest
flat before behind rest = ap (λ n. core_tasks n behind ++ rest) (add-zero before)

kept-tasks : (before line from : ℕ) (es : List CoreExpr) (behind : CoreStmts) (rest : List CoreTask)
    → core_tasks before (kept line from es behind) ++ rest ≡ kept_tasks before line from es (core_tasks before behind ++ rest)
kept-tasks before line from [] behind rest = refl
kept-tasks before line from (e ∷ es) behind rest =
    ap (λ t. perform_core before (core_stmt line (store (into from) e)) ∷ t) (flat before (kept line (suc from) es behind) rest ∙ kept-tasks before line (suc from) es behind rest)

moved-tasks : (before line from : ℕ) (tos : List ℕ) (behind : CoreStmts) (rest : List CoreTask)
    → core_tasks before (moved line from tos behind) ++ rest ≡ moved_tasks before line from tos (core_tasks before behind ++ rest)
moved-tasks before line from [] behind rest = refl
moved-tasks before line from (to ∷ tos) behind rest =
    ap (λ t. perform_core before (core_stmt line (store (into to) (cell from))) ∷ t) (flat before (moved line (suc from) tos behind) rest ∙ moved-tasks before line (suc from) tos behind rest)

by-temporaries : (before line temporary : ℕ) (tos : List ℕ) (es : List CoreExpr) (behind : CoreStmts) (rest : List CoreTask)
    → core_tasks before (kept line temporary es (moved line temporary tos behind)) ++ rest
    ≡ kept_tasks before line temporary es (moved_tasks before line temporary tos (core_tasks before behind ++ rest))
by-temporaries before line temporary tos es behind rest =
    kept-tasks before line temporary es (moved line temporary tos behind) rest ∙ ap (kept_tasks before line temporary es) (moved-tasks before line temporary tos behind rest)

stored-tasks : (before line temporary : ℕ) (tos : List ℕ) (es : List CoreExpr) (behind : CoreStmts) (rest : List CoreTask)
    → core_tasks before (stored_in line temporary tos es behind) ++ rest ≡ stored_tasks before line temporary tos es (core_tasks before behind ++ rest)
stored-tasks before line temporary [] [] behind rest = refl
stored-tasks before line temporary [] (e ∷ es) behind rest = by-temporaries before line temporary [] (e ∷ es) behind rest
stored-tasks before line temporary (to ∷ tos) [] behind rest = by-temporaries before line temporary (to ∷ tos) [] behind rest
stored-tasks before line temporary (to ∷ tos) (e ∷ []) behind rest = ap (λ t. perform_core before (core_stmt line (store (into to) e)) ∷ t) (flat before behind rest)
stored-tasks before line temporary (to ∷ tos) (e ∷ f ∷ es) behind rest = by-temporaries before line temporary (to ∷ tos) (e ∷ f ∷ es) behind rest

indexed-tasks : (before line start size : ℕ) (i : CoreExpr) (es : List CoreExpr) (behind : CoreStmts) (rest : List CoreTask)
    → core_tasks before (stored_by line start size i es behind) ++ rest ≡ indexed_tasks before line start size i es (core_tasks before behind ++ rest)
indexed-tasks before line start size i [] behind rest = refl
indexed-tasks before line start size i (e ∷ es) behind rest =
    ap (λ t. perform_core before (core_stmt line (store (into_index start size i) e)) ∷ t) (flat before (stored_by line start size i es behind) rest ∙ indexed-tasks before line start size i es behind rest)

assigned-tasks : (program : Program) (before line : ℕ) (target : Target) (i : Option CoreExpr) (es : List CoreExpr) (behind : CoreStmts) (rest : List CoreTask)
    → core_tasks before (assigned_by program line target i es behind) ++ rest ≡ assigned_tasks program before line target i es (core_tasks (before + 0) behind ++ rest)
assigned-tasks program before line target None es behind rest =
    stored-tasks before line (cells_of_variables program) (part_addresses program target.name target.part) es behind rest
    ∙ ap (stored_tasks before line (cells_of_variables program) (part_addresses program target.name target.part) es) (sym (flat before behind rest))
assigned-tasks program before line target (Some i) es behind rest =
    indexed-tasks before line (start_of program target.name) (size_of program target.name) i es behind rest
    ∙ ap (indexed_tasks before line (start_of program target.name) (size_of program target.name) i es) (sym (flat before behind rest))

-- elements that are kept, and then one more statement
kept-first : (before line from : ℕ) (es : List CoreExpr) (s : CoreStmt) (behind : CoreStmts) (rest : List CoreTask) → core_whens s ≡ 0
    → core_tasks before (kept line from es (core_stmts s behind)) ++ rest ≡ kept_tasks before line from es (perform_core before s ∷ (core_tasks (before + 0) behind ++ rest))
kept-first before line from es s behind rest h =
    kept-tasks before line from es (core_stmts s behind) rest ∙ ap (λ n. kept_tasks before line from es (perform_core before s ∷ (core_tasks (before + n) behind ++ rest))) h

sending-tasks : (program : Program) (before line : ℕ) (name : Name) (argument : Option Expr) (behind : CoreStmts) (rest : List CoreTask)
    → core_tasks before (sending program line name argument behind) ++ rest ≡ sending_tasks program before line name argument (core_tasks (before + 0) behind ++ rest)
sending-tasks program before line name None behind rest = refl
sending-tasks program before line name (Some e) behind rest = kept-first before line (cells_of_variables program) (fresh_elements program e) _ behind rest refl

form-onto : (program : Program) (before line : ℕ) (form : StmtForm) (behind : CoreStmts) (rest : List CoreTask)
    → core_tasks before (plain_form program line form behind) ++ rest ≡ form_tasks program before line form (core_tasks (before + form_whens form) behind ++ rest)
form-onto program before line (assign target e) behind rest = assigned-tasks program before line target (target_index program target.part) _ behind rest
form-onto program before line (change target op e) behind rest = assigned-tasks program before line target (target_index program target.part) _ behind rest
form-onto program before line (bump target op) behind rest = assigned-tasks program before line target (target_index program target.part) _ behind rest
form-onto program before line (if_then c body other) behind rest = rw (body-whens program body, body-whens program other) refl
form-onto program before line (when_do c body) behind rest = rw (body-whens program body) refl
form-onto program before line (while_do c body) behind rest = rw (body-whens program body) refl
form-onto program before line (for_do head body) behind rest =
    let last = core_stmts (next_store program line head) no_core in
    let b : core_list_whens (all_plain program body last) ≡ list_whens body + (0 + 0) = list-whens program body last in
    let n : before + 0 + core_list_whens (all_plain program body last) ≡ before + list_whens body = omega (arith, b) in
    let none : before + 0 ≡ before = add-zero before in
    ap (λ t. perform_core before (core_stmt line (store (into (start_of program head.name)) (for_first program head))) ∷ t)
    (ap (λ m. perform_core (before + 0) (for_loop program line head body) ∷ (core_tasks m behind ++ rest)) n
    ∙ ap (λ m. perform_core m (for_loop program line head body) ∷ (core_tasks (before + list_whens body) behind ++ rest)) none)
form-onto program before line (emit name argument) behind rest = sending-tasks program before line name argument behind rest
form-onto program before line (callsub name) behind rest = refl
form-onto program before line (call name es) behind rest = kept-first before line (cells_of_variables program) (fresh_of_list program es) (native_call program line name es) behind rest refl
form-onto program before line return behind rest = refl

-- the tasks of statements are those of their element forms
pub tasks-onto : (program : Program) (before : ℕ) (ss : Stmts) (behind : CoreStmts) (rest : List CoreTask)
    → core_tasks before (all_plain program ss behind) ++ rest ≡ work_onto program (tasks before ss) (core_tasks (before + list_whens ss) behind ++ rest)
tasks-onto program before no_stmts behind rest = sym (flat before behind rest)
tasks-onto program before (stmts (stmt line place form) ss) behind rest =
    let n : before + form_whens form + list_whens ss ≡ before + (form_whens form + list_whens ss) = omega arith in
    form-onto program before line form (all_plain program ss behind) rest
    ∙ ap (form_tasks program before line form) (tasks-onto program (before + form_whens form) ss behind rest
    ∙ ap (λ m. work_onto program (tasks (before + form_whens form) ss) (core_tasks m behind ++ rest)) n)

pub body-onto : (program : Program) (before : ℕ) (ss : Stmts) → Onto program (tasks before ss) (core_tasks before (all_plain program ss no_core))
body-onto program before ss rest = tasks-onto program before ss no_core rest

-- the tasks of a loop's body with the step behind it, and the way back
pub for-onto : (program : Program) (before line : ℕ) (head : ForHead) (body : Stmts)
    → Onto program (tasks before body ++ next line before head body ∷ [])
    (core_tasks before (all_plain program body (core_stmts (next_store program line head) no_core)) ++ turn_core (perform_core before (for_loop program line head body)) ∷ [])
for-onto program before line head body rest =
    let last = core_stmts (next_store program line head) no_core in
    let again = turn_core (perform_core before (for_loop program line head body)) in
    append_assoc (core_tasks before (all_plain program body last)) (again ∷ []) rest ∙ tasks-onto program before body last (again ∷ rest)
    ∙ sym (work-append program (tasks before body) (next line before head body ∷ []) rest)
