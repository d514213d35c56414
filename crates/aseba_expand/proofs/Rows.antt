-- The first statement of each element form, and the tasks of statements that are ready.
use Rattle.std.proofs.Common.{◌≡◌, refl, ◌∙◌, subst, ℕ, ◌+◌, List, [], ◌∷◌, arith, Option, Some, None, length}
use Rattle.std.specs.List.{range_with_len}
use Rattle.std.proofs.lemmas.List.{length-map}
use Rattle.std.proofs.lemmas.List.FromFn.{length-range_with_len}
use Rattle.aseba_tree.specs.Code.{Name, Expr, Part, all, at, span, stmt, StmtForm, assign, change, bump, if_then, when_do, while_do, for_do, emit, callsub, call, return, Stmts, no_stmts, stmts, Place}
use Rattle.aseba_tree.specs.Core.{CoreForm, core_stmt, CoreStmts, no_core, core_stmts}
use Rattle.aseba_tree.specs.CoreExpr.{CoreExpr}
use Rattle.aseba_tree.specs.CoreStep.{CoreTask, core_leaving, leave_core, core_work_line}
use Rattle.aseba_tree.specs.Elements.{variable_place}
use Rattle.aseba_tree.specs.Layout.{cells_of_variables}
use Rattle.aseba_tree.specs.Numbers.{fresh_elements, fresh_of_list}
use Rattle.aseba_tree.specs.State.{Program, Task, perform, put, leave, turn, try, next, back, finish, tasks, whens}
use Rattle.aseba_tree.specs.Step.{leaving, work_line}
use Rattle.aseba_tree.specs.Value.{from_to}
use Rattle.aseba_expand.specs.Plain.{bound, kept, stored_in, assigning, sending, plain_form, all_plain}
use Rattle.aseba_expand.proofs.Ready.{IsSized, HasRoom, ReadyPart, ReadyForm, ReadyStmts, ReadyTasks}
use Rattle.aseba_expand.proofs.Tasks.{kept_tasks, stored_tasks, assigning_tasks, sending_tasks, form_tasks, work_core, Onto, target_of}

-- the statements begin with one of that line
abbrev pub Begins : (line : ℕ) → CoreStmts → Type 0
Begins line no_core = ⊥
Begins line (core_stmts (core_stmt own form) ss) = own ≡ line

-- so do their tasks
abbrev pub BeginsWork : (line : ℕ) → List CoreTask → Type 0
BeginsWork line work = core_work_line work ≡ line

-- Statements

kept-begins : (line from : ℕ) (es : List CoreExpr) (form : CoreForm) (ss : CoreStmts) → Begins line (kept line from es (core_stmts (core_stmt line form) ss))
kept-begins line from [] form ss = refl
kept-begins line from (e ∷ es) form ss = refl

stored-begins : (program : Program) (line : ℕ) (tos : List ℕ) (es : List CoreExpr) (behind : CoreStmts) → length tos ≡ length es → HasRoom program es → Begins line (stored_in line (cells_of_variables program) tos es behind)
stored-begins program line tos [] behind e g = absurd g
stored-begins program line [] (x ∷ es) behind e g = absurd (omega (arith, e))
stored-begins program line (to ∷ tos) (x ∷ []) behind e g = refl
stored-begins program line (to ∷ tos) (x ∷ y ∷ es) behind e g = refl

assigned-begins : (program : Program) (line : ℕ) (here : Place) (name : Name) (part : Part) (place : Option (ℕ × ℕ)) (es : List CoreExpr) (behind : CoreStmts) → variable_place program name ≡ place → ReadyPart program name part es
    → Begins line (assigning program line (target_of here name part) es behind)
assigned-begins program line here name all None es behind e g = absurd (subst (λ o. IsSized o (length es)) e g.0)
assigned-begins program line here name all (Some p) es behind e g =
    rw e (stored-begins program line (range_with_len p.0 p.1) es behind (length-range_with_len p.0 p.1 ∙ subst (λ o. IsSized o (length es)) e g.0) g.1)
assigned-begins program line here name (at i) place [] behind e g = absurd g.3
assigned-begins program line here name (at i) place (x ∷ es) behind e g = refl
assigned-begins program line here name (span c d) place es behind e g = stored-begins program line _ es behind (length-map (from_to (bound program c) (bound program d)) _ ∙ g.1) g.2

sending-begins : (program : Program) (line : ℕ) (name : Name) (argument : Option Expr) (behind : CoreStmts) → Begins line (sending program line name argument behind)
sending-begins program line name None behind = refl
sending-begins program line name (Some e) behind = kept-begins line (cells_of_variables program) (fresh_elements program e) _ behind

pub form-begins : (program : Program) (line : ℕ) (form : StmtForm) (behind : CoreStmts) → ReadyForm program form → Begins line (plain_form program line form behind)
form-begins program line (assign target e) behind g = assigned-begins program line target.place target.name target.part _ _ behind refl g.0
form-begins program line (change target op e) behind g = assigned-begins program line target.place target.name target.part _ _ behind refl g.0
form-begins program line (bump target op) behind g = assigned-begins program line target.place target.name target.part _ _ behind refl g.0
form-begins program line (if_then c body other) behind g = refl
form-begins program line (when_do c body) behind g = refl
form-begins program line (while_do c body) behind g = refl
form-begins program line (for_do head body) behind g = refl
form-begins program line (emit name argument) behind g = sending-begins program line name argument behind
form-begins program line (callsub name) behind g = refl
form-begins program line (call name es) behind g = kept-begins line (cells_of_variables program) (fresh_of_list program es) _ behind
form-begins program line return behind g = refl

-- the end of a branch that has another behind it
begun-leaving : (line other : ℕ) (ss : CoreStmts) → Begins other ss → core_leaving line ss ≡ leave_core line ∷ []
begun-leaving line other no_core h = absurd h
begun-leaving line other (core_stmts (core_stmt own form) ss) h = refl

pub leaving-onto : (program : Program) (line : ℕ) (ss : Stmts) → ReadyStmts program ss → Onto program (leaving line ss) (core_leaving line (all_plain program ss no_core))
leaving-onto program line no_stmts g rest = refl
leaving-onto program line (stmts (stmt own place form) ss) g rest =
    rw (begun-leaving line own (plain_form program own form (all_plain program ss no_core)) (form-begins program own form (all_plain program ss no_core) g.0)) refl

pub ready-leaving : (program : Program) (line : ℕ) (ss : Stmts) → ReadyTasks program (leaving line ss)
ready-leaving program line no_stmts = tt
ready-leaving program line (stmts s ss) = (tt, tt)

pub ready-tasks : (program : Program) (before : ℕ) (ss : Stmts) → ReadyStmts program ss → ReadyTasks program (tasks before ss)
ready-tasks program before no_stmts g = tt
ready-tasks program before (stmts s ss) g = (g.0, ready-tasks program (before + whens s) ss g.1)

-- The line of the effect that is next

kept-line : (before line from : ℕ) (es : List CoreExpr) (rest : List CoreTask) → BeginsWork line rest → BeginsWork line (kept_tasks before line from es rest)
kept-line before line from [] rest h = h
kept-line before line from (e ∷ es) rest h = refl

stored-line : (program : Program) (before line : ℕ) (tos : List ℕ) (es : List CoreExpr) (rest : List CoreTask) → length tos ≡ length es → HasRoom program es → BeginsWork line (stored_tasks before line (cells_of_variables program) tos es rest)
stored-line program before line tos [] rest e g = absurd g
stored-line program before line [] (x ∷ es) rest e g = absurd (omega (arith, e))
stored-line program before line (to ∷ tos) (x ∷ []) rest e g = refl
stored-line program before line (to ∷ tos) (x ∷ y ∷ es) rest e g = refl

assigned-line : (program : Program) (before line : ℕ) (here : Place) (name : Name) (part : Part) (place : Option (ℕ × ℕ)) (es : List CoreExpr) (rest : List CoreTask) → variable_place program name ≡ place → ReadyPart program name part es
    → BeginsWork line (assigning_tasks program before line (target_of here name part) es rest)
assigned-line program before line here name all None es rest e g = absurd (subst (λ o. IsSized o (length es)) e g.0)
assigned-line program before line here name all (Some p) es rest e g =
    rw e (stored-line program before line (range_with_len p.0 p.1) es rest (length-range_with_len p.0 p.1 ∙ subst (λ o. IsSized o (length es)) e g.0) g.1)
assigned-line program before line here name (at i) place [] rest e g = absurd g.3
assigned-line program before line here name (at i) place (x ∷ es) rest e g = refl
assigned-line program before line here name (span c d) place es rest e g = stored-line program before line _ es rest (length-map (from_to (bound program c) (bound program d)) _ ∙ g.1) g.2

sending-line : (program : Program) (before line : ℕ) (name : Name) (argument : Option Expr) (rest : List CoreTask) → BeginsWork line (sending_tasks program before line name argument rest)
sending-line program before line name None rest = refl
sending-line program before line name (Some e) rest = kept-line before line (cells_of_variables program) (fresh_elements program e) _ refl

form-line : (program : Program) (before line : ℕ) (form : StmtForm) (rest : List CoreTask) → ReadyForm program form → BeginsWork line (form_tasks program before line form rest)
form-line program before line (assign target e) rest g = assigned-line program before line target.place target.name target.part _ _ rest refl g.0
form-line program before line (change target op e) rest g = assigned-line program before line target.place target.name target.part _ _ rest refl g.0
form-line program before line (bump target op) rest g = assigned-line program before line target.place target.name target.part _ _ rest refl g.0
form-line program before line (if_then c body other) rest g = refl
form-line program before line (when_do c body) rest g = refl
form-line program before line (while_do c body) rest g = refl
form-line program before line (for_do head body) rest g = refl
form-line program before line (emit name argument) rest g = sending-line program before line name argument rest
form-line program before line (callsub name) rest g = refl
form-line program before line (call name es) rest g = kept-line before line (cells_of_variables program) (fresh_of_list program es) _ refl
form-line program before line return rest g = refl

pub ready-line : (program : Program) (ts : List Task) → ReadyTasks program ts → core_work_line (work_core program ts) ≡ work_line ts
ready-line program [] g = refl
ready-line program (perform before (stmt line place form) ∷ ts) g = form-line program before line form (work_core program ts) g.0
ready-line program (put line name place v ∷ ts) g = absurd g.0
ready-line program (leave line ∷ ts) g = refl
ready-line program (turn (perform before (stmt line place (while_do c body))) ∷ ts) g = refl
ready-line program (turn (try line before head body) ∷ ts) g = refl
ready-line program (turn t ∷ ts) g = absurd g.0
ready-line program (try line before head body ∷ ts) g = refl
ready-line program (next line before head body ∷ ts) g = refl
ready-line program (back line ∷ ts) g = refl
ready-line program (finish line ∷ ts) g = refl
