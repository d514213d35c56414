-- Subroutines and returns, on both sides.
use Rattle.std.proofs.Common.{◌≡◌, refl, sym, ◌∙◌, ap, ℕ, suc, ◌+◌, true, false, Bool, ◌&&◌, List, [], ◌∷◌, ◌++◌, arith, Option, Some, None, map, take, subst}
use Rattle.std.specs.Bool.{beq}
use Rattle.std.specs.List.{position_or_len}
use Rattle.std.specs.Prelude.{cond, not, if◌then◌else◌, slice_get, sum_by, bytes_eq, option_map}
use Rattle.std.proofs.lemmas.List.Sums.{sum_by-cons}
use Rattle.aseba_tree.specs.Code.{Name, Handler, stmt, while_do, Expr, Target, StmtForm, assign, change, bump, if_then, when_do, for_do, emit, callsub, call, return}
use Rattle.aseba_tree.specs.Core.{CorePart}
use Rattle.aseba_tree.specs.CoreExpr.{CoreExpr}
use Rattle.aseba_tree.specs.CoreStep.{CoreTask, back_core, core_tasks, core_list_whens, entered, behind_back_core}
use Rattle.aseba_tree.specs.Elements.{target_index}
use Rattle.aseba_tree.specs.Layout.{cells_of_variables}
use Rattle.aseba_tree.specs.Numbers.{fresh_elements, fresh_of_list}
use Rattle.aseba_tree.specs.State.{Program, Task, perform, put, leave, turn, try, next, back, finish, tasks, list_whens, part_among, part_named, init_code}
use Rattle.aseba_tree.specs.Step.{sub_tasks, behind_back}
use Rattle.aseba_expand.specs.Plain.{plain_part, plain_core, sub_place, part_addresses, start_of, size_of}
use Rattle.aseba_expand.proofs.Ready.{ReadyTasks, ReadyParts}
use Rattle.aseba_expand.proofs.Rows.{ready-tasks}
use Rattle.aseba_expand.proofs.Steps.{ready-append}
use Rattle.aseba_expand.proofs.Tasks.{work_core, Onto, onto-append, body-onto, body-whens, kept_tasks, moved_tasks, stored_tasks, indexed_tasks, assigned_tasks, sending_tasks, form_tasks}

-- the tasks of the part at a place among these, where so many `when`s stand before them all
abbrev entered_from : ℕ → List CorePart → ℕ → Option CorePart → List CoreTask
entered_from before parts k None = []
entered_from before parts k (Some part) = core_tasks (before + sum_by (λ p. core_list_whens p.body) (take k parts)) part.body ++ back_core part.line ∷ []

abbrev is_sub_named : Name → Handler → Bool
is_sub_named name h = beq h.is_sub true && bytes_eq h.name name

sub-found : (program : Program) (name : Name) (hs : List Handler) (before : ℕ)
    → Onto program (sub_tasks (part_among true name before hs))
    (entered_from before (map (plain_part program) hs) (position_or_len (is_sub_named name) hs) (slice_get (map (plain_part program) hs) (position_or_len (is_sub_named name) hs)))
sub-found program name [] before = λ rest. refl
sub-found program name (h ∷ hs) before = pick h.is_sub (bytes_eq h.name name) (sub-found program name hs (before + list_whens h.body))
  where
    here : Onto program (tasks before h.body ++ back h.line ∷ []) (core_tasks (before + 0) (plain_part program h).body ++ back_core h.line ∷ [])
    here =
        let none : before + 0 ≡ before = omega arith in
        subst (λ n. Onto program (tasks before h.body ++ back h.line ∷ []) (core_tasks n (plain_part program h).body ++ back_core h.line ∷ [])) (sym none)
        (onto-append program (tasks before h.body) (back h.line ∷ []) (core_tasks before (plain_part program h).body) (back_core h.line ∷ []) (body-onto program before h.body) (λ rest. refl))

    further : (k : ℕ) (found : Option CorePart) → entered_from (before + list_whens h.body) (map (plain_part program) hs) k found ≡ entered_from before (map (plain_part program) (h ∷ hs)) (suc k) found
    further k None = refl
    further k (Some part) =
        let rest = sum_by (λ p. core_list_whens p.body) (take k (map (plain_part program) hs)) in
        let more : before + list_whens h.body + rest ≡ before + sum_by (λ p. core_list_whens p.body) (take (suc k) (map (plain_part program) (h ∷ hs))) =
        omega (arith, sum_by-cons (λ (p : CorePart). core_list_whens p.body) (plain_part program h) (take k (map (plain_part program) hs)), body-whens program h.body) in
        ap (λ n. core_tasks n part.body ++ back_core part.line ∷ []) more

    next : Onto program (sub_tasks (part_among true name (before + list_whens h.body) hs))
        (entered_from (before + list_whens h.body) (map (plain_part program) hs) (position_or_len (is_sub_named name) hs) (slice_get (map (plain_part program) hs) (position_or_len (is_sub_named name) hs)))
        → Onto program (sub_tasks (part_among true name (before + list_whens h.body) hs))
        (entered_from before (map (plain_part program) (h ∷ hs)) (suc (position_or_len (is_sub_named name) hs)) (slice_get (map (plain_part program) hs) (position_or_len (is_sub_named name) hs)))
    next deeper =
        let k = position_or_len (is_sub_named name) hs in
        subst (λ c. Onto program (sub_tasks (part_among true name (before + list_whens h.body) hs)) c) (further k (slice_get (map (plain_part program) hs) k)) deeper

    pick : (a b : Bool) → Onto program (sub_tasks (part_among true name (before + list_whens h.body) hs))
        (entered_from (before + list_whens h.body) (map (plain_part program) hs) (position_or_len (is_sub_named name) hs) (slice_get (map (plain_part program) hs) (position_or_len (is_sub_named name) hs)))
        → Onto program (sub_tasks (if beq a true && b then Some (before, h) else part_among true name (before + list_whens h.body) hs))
        (let k = cond (not (beq a true && b)) (1 + position_or_len (is_sub_named name) hs) 0 in entered_from before (map (plain_part program) (h ∷ hs)) k (slice_get (map (plain_part program) (h ∷ hs)) k))
    pick true true deeper = here
    pick true false deeper =
        let up : 1 + position_or_len (is_sub_named name) hs ≡ suc (position_or_len (is_sub_named name) hs) = omega arith in
        subst (λ k. Onto program (sub_tasks (part_among true name (before + list_whens h.body) hs)) (entered_from before (map (plain_part program) (h ∷ hs)) k (slice_get (map (plain_part program) (h ∷ hs)) k))) (sym up) (next deeper)
    pick false b deeper =
        let up : 1 + position_or_len (is_sub_named name) hs ≡ suc (position_or_len (is_sub_named name) hs) = omega arith in
        subst (λ k. Onto program (sub_tasks (part_among true name (before + list_whens h.body) hs)) (entered_from before (map (plain_part program) (h ∷ hs)) k (slice_get (map (plain_part program) (h ∷ hs)) k))) (sym up) (next deeper)

-- the tasks of a subroutine that is called
pub sub-onto : (program : Program) (name : Name)
    → Onto program (sub_tasks (part_named program.source true name)) (entered (plain_core program) (sub_place program name) (slice_get (plain_core program).parts (sub_place program name)))
sub-onto program name =
    subst (λ c. Onto program (sub_tasks (part_named program.source true name)) c)
    (ap (λ n. entered_from n (map (plain_part program) program.source.parts) (sub_place program name) (slice_get (plain_core program).parts (sub_place program name))) (sym (body-whens program (init_code program.source)))
    ∙ sym (of (sub_place program name) (slice_get (plain_core program).parts (sub_place program name))))
    (sub-found program name program.source.parts (list_whens (init_code program.source)))
  where
    of : (k : ℕ) (found : Option CorePart) → entered (plain_core program) k found ≡ entered_from (core_list_whens (plain_core program).init) (map (plain_part program) program.source.parts) k found
    of k None = refl
    of k (Some part) = refl

pub ready-sub : (program : Program) (is_sub : Bool) (name : Name) (before : ℕ) (hs : List Handler) → ReadyParts program hs → ReadyTasks program (sub_tasks (part_among is_sub name before hs))
ready-sub program is_sub name before [] g = tt
ready-sub program is_sub name before (h ∷ hs) g = pick (beq h.is_sub is_sub && bytes_eq h.name name) (ready-sub program is_sub name (before + list_whens h.body) hs g.1)
  where
    pick : (b : Bool) → ReadyTasks program (sub_tasks (part_among is_sub name (before + list_whens h.body) hs))
        → ReadyTasks program (sub_tasks (if b then Some (before, h) else part_among is_sub name (before + list_whens h.body) hs))
    pick true deeper = ready-append program (tasks before h.body) (back h.line ∷ []) (ready-tasks program before h.body g.0) (tt, tt)
    pick false deeper = deeper

-- Returns

kept-back : (before line from : ℕ) (es : List CoreExpr) (rest : List CoreTask) → behind_back_core (kept_tasks before line from es rest) ≡ behind_back_core rest
kept-back before line from [] rest = refl
kept-back before line from (e ∷ es) rest = kept-back before line (suc from) es rest

moved-back : (before line from : ℕ) (tos : List ℕ) (rest : List CoreTask) → behind_back_core (moved_tasks before line from tos rest) ≡ behind_back_core rest
moved-back before line from [] rest = refl
moved-back before line from (to ∷ tos) rest = moved-back before line (suc from) tos rest

stored-back : (before line temporary : ℕ) (tos : List ℕ) (es : List CoreExpr) (rest : List CoreTask) → behind_back_core (stored_tasks before line temporary tos es rest) ≡ behind_back_core rest
stored-back before line temporary [] [] rest = refl
stored-back before line temporary [] (e ∷ es) rest = kept-back before line temporary (e ∷ es) rest
stored-back before line temporary (to ∷ tos) [] rest = moved-back before line temporary (to ∷ tos) rest
stored-back before line temporary (to ∷ tos) (e ∷ []) rest = refl
stored-back before line temporary (to ∷ tos) (e ∷ f ∷ es) rest =
    kept-back before line temporary (e ∷ f ∷ es) (moved_tasks before line temporary (to ∷ tos) rest) ∙ moved-back before line temporary (to ∷ tos) rest

indexed-back : (before line start size : ℕ) (i : CoreExpr) (es : List CoreExpr) (rest : List CoreTask) → behind_back_core (indexed_tasks before line start size i es rest) ≡ behind_back_core rest
indexed-back before line start size i [] rest = refl
indexed-back before line start size i (e ∷ es) rest = indexed-back before line start size i es rest

assigned-back : (program : Program) (before line : ℕ) (target : Target) (i : Option CoreExpr) (es : List CoreExpr) (rest : List CoreTask) → behind_back_core (assigned_tasks program before line target i es rest) ≡ behind_back_core rest
assigned-back program before line target None es rest = stored-back before line (cells_of_variables program) (part_addresses program target.name target.part) es rest
assigned-back program before line target (Some i) es rest = indexed-back before line (start_of program target.name) (size_of program target.name) i es rest

sending-back : (program : Program) (before line : ℕ) (name : Name) (argument : Option Expr) (rest : List CoreTask) → behind_back_core (sending_tasks program before line name argument rest) ≡ behind_back_core rest
sending-back program before line name None rest = refl
sending-back program before line name (Some e) rest = kept-back before line (cells_of_variables program) (fresh_elements program e) _

form-back : (program : Program) (before line : ℕ) (form : StmtForm) (rest : List CoreTask) → behind_back_core (form_tasks program before line form rest) ≡ behind_back_core rest
form-back program before line (assign target e) rest = assigned-back program before line target (target_index program target.part) _ rest
form-back program before line (change target op e) rest = assigned-back program before line target (target_index program target.part) _ rest
form-back program before line (bump target op) rest = assigned-back program before line target (target_index program target.part) _ rest
form-back program before line (if_then c body other) rest = refl
form-back program before line (when_do c body) rest = refl
form-back program before line (while_do c body) rest = refl
form-back program before line (for_do head body) rest = refl
form-back program before line (emit name argument) rest = sending-back program before line name argument rest
form-back program before line (callsub name) rest = refl
form-back program before line (call name es) rest = kept-back before line (cells_of_variables program) (fresh_of_list program es) _
form-back program before line return rest = refl

-- what stands behind the nearest return
pub back-alike : (program : Program) (ts : List Task) → ReadyTasks program ts → behind_back_core (work_core program ts) ≡ option_map (work_core program) (behind_back ts)
back-alike program [] g = refl
back-alike program (perform before (stmt line place form) ∷ ts) g = form-back program before line form (work_core program ts) ∙ back-alike program ts g.1
back-alike program (put line name place v ∷ ts) g = absurd g.0
back-alike program (leave line ∷ ts) g = back-alike program ts g.1
back-alike program (turn (perform before (stmt line place (while_do c body))) ∷ ts) g = back-alike program ts g.1
back-alike program (turn (try line before head body) ∷ ts) g = back-alike program ts g.1
back-alike program (turn t ∷ ts) g = absurd g.0
back-alike program (try line before head body ∷ ts) g = back-alike program ts g.1
back-alike program (next line before head body ∷ ts) g = back-alike program ts g.1
back-alike program (back line ∷ ts) g = refl
back-alike program (finish line ∷ ts) g = back-alike program ts g.1

abbrev pub ReadyRest : Program → Option (List Task) → Type 0
ReadyRest program None = Unit {0}
ReadyRest program (Some ts) = ReadyTasks program ts

pub ready-back : (program : Program) (ts : List Task) → ReadyTasks program ts → ReadyRest program (behind_back ts)
ready-back program [] g = tt
ready-back program (perform before s ∷ ts) g = ready-back program ts g.1
ready-back program (put line name place v ∷ ts) g = absurd g.0
ready-back program (leave line ∷ ts) g = ready-back program ts g.1
ready-back program (turn t ∷ ts) g = ready-back program ts g.1
ready-back program (try line before head body ∷ ts) g = ready-back program ts g.1
ready-back program (next line before head body ∷ ts) g = ready-back program ts g.1
ready-back program (back line ∷ ts) g = g.1
ready-back program (finish line ∷ ts) g = ready-back program ts g.1
