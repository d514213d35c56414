-- The element form takes as many words as the source.
use Rattle.std.proofs.Common.{◌≡◌, refl, sym, ◌∙◌, ap, subst, ℕ, suc, ◌+◌, ◌*◌, true, false, Bool, not, if◌then◌else◌, pos, List, [], ◌∷◌, ◌++◌, arith, Option, Some, None, is_some, length, map}
use Rattle.std.specs.Prelude.{sum_by, filter, cond, int_lt}
use Rattle.std.specs.List.{range_with_len}
use Rattle.std.proofs.Math.Seq.{drop-append_seam, take-append_seam}
use Rattle.aseba_words.specs.declared.operators.Binary.TheVariants.{AtLeast, AtMost}
use Rattle.std.proofs.lemmas.List.{length-map}
use Rattle.std.proofs.lemmas.List.FromFn.{length-range_with_len}
use Rattle.std.proofs.lemmas.List.Sums.{sum_by-cons}
use Rattle.aseba_tree.specs.Code.{Name, Place, Expr, Exprs, Part, all, at, span, ForHead, Stmt, stmt, StmtForm, assign, change, bump, if_then, when_do, while_do, for_do, emit, callsub, call, return, Stmts, no_stmts, stmts, Handler, Project}
use Rattle.aseba_tree.specs.Value.{from_to, constant}
use Rattle.aseba_tree.specs.State.{Program, init_code}
use Rattle.aseba_tree.specs.Step.{step_of, native_place, native_sizes}
use Rattle.aseba_tree.specs.Events.{event_number}
use Rattle.aseba_tree.specs.Line.{named}
use Rattle.aseba_tree.specs.CoreExpr.{CoreExpr, cell, fixed, infix_of, into}
use Rattle.aseba_tree.specs.Core.{CoreStmts, no_core, core_stmts}
use Rattle.aseba_tree.specs.CoreShape.{is_last}
use Rattle.aseba_tree.specs.CoreNumbers.{param_count, native_words, core_list_words, core_else_words, core_part_words, core_words, is_handler}
use Rattle.aseba_tree.specs.Elements.{variable_place, target_index}
use Rattle.aseba_tree.specs.Layout.{cells_of_variables}
use Rattle.aseba_tree.specs.Numbers.{number_words, words, condition_words, kept_words, assigned_words, fresh_elements, fresh_of_list, lengths, given_lengths, argument_elements, jump_words, else_words, stmt_words, form_words, stmts_words, part_words, source_words}
use Rattle.aseba_expand.specs.Plain.{start_of, bound, storing, kept, moved, stored_in, assigning, argument_starts, sending, calling, for_test, for_next, plain, plain_form, all_plain, plain_part, plain_core}
use Rattle.aseba_expand.proofs.Ready.{IsSized, HasRoom, ReadyPart}
use Rattle.aseba_expand.proofs.Good.{GoodCall, GoodStmt, GoodForm, GoodStmts, GoodParts, GoodSource}
use Rattle.aseba_expand.proofs.EventNumbers.{KnownParts}
use Rattle.aseba_expand.proofs.Called.{sent_row, called_row, starts-length, fit-length}

-- Lists

kept-count : (project : Project) (line from : ℕ) (es : List CoreExpr) (behind : CoreStmts) → core_list_words project (kept line from es behind) ≡ kept_words es + core_list_words project behind
kept-count project line from [] behind = omega arith
kept-count project line from (e ∷ es) behind = let inner = kept-count project line (suc from) es behind in omega (arith, inner, sum_by-cons words e es)

moved-count : (project : Project) (line from : ℕ) (cs : List ℕ) (behind : CoreStmts) → core_list_words project (moved line from cs behind) ≡ 2 * length cs + core_list_words project behind
moved-count project line from [] behind = omega arith
moved-count project line from (c ∷ cs) behind = let inner = moved-count project line (suc from) cs behind in omega (arith, inner)

stored-count : (program : Program) (line t : ℕ) (cs : List ℕ) (es : List CoreExpr) (behind : CoreStmts) → length cs ≡ length es → HasRoom program es
    → core_list_words program.project (stored_in line t cs es behind) ≡ assigned_words None es + core_list_words program.project behind
stored-count program line t cs [] behind e g = absurd g
stored-count program line t [] (x ∷ []) behind e g = absurd (omega (arith, e))
stored-count program line t (c ∷ []) (x ∷ []) behind e g = omega arith
stored-count program line t (c ∷ d ∷ cs) (x ∷ []) behind e g = absurd (omega (arith, e))
stored-count program line t [] (x ∷ y ∷ es) behind e g = absurd (omega (arith, e))
stored-count program line t (c ∷ cs) (x ∷ y ∷ es) behind e g =
    let k = kept-count program.project line t (x ∷ y ∷ es) (moved line t (c ∷ cs) behind) in
    let m = moved-count program.project line t (c ∷ cs) behind in omega (arith, k, m, e)

assigned-count : (program : Program) (line : ℕ) (here : Place) (name : Name) (part : Part) (place : Option (ℕ × ℕ)) (es : List CoreExpr) (behind : CoreStmts) → variable_place program name ≡ place → ReadyPart program name part es
    → core_list_words program.project (assigning program line (record { place = here; name = name; part = part }) es behind) ≡ assigned_words (target_index program part) es + core_list_words program.project behind
assigned-count program line here name all None es behind e g = absurd (subst (λ o. IsSized o (length es)) e g.0)
assigned-count program line here name all (Some p) es behind e g =
    rw e (stored-count program line (cells_of_variables program) (range_with_len p.0 p.1) es behind (length-range_with_len p.0 p.1 ∙ subst (λ o. IsSized o (length es)) e g.0) g.1)
assigned-count program line here name (at i) place [] behind e g = absurd g.3
assigned-count program line here name (at i) place (x ∷ []) behind e g = omega (arith, sum_by-cons words x [])
assigned-count program line here name (at i) place (x ∷ y ∷ es) behind e g = absurd g.3
assigned-count program line here name (span c d) place es behind e g =
    stored-count program line (cells_of_variables program) _ es behind (length-map (from_to (bound program c) (bound program d)) _ ∙ g.1) g.2

sent-count : (program : Program) (line : ℕ) (name : Name) (argument : Option Expr) (behind : CoreStmts) → core_list_words program.project (sending program line name argument behind) ≡ kept_words (argument_elements program argument) + 3 + core_list_words program.project behind
sent-count program line name None behind = omega arith
sent-count program line name (Some e) behind = let k = kept-count program.project line (cells_of_variables program) (fresh_elements program e) (sent_row program line name e behind) in omega (arith, k)

-- the addresses of the arguments and the lengths of the templates
params-counted : (program : Program) (name : Name) (es : Exprs) → GoodCall program name es → param_count program.project (native_place program.project name) ≡ length (native_sizes program.project name)
params-counted program name es g = rw g.found (sym (length-map (g.native).params _))

native-count : (program : Program) (name : Name) (es : Exprs) → GoodCall program name es
    → native_words program.project (native_place program.project name) (argument_starts program (cells_of_variables program) es ++ given_lengths program name es)
    ≡ 2 * length (lengths program es) + sum_by (λ n. number_words (pos n)) (given_lengths program name es) + 1
native-count program name es g =
    let starts = argument_starts program (cells_of_variables program) es in
    let given = given_lengths program name es in
    let many = starts-length program (cells_of_variables program) es in
    let count : param_count program.project (native_place program.project name) ≡ length starts = params-counted program name es g ∙ fit-length program name es g ∙ sym many in
    rw (count, take-append_seam starts given, drop-append_seam starts given, many) refl

called-count : (program : Program) (line : ℕ) (name : Name) (es : Exprs) (behind : CoreStmts) → GoodCall program name es
    → core_list_words program.project (calling program line name es behind) ≡ form_words program (call name es) + core_list_words program.project behind
called-count program line name es behind g =
    let k = kept-count program.project line (cells_of_variables program) (fresh_of_list program es) (called_row program line name es behind) in
    let n = native-count program name es g in omega (arith, k, n)

-- Each statement of a good source is one at least in element form.

kept-begins : (line from : ℕ) (e : CoreExpr) (es : List CoreExpr) (behind : CoreStmts) → is_last (kept line from (e ∷ es) behind) ≡ false
kept-begins line from e es behind = refl

kept-goes-on : (line from : ℕ) (es : List CoreExpr) (behind : CoreStmts) → is_last behind ≡ false → is_last (kept line from es behind) ≡ false
kept-goes-on line from [] behind e = e
kept-goes-on line from (x ∷ es) behind e = refl

stored-begins : (program : Program) (line t : ℕ) (cs : List ℕ) (es : List CoreExpr) (behind : CoreStmts) → length cs ≡ length es → HasRoom program es → is_last (stored_in line t cs es behind) ≡ false
stored-begins program line t cs [] behind e g = absurd g
stored-begins program line t [] (x ∷ []) behind e g = refl
stored-begins program line t (c ∷ cs) (x ∷ []) behind e g = refl
stored-begins program line t [] (x ∷ y ∷ es) behind e g = refl
stored-begins program line t (c ∷ cs) (x ∷ y ∷ es) behind e g = refl

assigned-begins : (program : Program) (line : ℕ) (here : Place) (name : Name) (part : Part) (place : Option (ℕ × ℕ)) (es : List CoreExpr) (behind : CoreStmts) → variable_place program name ≡ place → ReadyPart program name part es
    → is_last (assigning program line (record { place = here; name = name; part = part }) es behind) ≡ false
assigned-begins program line here name all None es behind e g = absurd (subst (λ o. IsSized o (length es)) e g.0)
assigned-begins program line here name all (Some p) es behind e g =
    rw e (stored-begins program line (cells_of_variables program) (range_with_len p.0 p.1) es behind (length-range_with_len p.0 p.1 ∙ subst (λ o. IsSized o (length es)) e g.0) g.1)
assigned-begins program line here name (at i) place [] behind e g = absurd g.3
assigned-begins program line here name (at i) place (x ∷ es) behind e g = refl
assigned-begins program line here name (span c d) place es behind e g =
    stored-begins program line (cells_of_variables program) _ es behind (length-map (from_to (bound program c) (bound program d)) _ ∙ g.1) g.2

sent-begins : (program : Program) (line : ℕ) (name : Name) (argument : Option Expr) (behind : CoreStmts) → is_last (sending program line name argument behind) ≡ false
sent-begins program line name None behind = refl
sent-begins program line name (Some e) behind = kept-goes-on line (cells_of_variables program) (fresh_elements program e) (sent_row program line name e behind) refl

form-begins : (program : Program) (line : ℕ) (form : StmtForm) (behind : CoreStmts) → GoodForm program form → is_last (plain_form program line form behind) ≡ false
form-begins program line (assign target e) behind g = assigned-begins program line target.place target.name target.part _ _ behind refl g.0
form-begins program line (change target op e) behind g = assigned-begins program line target.place target.name target.part _ _ behind refl g.0
form-begins program line (bump target op) behind g = assigned-begins program line target.place target.name target.part _ _ behind refl g.0
form-begins program line (if_then c body other) behind g = refl
form-begins program line (when_do c body) behind g = refl
form-begins program line (while_do c body) behind g = refl
form-begins program line (for_do head body) behind g = refl
form-begins program line (emit name argument) behind g = sent-begins program line name argument behind
form-begins program line (callsub name) behind g = refl
form-begins program line (call name es) behind g = kept-goes-on line (cells_of_variables program) (fresh_of_list program es) (called_row program line name es behind) refl
form-begins program line return behind g = refl

else-count : (project : Project) (ss : CoreStmts) (n : ℕ) → is_last ss ≡ false → core_else_words project ss n ≡ jump_words project + n
else-count project no_core n e = cc
else-count project (core_stmts s ss) n e = refl

else-same : (program : Program) (ss : Stmts) → GoodStmts program ss → core_list_words program.project (all_plain program ss no_core) ≡ stmts_words program ss
    → core_else_words program.project (all_plain program ss no_core) (core_list_words program.project (all_plain program ss no_core)) ≡ else_words program.project ss (stmts_words program ss)
else-same program no_stmts g e = refl
else-same program (stmts (stmt line place form) ss) g e =
    else-count program.project (plain_form program line form (all_plain program ss no_core)) _ (form-begins program line form (all_plain program ss no_core) g.0) ∙ ap (λ n. jump_words program.project + n) e

test-words : (program : Program) (head : ForHead) → condition_words (for_test program head) ≡ 1 + number_words (constant program.project.consts head.last)
test-words program head = pick (int_lt (step_of program.project.consts head.step) (pos 0))
  where
    pick : (b : Bool) → condition_words (infix_of (if b then AtLeast else AtMost) (cell (start_of program head.name)) (fixed (constant program.project.consts head.last))) ≡ 1 + number_words (constant program.project.consts head.last)
    pick true = refl
    pick false = refl

-- Statements

mutual
  stmt-count : (program : Program) (s : Stmt) (behind : CoreStmts) → GoodStmt program s → core_list_words program.project (plain program s behind) ≡ stmt_words program s + core_list_words program.project behind
  stmt-count program (stmt line place form) behind g = form-count program line form behind g

  form-count : (program : Program) (line : ℕ) (form : StmtForm) (behind : CoreStmts) → GoodForm program form
      → core_list_words program.project (plain_form program line form behind) ≡ form_words program form + core_list_words program.project behind
  form-count program line (assign target e) behind g = assigned-count program line target.place target.name target.part _ _ behind refl g.0
  form-count program line (change target op e) behind g = assigned-count program line target.place target.name target.part _ _ behind refl g.0
  form-count program line (bump target op) behind g = assigned-count program line target.place target.name target.part _ _ behind refl g.0
  form-count program line (if_then c body other) behind g =
      let b = list-count program body no_core g.1 in
      let o = list-count program other no_core g.2 in
      let e = else-same program other g.2 (omega (arith, o)) in omega (arith, b, e)
  form-count program line (when_do c body) behind g = let b = list-count program body no_core g.1 in omega (arith, b)
  form-count program line (while_do c body) behind g = let b = list-count program body no_core g.1 in omega (arith, b)
  form-count program line (for_do head body) behind g =
      let b = list-count program body (storing line (into (start_of program head.name)) (for_next program head) no_core) g.1 in
      let t = test-words program head in omega (arith, b, t)
  form-count program line (emit name argument) behind g = sent-count program line name argument behind
  form-count program line (callsub name) behind g = omega arith
  form-count program line (call name es) behind g = called-count program line name es behind g
  form-count program line return behind g = omega arith

  pub list-count : (program : Program) (ss : Stmts) (behind : CoreStmts) → GoodStmts program ss → core_list_words program.project (all_plain program ss behind) ≡ stmts_words program ss + core_list_words program.project behind
  list-count program no_stmts behind g = omega arith
  list-count program (stmts s ss) behind g =
      let a = stmt-count program s (all_plain program ss behind) g.0 in
      let b = list-count program ss behind g.1 in omega (arith, a, b)

-- Sources

pub part-count : (program : Program) (h : Handler) → GoodStmts program h.body → core_part_words program.project (plain_part program h) ≡ part_words program h
part-count program h g = let own = list-count program h.body no_core g in omega (arith, own)

parts-count : (program : Program) (hs : List Handler) → GoodParts program hs → sum_by (core_part_words program.project) (map (plain_part program) hs) ≡ sum_by (part_words program) hs
parts-count program [] g = refl
parts-count program (h ∷ hs) g =
    let own = part-count program h g.0 in
    let rest = parts-count program hs g.1 in
    omega (arith, own, rest, sum_by-cons (core_part_words program.project) (plain_part program h) (map (plain_part program) hs), sum_by-cons (part_words program) h hs)

-- as many handlers
pub table-count : (program : Program) (hs : List Handler) → KnownParts program hs → length (filter is_handler (map (plain_part program) hs)) ≡ length (filter (λ h. not h.is_sub) hs)
table-count program [] k = refl
table-count program (h ∷ hs) k = pick h.is_sub (event_number program.project (named h.name)) k.0 (table-count program hs k.1)
  where
    pick : (s : Bool) (o : Option ℕ) → (s ≡ false → is_some o ≡ true) → length (filter is_handler (map (plain_part program) hs)) ≡ length (filter (λ h. not h.is_sub) hs)
        → length (cond (is_some (if s then None else o)) (plain_part program h ∷ filter is_handler (map (plain_part program) hs)) (filter is_handler (map (plain_part program) hs)))
        ≡ length (cond (not s) (h ∷ filter (λ h. not h.is_sub) hs) (filter (λ h. not h.is_sub) hs))
    pick true o known e = e
    pick false None known e = let bad = known refl in cc
    pick false (Some n) known e = ap suc e

pub same-words : (program : Program) → GoodSource program → KnownParts program program.source.parts → core_words program.project (plain_core program) ≡ source_words program
same-words program good known =
    let init = list-count program (init_code program.source) no_core good.init in
    let parts = parts-count program program.source.parts good.parts in
    let table = table-count program program.source.parts known in
    omega (arith, init, parts, table)
