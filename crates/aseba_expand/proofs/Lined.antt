-- A store into a temporary of the element form has the line of the statement behind it.
use Rattle.std.proofs.Common.{◌≡◌, refl, sym, ◌∙◌, subst, ℕ, suc, ◌+◌, ◌-◌, ◌≤◌, ◌<◌, Bool, true, false, ◌&&◌, if◌then◌else◌, List, [], ◌∷◌, arith, Option, Some, None, length, map, nat_le, nat_eq}
use Rattle.std.specs.List.{list_all, range_with_len}
use Rattle.std.proofs.lemmas.Bool.{lt-leb, eq-eqb}
use Rattle.std.proofs.lemmas.List.{length-map}
use Rattle.std.proofs.lemmas.List.FromFn.{length-range_with_len}
use Rattle.aseba_tree.specs.Code.{Name, Place, Expr, Part, all, at, span, Stmt, stmt, StmtForm, assign, change, bump, if_then, when_do, while_do, for_do, emit, callsub, call, return, Stmts, no_stmts, stmts, Handler}
use Rattle.aseba_tree.specs.Value.{from_to}
use Rattle.aseba_tree.specs.State.{Program, init_code}
use Rattle.aseba_tree.specs.CoreExpr.{CoreExpr, cell, into}
use Rattle.aseba_tree.specs.Core.{core_stmt, loop, CoreStmts, no_core, core_stmts}
use Rattle.aseba_tree.specs.CoreLines.{first_line, list_is_lined, core_is_lined}
use Rattle.aseba_tree.specs.Elements.{variable_place, elements_of, changed_elements, bumped_elements}
use Rattle.aseba_tree.specs.Layout.{cells_of_variables}
use Rattle.aseba_tree.specs.Numbers.{fresh_elements, fresh_of_list}
use Rattle.aseba_expand.specs.Plain.{start_of, bound, storing, kept, moved, stored_in, assigning, sending, for_first, for_test, for_next, plain, plain_form, all_plain, plain_part, plain_core}
use Rattle.aseba_expand.proofs.Ready.{Reaches, IsSized, HasRoom, ReadyPart}
use Rattle.aseba_expand.proofs.Good.{GoodStmt, GoodForm, GoodStmts, GoodParts, GoodSource}
use Rattle.aseba_expand.proofs.Shaped.{BelowCells, below-range, below-span, room-some, head-inside}
use Rattle.aseba_expand.proofs.Readable.{place-inside, both}
use Rattle.aseba_expand.proofs.Called.{sent_row, called_row}

abbrev IsLined : Program → CoreStmts → Type 0
IsLined program ss = list_is_lined (cells_of_variables program) ss ≡ true

-- a store into a cell of a variable
store-lined : (program : Program) (line a : ℕ) (e : CoreExpr) (behind : CoreStmts) → a < cells_of_variables program → IsLined program behind → IsLined program (storing line (into a) e behind)
store-lined program line a e behind less k = rw (lt-leb (cells_of_variables program) a less) k

-- a store in front of a statement of the same line
same-lined : (program : Program) (line a : ℕ) (e : CoreExpr) (behind : CoreStmts) → first_line line behind ≡ line → IsLined program behind → IsLined program (storing line (into a) e behind)
same-lined program line a e behind same k = pick (nat_le (cells_of_variables program) a)
  where
    pick : (b : Bool) → ((if b then nat_eq line (first_line line behind) else true) && true && list_is_lined (cells_of_variables program) behind) ≡ true
    pick true = rw (eq-eqb line (first_line line behind) (sym same)) k
    pick false = k

kept-line : (line from : ℕ) (es : List CoreExpr) (behind : CoreStmts) → first_line line behind ≡ line → first_line line (kept line from es behind) ≡ line
kept-line line from [] behind same = same
kept-line line from (e ∷ es) behind same = refl

kept-lined : (program : Program) (line from : ℕ) (es : List CoreExpr) (behind : CoreStmts) → first_line line behind ≡ line → IsLined program behind → IsLined program (kept line from es behind)
kept-lined program line from [] behind same k = k
kept-lined program line from (e ∷ es) behind same k =
    same-lined program line from e (kept line (suc from) es behind) (kept-line line (suc from) es behind same) (kept-lined program line (suc from) es behind same k)

moved-lined : (program : Program) (line from : ℕ) (cs : List ℕ) (behind : CoreStmts) → BelowCells (cells_of_variables program) cs → IsLined program behind → IsLined program (moved line from cs behind)
moved-lined program line from [] behind below k = k
moved-lined program line from (c ∷ cs) behind below k = store-lined program line c (cell from) (moved line (suc from) cs behind) below.0 (moved-lined program line (suc from) cs behind below.1 k)

stored-lined : (program : Program) (line t : ℕ) (cs : List ℕ) (es : List CoreExpr) (behind : CoreStmts) → BelowCells (cells_of_variables program) cs → length cs ≡ length es → HasRoom program es
    → IsLined program behind → IsLined program (stored_in line t cs es behind)
stored-lined program line t cs [] behind below same room k = absurd room
stored-lined program line t [] (x ∷ []) behind below same room k = absurd (omega (arith, same))
stored-lined program line t (c ∷ []) (x ∷ []) behind below same room k = store-lined program line c x behind below.0 k
stored-lined program line t (c ∷ d ∷ cs) (x ∷ []) behind below same room k = absurd (omega (arith, same))
stored-lined program line t [] (x ∷ y ∷ es) behind below same room k = absurd (omega (arith, same))
stored-lined program line t (c ∷ cs) (x ∷ y ∷ es) behind below same room k =
    kept-lined program line t (x ∷ y ∷ es) (moved line t (c ∷ cs) behind) refl (moved-lined program line t (c ∷ cs) behind below k)

assigned-lined : (program : Program) (line : ℕ) (here : Place) (name : Name) (part : Part) (place : Option (ℕ × ℕ)) (es : List CoreExpr) (behind : CoreStmts) → variable_place program name ≡ place → ReadyPart program name part es
    → IsLined program behind → IsLined program (assigning program line (record { place = here; name = name; part = part }) es behind)
assigned-lined program line here name all None es behind e g k = absurd (subst (λ o. IsSized o (length es)) e g.0)
assigned-lined program line here name all (Some p) es behind e g k =
    rw e (stored-lined program line (cells_of_variables program) (range_with_len p.0 p.1) es behind (below-range (cells_of_variables program) p.0 p.1 (place-inside program name p.0 p.1 e))
    (length-range_with_len p.0 p.1 ∙ subst (λ o. IsSized o (length es)) e g.0) g.1 k)
assigned-lined program line here name (at i) place [] behind e g k = absurd g.3
assigned-lined program line here name (at i) place (x ∷ []) behind e g k = k
assigned-lined program line here name (at i) place (x ∷ y ∷ es) behind e g k = absurd g.3
assigned-lined program line here name (span c d) None es behind e g k = absurd (subst (λ o. Reaches o (bound program d)) e g.0)
assigned-lined program line here name (span c d) (Some p) es behind e g k =
    let up = subst (λ o. Reaches o (bound program d)) e g.0 in
    let some = room-some program es g.2 in
    let count = length-range_with_len (bound program c) (bound program d + 1 - bound program c) in
    let order : bound program c ≤ bound program d = omega (arith, some, count, g.1) in
    let inside = place-inside program name p.0 p.1 e in
    rw e (stored-lined program line (cells_of_variables program) (map (λ i. p.0 + i) (from_to (bound program c) (bound program d))) es behind
    (below-span (cells_of_variables program) p.0 (bound program c) (bound program d + 1 - bound program c) (omega (arith, up, order, inside))) (length-map (from_to (bound program c) (bound program d)) (λ i. p.0 + i) ∙ g.1) g.2 k)

sent-lined : (program : Program) (line : ℕ) (name : Name) (argument : Option Expr) (behind : CoreStmts) → IsLined program behind → IsLined program (sending program line name argument behind)
sent-lined program line name None behind k = k
sent-lined program line name (Some e) behind k = kept-lined program line (cells_of_variables program) (fresh_elements program e) (sent_row program line name e behind) refl k

mutual
  stmt-lined : (program : Program) (s : Stmt) (behind : CoreStmts) → GoodStmt program s → IsLined program behind → IsLined program (plain program s behind)
  stmt-lined program (stmt line place form) behind g k = form-lined program line form behind g k

  form-lined : (program : Program) (line : ℕ) (form : StmtForm) (behind : CoreStmts) → GoodForm program form → IsLined program behind → IsLined program (plain_form program line form behind)
  form-lined program line (assign target e) behind g k = assigned-lined program line target.place target.name target.part (variable_place program target.name) (elements_of program e) behind refl g.0 k
  form-lined program line (change target op e) behind g k = assigned-lined program line target.place target.name target.part (variable_place program target.name) (changed_elements program target op e) behind refl g.0 k
  form-lined program line (bump target op) behind g k = assigned-lined program line target.place target.name target.part (variable_place program target.name) (bumped_elements program target op) behind refl g.0 k
  form-lined program line (if_then c body other) behind g k =
      both (list_is_lined (cells_of_variables program) (all_plain program body no_core) && list_is_lined (cells_of_variables program) (all_plain program other no_core)) (list_is_lined (cells_of_variables program) behind)
      (both (list_is_lined (cells_of_variables program) (all_plain program body no_core)) (list_is_lined (cells_of_variables program) (all_plain program other no_core)) (list-lined program body no_core g.1 refl) (list-lined program other no_core g.2 refl)) k
  form-lined program line (when_do c body) behind g k = both (list_is_lined (cells_of_variables program) (all_plain program body no_core)) (list_is_lined (cells_of_variables program) behind) (list-lined program body no_core g.1 refl) k
  form-lined program line (while_do c body) behind g k = both (list_is_lined (cells_of_variables program) (all_plain program body no_core)) (list_is_lined (cells_of_variables program) behind) (list-lined program body no_core g.1 refl) k
  form-lined program line (for_do head body) behind g k =
      let less = head-inside program head g.0 in
      let next = storing line (into (start_of program head.name)) (for_next program head) no_core in
      store-lined program line (start_of program head.name) (for_first program head) (core_stmts (core_stmt line (loop (for_test program head) (all_plain program body next))) behind) less
      (both (list_is_lined (cells_of_variables program) (all_plain program body next)) (list_is_lined (cells_of_variables program) behind)
      (list-lined program body next g.1 (store-lined program line (start_of program head.name) (for_next program head) no_core less refl)) k)
  form-lined program line (emit name argument) behind g k = sent-lined program line name argument behind k
  form-lined program line (callsub name) behind g k = k
  form-lined program line (call name es) behind g k = kept-lined program line (cells_of_variables program) (fresh_of_list program es) (called_row program line name es behind) refl k
  form-lined program line return behind g k = k

  list-lined : (program : Program) (ss : Stmts) (behind : CoreStmts) → GoodStmts program ss → IsLined program behind → IsLined program (all_plain program ss behind)
  list-lined program no_stmts behind g k = k
  list-lined program (stmts s ss) behind g k = stmt-lined program s (all_plain program ss behind) g.0 (list-lined program ss behind g.1 k)

parts-lined : (program : Program) (hs : List Handler) → GoodParts program hs → list_all (λ part. list_is_lined (cells_of_variables program) part.body) (map (plain_part program) hs) ≡ true
parts-lined program [] g = refl
parts-lined program (h ∷ hs) g = rw (list-lined program h.body no_core g.0 refl) (parts-lined program hs g.1)

pub is-lined : (program : Program) → GoodSource program → core_is_lined (plain_core program) ≡ true
is-lined program good = rw (list-lined program (init_code program.source) no_core good.init refl) (parts-lined program program.source.parts good.parts)
