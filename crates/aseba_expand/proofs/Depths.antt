-- The element form takes as many stack cells as the source.
use Rattle.std.proofs.Common.{◌≡◌, refl, sym, ◌∙◌, ap, subst, ℕ, zero, suc, ◌+◌, ◌≤◌, Bool, true, false, not, ◌&&◌, if◌then◌else◌, pos, List, [], ◌∷◌, arith, Option, Some, None, is_some, length, map, length-append}
use Rattle.std.specs.Prelude.{max, cond, filter, find, bytes_eq, slice_get, option_map, unwrap_or, int_lt}
use Rattle.std.specs.List.{range_with_len, position_or_len}
use Rattle.std.specs.Bool.{beq}
use Rattle.std.proofs.lemmas.List.{length-map}
use Rattle.std.proofs.lemmas.List.FromFn.{length-range_with_len}
use Rattle.aseba_words.specs.declared.operators.Binary.TheVariants.{AtLeast, AtMost}
use Rattle.aseba_tree.specs.Code.{Name, Place, Expr, Exprs, Part, all, at, span, ForHead, Stmt, stmt, StmtForm, assign, change, bump, if_then, when_do, while_do, for_do, emit, callsub, call, return, Stmts, no_stmts, stmts, Handler}
use Rattle.aseba_tree.specs.Value.{from_to, constant}
use Rattle.aseba_tree.specs.Line.{named}
use Rattle.aseba_tree.specs.State.{Program, init_code}
use Rattle.aseba_tree.specs.Step.{step_of}
use Rattle.aseba_tree.specs.Events.{event_number}
use Rattle.aseba_tree.specs.CoreExpr.{CoreExpr, cell, fixed, indirect, prefix, infix_of, into}
use Rattle.aseba_tree.specs.Core.{CoreStmts, no_core, CorePart}
use Rattle.aseba_tree.specs.CoreNumbers.{core_list_depth, core_sub_depth, core_depth, is_handler}
use Rattle.aseba_tree.specs.Elements.{variable_place, target_index}
use Rattle.aseba_tree.specs.Layout.{cells_of_variables}
use Rattle.aseba_tree.specs.Numbers.{greatest, depth, condition_depth, greatest_depth, assigned_depth, fresh_elements, fresh_of_list, lengths, given_lengths, argument_depth, stmt_depth, form_depth, stmts_depth, sub_body, sub_depth, depth_of_sub, source_depth}
use Rattle.aseba_expand.specs.Plain.{start_of, bound, storing, kept, moved, stored_in, assigning, argument_starts, sending, calling, for_test, for_next, sub_place, plain, plain_form, all_plain, plain_part, plain_core}
use Rattle.aseba_expand.proofs.Ready.{IsSized, HasRoom, ReadyPart}
use Rattle.aseba_expand.proofs.Good.{GoodStmt, GoodForm, GoodStmts, GoodParts, GoodSource}
use Rattle.aseba_expand.proofs.EventNumbers.{KnownParts}
use Rattle.aseba_expand.proofs.Called.{sent_row, called_row, starts-length}
use Rattle.aseba_check.proofs.NumbersHeld.{greatest-cons}

depth-some : (e : CoreExpr) → 1 ≤ depth e
depth-some (fixed v) = omega arith
depth-some (cell a) = omega arith
depth-some (indirect base size i) = depth-some i
depth-some (prefix op e) = depth-some e
depth-some (infix_of op l r) = let up = depth-some l in omega (arith, up)

-- Lists

kept-deep : (subs : ℕ → ℕ) (line from : ℕ) (es : List CoreExpr) (behind : CoreStmts) → core_list_depth subs (kept line from es behind) ≡ max (greatest_depth es) (core_list_depth subs behind)
kept-deep subs line from [] behind = omega arith
kept-deep subs line from (e ∷ es) behind = let inner = kept-deep subs line (suc from) es behind in let more = greatest-cons (depth e) (map depth es) in omega (arith, inner, more)

moved-most : (subs : ℕ → ℕ) (line from : ℕ) (cs : List ℕ) (behind : CoreStmts) → core_list_depth subs (moved line from cs behind) ≤ max 1 (core_list_depth subs behind)
moved-most subs line from [] behind = omega arith
moved-most subs line from (c ∷ cs) behind = let inner = moved-most subs line (suc from) cs behind in omega (arith, inner)

moved-least : (subs : ℕ → ℕ) (line from : ℕ) (cs : List ℕ) (behind : CoreStmts) → core_list_depth subs behind ≤ core_list_depth subs (moved line from cs behind)
moved-least subs line from [] behind = omega arith
moved-least subs line from (c ∷ cs) behind = let inner = moved-least subs line (suc from) cs behind in omega (arith, inner)

stored-deep : (subs : ℕ → ℕ) (program : Program) (line t : ℕ) (cs : List ℕ) (es : List CoreExpr) (behind : CoreStmts) → length cs ≡ length es → HasRoom program es
    → core_list_depth subs (stored_in line t cs es behind) ≡ max (greatest_depth es) (core_list_depth subs behind)
stored-deep subs program line t cs [] behind e g = absurd g
stored-deep subs program line t [] (x ∷ []) behind e g = absurd (omega (arith, e))
stored-deep subs program line t (c ∷ []) (x ∷ []) behind e g = omega arith
stored-deep subs program line t (c ∷ d ∷ cs) (x ∷ []) behind e g = absurd (omega (arith, e))
stored-deep subs program line t [] (x ∷ y ∷ es) behind e g = absurd (omega (arith, e))
stored-deep subs program line t (c ∷ cs) (x ∷ y ∷ es) behind e g =
    let k = kept-deep subs line t (x ∷ y ∷ es) (moved line t (c ∷ cs) behind) in
    let most = moved-most subs line t (c ∷ cs) behind in
    let least = moved-least subs line t (c ∷ cs) behind in
    let up = depth-some x in
    let more = greatest-cons (depth x) (map depth (y ∷ es)) in omega (arith, k, most, least, up, more)

assigned-deep : (subs : ℕ → ℕ) (program : Program) (line : ℕ) (here : Place) (name : Name) (part : Part) (place : Option (ℕ × ℕ)) (es : List CoreExpr) (behind : CoreStmts) → variable_place program name ≡ place → ReadyPart program name part es
    → core_list_depth subs (assigning program line (record { place = here; name = name; part = part }) es behind) ≡ max (assigned_depth (target_index program part) es) (core_list_depth subs behind)
assigned-deep subs program line here name all None es behind e g = absurd (subst (λ o. IsSized o (length es)) e g.0)
assigned-deep subs program line here name all (Some p) es behind e g =
    rw e (stored-deep subs program line (cells_of_variables program) (range_with_len p.0 p.1) es behind (length-range_with_len p.0 p.1 ∙ subst (λ o. IsSized o (length es)) e g.0) g.1)
assigned-deep subs program line here name (at i) place [] behind e g = absurd g.3
assigned-deep subs program line here name (at i) place (x ∷ []) behind e g = omega arith
assigned-deep subs program line here name (at i) place (x ∷ y ∷ es) behind e g = absurd g.3
assigned-deep subs program line here name (span c d) place es behind e g =
    stored-deep subs program line (cells_of_variables program) _ es behind (length-map (from_to (bound program c) (bound program d)) _ ∙ g.1) g.2

sent-deep : (subs : ℕ → ℕ) (program : Program) (line : ℕ) (name : Name) (argument : Option Expr) (behind : CoreStmts) → core_list_depth subs (sending program line name argument behind) ≡ max (argument_depth program argument) (core_list_depth subs behind)
sent-deep subs program line name None behind = omega arith
sent-deep subs program line name (Some e) behind = let k = kept-deep subs line (cells_of_variables program) (fresh_elements program e) (sent_row program line name e behind) in omega (arith, k)

called-deep : (subs : ℕ → ℕ) (program : Program) (line : ℕ) (name : Name) (es : Exprs) (behind : CoreStmts)
    → core_list_depth subs (calling program line name es behind) ≡ max (max (length (lengths program es) + length (given_lengths program name es)) (greatest_depth (fresh_of_list program es))) (core_list_depth subs behind)
called-deep subs program line name es behind =
    let k = kept-deep subs line (cells_of_variables program) (fresh_of_list program es) (called_row program line name es behind) in
    let n = length-append (argument_starts program (cells_of_variables program) es) (given_lengths program name es) in
    let s = starts-length program (cells_of_variables program) es in omega (arith, k, n, s)

test-depth : (program : Program) (head : ForHead) → condition_depth (for_test program head) ≡ 2
test-depth program head = pick (int_lt (step_of program.project.consts head.step) (pos 0))
  where
    pick : (b : Bool) → condition_depth (infix_of (if b then AtLeast else AtMost) (cell (start_of program head.name)) (fixed (constant program.project.consts head.last))) ≡ 2
    pick true = refl
    pick false = refl

-- the subroutine of each name takes as much as the part of its place
abbrev Agree : Program → (ℕ → ℕ) → (Name → ℕ) → Type 0
Agree program core_subs subs = (name : Name) → core_subs (sub_place program name) ≡ subs name

-- Statements

mutual
  stmt-deep : (program : Program) (core_subs : ℕ → ℕ) (subs : Name → ℕ) → Agree program core_subs subs → (s : Stmt) (behind : CoreStmts) → GoodStmt program s
      → core_list_depth core_subs (plain program s behind) ≡ max (stmt_depth program subs s) (core_list_depth core_subs behind)
  stmt-deep program core_subs subs a (stmt line place form) behind g = form-deep program core_subs subs a line form behind g

  form-deep : (program : Program) (core_subs : ℕ → ℕ) (subs : Name → ℕ) → Agree program core_subs subs → (line : ℕ) (form : StmtForm) (behind : CoreStmts) → GoodForm program form
      → core_list_depth core_subs (plain_form program line form behind) ≡ max (form_depth program subs form) (core_list_depth core_subs behind)
  form-deep program core_subs subs a line (assign target e) behind g = assigned-deep core_subs program line target.place target.name target.part _ _ behind refl g.0
  form-deep program core_subs subs a line (change target op e) behind g = assigned-deep core_subs program line target.place target.name target.part _ _ behind refl g.0
  form-deep program core_subs subs a line (bump target op) behind g = assigned-deep core_subs program line target.place target.name target.part _ _ behind refl g.0
  form-deep program core_subs subs a line (if_then c body other) behind g =
      let b = list-deep program core_subs subs a body no_core g.1 in let o = list-deep program core_subs subs a other no_core g.2 in omega (arith, b, o)
  form-deep program core_subs subs a line (when_do c body) behind g = let b = list-deep program core_subs subs a body no_core g.1 in omega (arith, b)
  form-deep program core_subs subs a line (while_do c body) behind g = let b = list-deep program core_subs subs a body no_core g.1 in omega (arith, b)
  form-deep program core_subs subs a line (for_do head body) behind g =
      let b = list-deep program core_subs subs a body (storing line (into (start_of program head.name)) (for_next program head) no_core) g.1 in let t = test-depth program head in omega (arith, b, t)
  form-deep program core_subs subs a line (emit name argument) behind g = sent-deep core_subs program line name argument behind
  form-deep program core_subs subs a line (callsub name) behind g = let n = a name in omega (arith, n)
  form-deep program core_subs subs a line (call name es) behind g = called-deep core_subs program line name es behind
  form-deep program core_subs subs a line return behind g = omega arith

  list-deep : (program : Program) (core_subs : ℕ → ℕ) (subs : Name → ℕ) → Agree program core_subs subs → (ss : Stmts) (behind : CoreStmts) → GoodStmts program ss
      → core_list_depth core_subs (all_plain program ss behind) ≡ max (stmts_depth program subs ss) (core_list_depth core_subs behind)
  list-deep program core_subs subs a no_stmts behind g = omega arith
  list-deep program core_subs subs a (stmts s ss) behind g =
      let x = stmt-deep program core_subs subs a s (all_plain program ss behind) g.0 in let y = list-deep program core_subs subs a ss behind g.1 in omega (arith, x, y)

whole-deep : (program : Program) (core_subs : ℕ → ℕ) (subs : Name → ℕ) → Agree program core_subs subs → (ss : Stmts) → GoodStmts program ss → core_list_depth core_subs (all_plain program ss no_core) ≡ stmts_depth program subs ss
whole-deep program core_subs subs a ss g = let x = list-deep program core_subs subs a ss no_core g in omega (arith, x)

-- Subroutines

abbrev body_of : Option Handler → Stmts
body_of None = no_stmts
body_of (Some h) = h.body

sub-body : (program : Program) (name : Name) (hs : List Handler)
    → unwrap_or (option_map (λ part. part.body) (slice_get (map (plain_part program) hs) (position_or_len (λ h. beq h.is_sub true && bytes_eq h.name name) hs))) no_core
    ≡ all_plain program (body_of (find (λ h. bytes_eq h.name name) (filter (λ h. h.is_sub) hs))) no_core
sub-body program name [] = refl
sub-body program name (h ∷ hs) = pick h.is_sub (sub-body program name hs)
  where
    place : ℕ
    place = position_or_len (λ (h : Handler). beq h.is_sub true && bytes_eq h.name name) hs

    later : unwrap_or (option_map (λ (part : CorePart). part.body) (slice_get (map (plain_part program) (h ∷ hs)) (1 + place))) no_core ≡ unwrap_or (option_map (λ (part : CorePart). part.body) (slice_get (map (plain_part program) hs) place)) no_core
    later = let up : 1 + place ≡ suc place = omega arith in ap (λ k. unwrap_or (option_map (λ (part : CorePart). part.body) (slice_get (map (plain_part program) (h ∷ hs)) k)) no_core) up

    named_one : (b : Bool) → unwrap_or (option_map (λ part. part.body) (slice_get (map (plain_part program) hs) place)) no_core ≡ all_plain program (body_of (find (λ h. bytes_eq h.name name) (filter (λ h. h.is_sub) hs))) no_core
        → unwrap_or (option_map (λ part. part.body) (slice_get (map (plain_part program) (h ∷ hs)) (cond (not b) (1 + place) 0))) no_core
        ≡ all_plain program (body_of (cond b (Some h) (find (λ h. bytes_eq h.name name) (filter (λ h. h.is_sub) hs)))) no_core
    named_one true e = refl
    named_one false e = later ∙ e

    pick : (s : Bool) → unwrap_or (option_map (λ part. part.body) (slice_get (map (plain_part program) hs) place)) no_core ≡ all_plain program (body_of (find (λ h. bytes_eq h.name name) (filter (λ h. h.is_sub) hs))) no_core
        → unwrap_or (option_map (λ part. part.body) (slice_get (map (plain_part program) (h ∷ hs)) (cond (not (beq s true && bytes_eq h.name name)) (1 + place) 0))) no_core
        ≡ all_plain program (body_of (find (λ h. bytes_eq h.name name) (cond s (h ∷ filter (λ h. h.is_sub) hs) (filter (λ h. h.is_sub) hs)))) no_core
    pick true e = named_one (bytes_eq h.name name) e
    pick false e = later ∙ e

good-body : (program : Program) (name : Name) (hs : List Handler) → GoodParts program hs → GoodStmts program (body_of (find (λ h. bytes_eq h.name name) (filter (λ h. h.is_sub) hs)))
good-body program name [] g = tt
good-body program name (h ∷ hs) g = pick h.is_sub (good-body program name hs g.1)
  where
    named_one : (b : Bool) → GoodStmts program (body_of (find (λ h. bytes_eq h.name name) (filter (λ h. h.is_sub) hs))) → GoodStmts program (body_of (cond b (Some h) (find (λ h. bytes_eq h.name name) (filter (λ h. h.is_sub) hs))))
    named_one true e = g.0
    named_one false e = e

    pick : (s : Bool) → GoodStmts program (body_of (find (λ h. bytes_eq h.name name) (filter (λ h. h.is_sub) hs)))
        → GoodStmts program (body_of (find (λ h. bytes_eq h.name name) (cond s (h ∷ filter (λ h. h.is_sub) hs) (filter (λ h. h.is_sub) hs))))
    pick true e = named_one (bytes_eq h.name name) e
    pick false e = e

body-same : (program : Program) (name : Name) → sub_body program name ≡ body_of (find (λ h. bytes_eq h.name name) (filter (λ h. h.is_sub) program.source.parts))
body-same program name = by (find (λ h. bytes_eq h.name name) (filter (λ h. h.is_sub) program.source.parts)) refl
  where
    by : (o : Option Handler) → find (λ h. bytes_eq h.name name) (filter (λ h. h.is_sub) program.source.parts) ≡ o → sub_body program name ≡ body_of o
    by None e = rw e refl
    by (Some h) e = rw e refl

subs-agree : (program : Program) → GoodSource program → (n : ℕ) → Agree program (core_sub_depth (plain_core program) n) (sub_depth program n)
subs-agree program good zero name = refl
subs-agree program good (suc n) name =
    let body = body_of (find (λ h. bytes_eq h.name name) (filter (λ h. h.is_sub) program.source.parts)) in
    ap (core_list_depth (core_sub_depth (plain_core program) n)) (sub-body program name program.source.parts)
    ∙ whole-deep program (core_sub_depth (plain_core program) n) (sub_depth program n) (subs-agree program good n) body (good-body program name program.source.parts good.parts)
    ∙ ap (stmts_depth program (sub_depth program n)) (sym (body-same program name))

-- Sources

parts-row : (program : Program) (core_subs : ℕ → ℕ) (subs : Name → ℕ) → Agree program core_subs subs → (hs : List Handler) → GoodParts program hs → KnownParts program hs
    → greatest (map (λ part. core_list_depth core_subs part.body) (filter is_handler (map (plain_part program) hs))) ≡ greatest (map (λ h. stmts_depth program subs h.body) (filter (λ h. not h.is_sub) hs))
parts-row program core_subs subs a [] g k = refl
parts-row program core_subs subs a (h ∷ hs) g k = pick h.is_sub (event_number program.project (named h.name)) k.0 (parts-row program core_subs subs a hs g.1 k.1)
  where
    cores : List ℕ
    cores = map (λ (part : CorePart). core_list_depth core_subs part.body) (filter is_handler (map (plain_part program) hs))

    sources : List ℕ
    sources = map (λ (h : Handler). stmts_depth program subs h.body) (filter (λ h. not h.is_sub) hs)

    first : greatest cores ≡ greatest sources → greatest (core_list_depth core_subs (plain_part program h).body ∷ cores) ≡ greatest (stmts_depth program subs h.body ∷ sources)
    first e = greatest-cons (core_list_depth core_subs (plain_part program h).body) cores ∙ (let own = whole-deep program core_subs subs a h.body g.0 in omega (arith, own, e)) ∙ sym (greatest-cons (stmts_depth program subs h.body) sources)

    pick : (s : Bool) (o : Option ℕ) → (s ≡ false → is_some o ≡ true) → greatest cores ≡ greatest sources
        → greatest (map (λ part. core_list_depth core_subs part.body) (cond (is_some (if s then None else o)) (plain_part program h ∷ filter is_handler (map (plain_part program) hs)) (filter is_handler (map (plain_part program) hs))))
        ≡ greatest (map (λ h. stmts_depth program subs h.body) (cond (not s) (h ∷ filter (λ h. not h.is_sub) hs) (filter (λ h. not h.is_sub) hs)))
    pick true o known e = e
    pick false None known e = let bad = known refl in cc
    pick false (Some n) known e = first e

pub same-depth : (program : Program) → GoodSource program → KnownParts program program.source.parts → core_depth (plain_core program) ≡ source_depth program
same-depth program good known =
    let n = length program.source.parts in
    let m : length (plain_core program).parts ≡ n = length-map program.source.parts (plain_part program) in
    let agree : Agree program (core_sub_depth (plain_core program) (length (plain_core program).parts)) (depth_of_sub program) = subst (λ k. Agree program (core_sub_depth (plain_core program) k) (depth_of_sub program)) (sym m) (subs-agree program good n) in
    let init = whole-deep program (core_sub_depth (plain_core program) (length (plain_core program).parts)) (depth_of_sub program) agree (init_code program.source) good.init in
    let parts = parts-row program (core_sub_depth (plain_core program) (length (plain_core program).parts)) (depth_of_sub program) agree program.source.parts good.parts known in
    omega (arith, init, parts)
