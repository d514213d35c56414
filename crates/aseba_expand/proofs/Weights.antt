-- The element form is no heavier than the source.
use Rattle.std.proofs.Common.{◌≡◌, refl, sym, ◌∙◌, ap, subst, ℕ, suc, ◌+◌, ◌-◌, ◌≤◌, Bool, true, false, if◌then◌else◌, ℤ, pos, List, [], ◌∷◌, arith, Option, Some, None, length, map, length-append}
use Rattle.std.specs.Prelude.{max, int_lt, sum_by}
use Rattle.std.specs.List.{range_with_len}
use Rattle.std.proofs.lemmas.Bool.{le-leb, lt-leb}
use Rattle.std.proofs.lemmas.List.{length-map}
use Rattle.std.proofs.lemmas.List.FromFn.{length-range_with_len}
use Rattle.std.proofs.lemmas.List.Sums.{sum_by-cons}
use Rattle.aseba_words.specs.declared.operators.Binary.TheVariants.{Add, AtLeast, AtMost}
use Rattle.aseba_tree.specs.Code.{Name, Place, Expr, Exprs, no_exprs, exprs, Part, all, at, span, ForHead, Stmt, stmt, StmtForm, assign, change, bump, if_then, when_do, while_do, for_do, emit, callsub, call, return, Stmts, no_stmts, stmts, Handler}
use Rattle.aseba_tree.specs.Value.{from_to, constant}
use Rattle.aseba_tree.specs.State.{Program, init_code}
use Rattle.aseba_tree.specs.Step.{step_of}
use Rattle.aseba_tree.specs.CoreExpr.{CoreExpr, cell, fixed, infix_of, into}
use Rattle.aseba_tree.specs.Core.{core_stmt, store, loop, CoreStmts, no_core, core_stmts}
use Rattle.aseba_tree.specs.CoreNumbers.{kept_behind, core_list_weight, core_weight}
use Rattle.aseba_tree.specs.Templates.{opens_template, template_lengths}
use Rattle.aseba_tree.specs.Elements.{variable_place, elements_of, target_index}
use Rattle.aseba_tree.specs.Layout.{cells_of_variables}
use Rattle.aseba_tree.specs.Numbers.{nodes, all_nodes, assigned_weight, fresh_elements, fresh_of_list, is_own, lengths, param_sizes, given_lengths, for_weight, stmt_weight, form_weight, stmts_weight, source_weight, greatest}
use Rattle.aseba_expand.specs.Plain.{start_of, bound, storing, kept, moved, stored_in, assigning, argument_starts, sending, calling, for_first, for_test, for_next, plain, plain_form, all_plain, plain_part, plain_core}
use Rattle.aseba_expand.proofs.Ready.{Reaches, IsSized, HasRoom, ReadyPart, ReadyHead}
use Rattle.aseba_expand.proofs.Good.{AreSome, GoodCall, GoodStmt, GoodForm, GoodStmts, GoodParts, GoodSource}
use Rattle.aseba_check.proofs.NumbersHeld.{greatest-cons}
use Rattle.aseba_expand.proofs.Called.{sent_row, called_row, starts-length}
use Rattle.aseba_expand.proofs.Shaped.{BelowCells, below-range, below-span, room-some, head-inside}
use Rattle.aseba_expand.proofs.Readable.{place-inside}

-- the weight of statements, where the stores into temporaries directly before them weigh so much
abbrev weight : Program → CoreStmts → ℕ → ℕ
weight program ss k = core_list_weight (cells_of_variables program) ss k

-- which is 3 at least
weight-some : (program : Program) (ss : CoreStmts) (k : ℕ) → 3 ≤ weight program ss k
weight-some program no_core k = omega arith
weight-some program (core_stmts s ss) k = let rest = weight-some program ss (kept_behind (cells_of_variables program) k s) in omega (arith, rest)

-- leaves and operators of elements that are kept, and one for each
kept-weight : (program : Program) (line j : ℕ) (es : List CoreExpr) (behind : CoreStmts) (k : ℕ) → weight program (kept line (cells_of_variables program + j) es behind) k ≡ weight program behind (k + (all_nodes es + length es))
kept-weight program line j [] behind k = ap (weight program behind) (let e : k ≡ k + (0 + 0) = omega arith in e)
kept-weight program line j (e ∷ es) behind k =
    let c = cells_of_variables program in
    let above = le-leb c (c + j) (omega arith) in
    let up : suc (c + j) ≡ c + suc j = omega arith in
    let sum : k + (nodes e + 1) + (all_nodes es + length es) ≡ k + (all_nodes (e ∷ es) + length (e ∷ es)) = omega (arith, sum_by-cons nodes e es) in
    let inner : weight program (kept line (suc (c + j)) es behind) (k + (nodes e + 1)) ≡ weight program behind (k + (all_nodes (e ∷ es) + length (e ∷ es))) =
    ap (λ a. weight program (kept line a es behind) (k + (nodes e + 1))) up ∙ kept-weight program line (suc j) es behind (k + (nodes e + 1)) ∙ ap (weight program behind) sum in
    let some = weight-some program (kept line (suc (c + j)) es behind) (k + (nodes e + 1)) in
    rw above (omega (arith, some, inner))

-- from the first temporary on
kept-all : (program : Program) (line : ℕ) (es : List CoreExpr) (behind : CoreStmts) → weight program (kept line (cells_of_variables program) es behind) 0 ≡ weight program behind (all_nodes es + length es)
kept-all program line es behind =
    let none : cells_of_variables program + 0 ≡ cells_of_variables program = omega arith in
    ap (λ a. weight program (kept line a es behind) 0) (sym none) ∙ kept-weight program line 0 es behind 0 ∙ ap (weight program behind) (let e : 0 + (all_nodes es + length es) ≡ all_nodes es + length es = omega arith in e)

-- a store into a cell of a variable
store-weight : (program : Program) (line a : ℕ) (e : CoreExpr) (behind : CoreStmts) (k : ℕ) → a + 1 ≤ cells_of_variables program → weight program (core_stmts (core_stmt line (store (into a) e)) behind) k ≡ max (max (k + (0 + nodes e) + 3) 3) (weight program behind 0)
store-weight program line a e behind k h = rw (lt-leb (cells_of_variables program) a (omega (arith, h))) refl

moved-weight : (program : Program) (line t : ℕ) (cs : List ℕ) (behind : CoreStmts) → BelowCells (cells_of_variables program) cs → weight program (moved line t cs behind) 0 ≤ max 4 (weight program behind 0)
moved-weight program line t [] behind below = omega arith
moved-weight program line t (c ∷ cs) behind below =
    let first = store-weight program line c (cell t) (moved line (suc t) cs behind) 0 (omega (arith, below.0)) in
    let rest = moved-weight program line (suc t) cs behind below.1 in omega (arith, first, rest)

stored-weight : (program : Program) (line : ℕ) (cs : List ℕ) (es : List CoreExpr) (behind : CoreStmts) → BelowCells (cells_of_variables program) cs → length cs ≡ length es → HasRoom program es
    → weight program (stored_in line (cells_of_variables program) cs es behind) 0 ≤ max (assigned_weight None es) (weight program behind 0)
stored-weight program line cs [] behind below same room = absurd room
stored-weight program line [] (x ∷ []) behind below same room = absurd (omega (arith, same))
stored-weight program line (c ∷ []) (x ∷ []) behind below same room =
    let first = store-weight program line c x behind 0 (omega (arith, below.0)) in let sum = sum_by-cons nodes x [] in omega (arith, first, sum)
stored-weight program line (c ∷ d ∷ cs) (x ∷ []) behind below same room = absurd (omega (arith, same))
stored-weight program line [] (x ∷ y ∷ es) behind below same room = absurd (omega (arith, same))
stored-weight program line (c ∷ cs) (x ∷ y ∷ es) behind below same room =
    let all_of = x ∷ y ∷ es in
    let t = cells_of_variables program in
    let keep = kept-all program line all_of (moved line t (c ∷ cs) behind) in
    let first = store-weight program line c (cell t) (moved line (suc t) cs behind) (all_nodes all_of + length all_of) (omega (arith, below.0)) in
    let rest = moved-weight program line (suc t) cs behind below.1 in
    omega (arith, keep, first, rest)

assigned-heavy : (program : Program) (line : ℕ) (here : Place) (name : Name) (part : Part) (place : Option (ℕ × ℕ)) (es : List CoreExpr) (behind : CoreStmts) → variable_place program name ≡ place → ReadyPart program name part es
    → weight program (assigning program line (record { place = here; name = name; part = part }) es behind) 0 ≤ max (assigned_weight (target_index program part) es) (weight program behind 0)
assigned-heavy program line here name all None es behind e g = absurd (subst (λ o. IsSized o (length es)) e g.0)
assigned-heavy program line here name all (Some p) es behind e g =
    rw e (stored-weight program line (range_with_len p.0 p.1) es behind (below-range (cells_of_variables program) p.0 p.1 (place-inside program name p.0 p.1 e)) (length-range_with_len p.0 p.1 ∙ subst (λ o. IsSized o (length es)) e g.0) g.1)
assigned-heavy program line here name (at i) place [] behind e g = absurd g.3
assigned-heavy program line here name (at i) place (x ∷ []) behind e g = let sum = sum_by-cons nodes x [] in omega (arith, sum)
assigned-heavy program line here name (at i) place (x ∷ y ∷ es) behind e g = absurd g.3
assigned-heavy program line here name (span c d) None es behind e g = absurd (subst (λ o. Reaches o (bound program d)) e g.0)
assigned-heavy program line here name (span c d) (Some p) es behind e g =
    let up = subst (λ o. Reaches o (bound program d)) e g.0 in
    let some = room-some program es g.2 in
    let count = length-range_with_len (bound program c) (bound program d + 1 - bound program c) in
    let order : bound program c ≤ bound program d = omega (arith, some, count, g.1) in
    let inside = place-inside program name p.0 p.1 e in
    rw e (stored-weight program line (map (λ i. p.0 + i) (from_to (bound program c) (bound program d))) es behind
    (below-span (cells_of_variables program) p.0 (bound program c) (bound program d + 1 - bound program c) (omega (arith, up, order, inside))) (length-map (from_to (bound program c) (bound program d)) (λ i. p.0 + i) ∙ g.1) g.2)

-- the elements of an argument that go into temporaries are no more than it has
fresh-short : (program : Program) (e : Expr) → length (fresh_elements program e) ≤ length (elements_of program e)
fresh-short program e = pick (is_own program e)
  where
    pick : (b : Bool) → length (if b then [] else elements_of program e) ≤ length (elements_of program e)
    pick true = omega arith
    pick false = omega arith

sent-heavy : (program : Program) (line : ℕ) (name : Name) (argument : Option Expr) (behind : CoreStmts) → weight program (sending program line name argument behind) 0 ≤ max (form_weight program (emit name argument)) (weight program behind 0)
sent-heavy program line name None behind = omega arith
sent-heavy program line name (Some e) behind =
    let keep = kept-all program line (fresh_elements program e) (sent_row program line name e behind) in
    let short = fresh-short program e in omega (arith, keep, short)

-- Natives

abbrev total : List ℕ → ℕ
total ns = sum_by (λ n. n) ns

all-short : (program : Program) (es : Exprs) → length (fresh_of_list program es) ≤ total (lengths program es)
all-short program no_exprs = omega arith
all-short program (exprs e es) =
    let rest = all-short program es in
    let short = fresh-short program e in
    let sum = sum_by-cons (λ (n : ℕ). n) (length (elements_of program e)) (lengths program es) in
    let more = length-append (fresh_elements program e) (fresh_of_list program es) in omega (arith, rest, short, sum, more)

few-arguments : (program : Program) (es : Exprs) → AreSome program es → length (lengths program es) ≤ total (lengths program es)
few-arguments program no_exprs g = omega arith
few-arguments program (exprs e es) g =
    let rest = few-arguments program es g.1 in
    let sum = sum_by-cons (λ (n : ℕ). n) (length (elements_of program e)) (lengths program es) in omega (arith, rest, sum, g.0)

few-templates : (before ps : List ℤ) (ns : List ℕ) → length (template_lengths before ps ns) ≤ length ns
few-templates before [] ns = omega arith
few-templates before (p ∷ ps) [] = omega arith
few-templates before (p ∷ ps) (n ∷ ns) = pick (opens_template before p) (few-templates (p ∷ before) ps ns) (few-templates before ps ns)
  where
    pick : (b : Bool) → length (template_lengths (p ∷ before) ps ns) ≤ length ns → length (template_lengths before ps ns) ≤ length ns
        → length (if b then n ∷ template_lengths (p ∷ before) ps ns else template_lengths before ps ns) ≤ length (n ∷ ns)
    pick true more less = omega (arith, more)
    pick false more less = omega (arith, less)

called-heavy : (program : Program) (line : ℕ) (name : Name) (es : Exprs) (behind : CoreStmts) → GoodCall program name es
    → weight program (calling program line name es behind) 0 ≤ max (form_weight program (call name es)) (weight program behind 0)
called-heavy program line name es behind g =
    let keep = kept-all program line (fresh_of_list program es) (called_row program line name es behind) in
    let short = all-short program es in
    let few = few-arguments program es g.some in
    let templates = few-templates [] (param_sizes program.project name) (lengths program es) in
    let values = length-append (argument_starts program (cells_of_variables program) es) (given_lengths program name es) in
    let starts = starts-length program (cells_of_variables program) es in omega (arith, keep, short, few, templates, values, starts)

-- Loops

test-nodes : (program : Program) (head : ForHead) → nodes (for_test program head) ≡ 3
test-nodes program head = pick (int_lt (step_of program.project.consts head.step) (pos 0))
  where
    pick : (b : Bool) → nodes (infix_of (if b then AtLeast else AtMost) (cell (start_of program head.name)) (fixed (constant program.project.consts head.last))) ≡ 3
    pick true = refl
    pick false = refl

for-enough : (program : Program) (head : ForHead) → 9 ≤ for_weight program head
for-enough program head = let sum = sum_by-cons nodes (infix_of Add (cell 0) (fixed (step_of program.project.consts head.step))) [] in omega (arith, sum)

for-heavy : (program : Program) (line : ℕ) (head : ForHead) (body behind : CoreStmts) (n : ℕ) → ReadyHead program head
    → weight program body 0 ≤ max n (weight program (storing line (into (start_of program head.name)) (for_next program head) no_core) 0)
    → weight program (storing line (into (start_of program head.name)) (for_first program head) (core_stmts (core_stmt line (loop (for_test program head) body)) behind)) 0 ≤ max (max (for_weight program head) n) (weight program behind 0)
for-heavy program line head body behind n g inner =
    let inside = head-inside program head g in
    let first = store-weight program line (start_of program head.name) (for_first program head) (core_stmts (core_stmt line (loop (for_test program head) body)) behind) 0 (omega (arith, inside)) in
    let step = store-weight program line (start_of program head.name) (for_next program head) no_core 0 (omega (arith, inside)) in
    let test = test-nodes program head in
    let enough = for-enough program head in
    omega (arith, first, step, test, enough, inner)

-- Statements

mutual
  stmt-heavy : (program : Program) (s : Stmt) (behind : CoreStmts) → GoodStmt program s → weight program (plain program s behind) 0 ≤ max (stmt_weight program s) (weight program behind 0)
  stmt-heavy program (stmt line place form) behind g = form-heavy program line form behind g

  form-heavy : (program : Program) (line : ℕ) (form : StmtForm) (behind : CoreStmts) → GoodForm program form → weight program (plain_form program line form behind) 0 ≤ max (form_weight program form) (weight program behind 0)
  form-heavy program line (assign target e) behind g = assigned-heavy program line target.place target.name target.part _ _ behind refl g.0
  form-heavy program line (change target op e) behind g = assigned-heavy program line target.place target.name target.part _ _ behind refl g.0
  form-heavy program line (bump target op) behind g = assigned-heavy program line target.place target.name target.part _ _ behind refl g.0
  form-heavy program line (if_then c body other) behind g = let b = list-heavy program body no_core g.1 in let o = list-heavy program other no_core g.2 in omega (arith, b, o)
  form-heavy program line (when_do c body) behind g = let b = list-heavy program body no_core g.1 in omega (arith, b)
  form-heavy program line (while_do c body) behind g = let b = list-heavy program body no_core g.1 in omega (arith, b)
  form-heavy program line (for_do head body) behind g =
      let next = storing line (into (start_of program head.name)) (for_next program head) no_core in
      for-heavy program line head (all_plain program body next) behind (stmts_weight program body) g.0 (list-heavy program body next g.1)
  form-heavy program line (emit name argument) behind g = sent-heavy program line name argument behind
  form-heavy program line (callsub name) behind g = omega arith
  form-heavy program line (call name es) behind g = called-heavy program line name es behind g
  form-heavy program line return behind g = omega arith

  list-heavy : (program : Program) (ss : Stmts) (behind : CoreStmts) → GoodStmts program ss → weight program (all_plain program ss behind) 0 ≤ max (stmts_weight program ss) (weight program behind 0)
  list-heavy program no_stmts behind g = omega arith
  list-heavy program (stmts s ss) behind g = let a = stmt-heavy program s (all_plain program ss behind) g.0 in let b = list-heavy program ss behind g.1 in omega (arith, a, b)

-- a body weighs 3 at least
stmts-some : (program : Program) (ss : Stmts) → 3 ≤ stmts_weight program ss
stmts-some program no_stmts = omega arith
stmts-some program (stmts s ss) = let rest = stmts-some program ss in omega (arith, rest)

whole-heavy : (program : Program) (ss : Stmts) → GoodStmts program ss → weight program (all_plain program ss no_core) 0 ≤ stmts_weight program ss
whole-heavy program ss g = let own = list-heavy program ss no_core g in let some = stmts-some program ss in omega (arith, own, some)

-- Sources

parts-heavy : (program : Program) (hs : List Handler) → GoodParts program hs
    → greatest (map (λ part. core_list_weight (cells_of_variables program) part.body 0) (map (plain_part program) hs)) ≤ greatest (map (λ h. stmts_weight program h.body) hs)
parts-heavy program [] g = omega arith
parts-heavy program (h ∷ hs) g =
    let own = whole-heavy program h.body g.0 in
    let rest = parts-heavy program hs g.1 in
    let left = greatest-cons (weight program (plain_part program h).body 0) (map (λ part. core_list_weight (cells_of_variables program) part.body 0) (map (plain_part program) hs)) in
    let right = greatest-cons (stmts_weight program h.body) (map (λ h. stmts_weight program h.body) hs) in
    omega (arith, own, rest, left, right)

pub no-heavier : (program : Program) → GoodSource program → core_weight (plain_core program) ≤ source_weight program
no-heavier program good =
    let init = whole-heavy program (init_code program.source) good.init in
    let parts = parts-heavy program program.source.parts good.parts in
    omega (arith, init, parts)
