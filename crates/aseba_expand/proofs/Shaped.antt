-- The statements of the element form are well formed.
use Rattle.std.proofs.Common.{◌≡◌, refl, ◌∙◌, ap, subst, ℕ, zero, suc, ◌+◌, ◌-◌, ◌≤◌, ◌<◌, Bool, true, false, not, ◌&&◌, ◌||◌, if◌then◌else◌, pos, List, [], ◌∷◌, ◌++◌, arith, Option, Some, None, is_some, length, map, nat_lt, nat_eq}
use Rattle.std.specs.Prelude.{int_lt, slice_get, option_map, unwrap_or}
use Rattle.std.specs.List.{list_all, range_with_len}
use Rattle.std.proofs.lemmas.Bool.{lt-ltb, le-leb, lt-leb, ltb-true, eq-eqb, ltb-false}
use Rattle.std.proofs.lemmas.List.{length-map}
use Rattle.std.proofs.lemmas.List.FromFn.{length-range_with_len}
use Rattle.aseba_words.specs.declared.operators.Binary.TheVariants.{AtLeast, AtMost}
use Rattle.aseba_tree.specs.Code.{Name, Place, Expr, Exprs, Part, all, at, span, ForHead, Stmt, stmt, StmtForm, assign, change, bump, if_then, when_do, while_do, for_do, emit, callsub, call, return, Stmts, no_stmts, stmts, Project, Sized}
use Rattle.aseba_tree.specs.Value.{from_to, constant}
use Rattle.aseba_tree.specs.Line.{named, numbered}
use Rattle.aseba_tree.specs.State.{Program}
use Rattle.aseba_tree.specs.Step.{step_of, target_expr, native_place}
use Rattle.aseba_tree.specs.CoreExpr.{CoreExpr, cell, fixed, infix_of, into}
use Rattle.aseba_tree.specs.Core.{CoreForm, branch, on_edge, enter, go_back, loop, use_native, core_stmt, store, send, CoreStmts, no_core, core_stmts}
use Rattle.aseba_tree.specs.CoreShape.{stands_in, is_good_expr, is_good_form, is_good_list, is_last, kept_at, is_readable_range, is_sub_part}
use Rattle.aseba_tree.specs.Events.{event_of}
use Rattle.aseba_tree.specs.Elements.{variable_place, elements_of, changed_elements, bumped_elements, element_of}
use Rattle.aseba_tree.specs.Layout.{cells_of_variables}
use Rattle.aseba_tree.specs.Numbers.{source_room, is_own, fresh_of_list, given_lengths}
use Rattle.aseba_expand.specs.Plain.{start_in, start_of, bound, storing, kept, moved, stored_in, assigning, own_start, argument_starts, sent_number, sending, calling, sub_place, for_first, for_next, for_test, plain, plain_form, all_plain, plain_core}
use Rattle.aseba_expand.proofs.Ready.{IsThere, Reaches, Grounded, IsSized, HasRoom, ReadyPart, IsEvent, ReadyHead}
use Rattle.aseba_expand.proofs.Good.{GoodArgument, GoodCall, GoodStmt, GoodForm, GoodStmts}
use Rattle.aseba_expand.proofs.Readable.{own-cells, fresh-readable, paired-readable, bumped-readable, cell-readable, readable, place-inside, own-range, both}
use Rattle.aseba_expand.proofs.Called.{Has, IsGood, kept-range, temporary-readable, call-is-good}
use Rattle.aseba_tree.proofs.SizeLaws.{both_left, both_right}

-- a store into a temporary, with another statement behind it
keep-one : (program : Program) (line j : ℕ) (e : CoreExpr) (stored : List ℕ) (rest : CoreStmts) → is_good_expr (plain_core program) stored e ≡ true → j < source_room program → is_last rest ≡ false
    → IsGood program ((cells_of_variables program + j) ∷ stored) rest → IsGood program stored (core_stmts (core_stmt line (store (into (cells_of_variables program + j)) e)) rest)
keep-one program line j e stored rest good less last k =
    let c = cells_of_variables program in
    let inside = lt-ltb (c + j) (c + source_room program) (omega (arith, less)) in
    let above = le-leb c (c + j) (omega arith) in
    rw (inside, above, good, last) k

-- a store into a cell of a variable
store-one : (program : Program) (line a : ℕ) (e : CoreExpr) (stored : List ℕ) (rest : CoreStmts) → is_good_expr (plain_core program) stored e ≡ true → a < cells_of_variables program
    → IsGood program stored rest → IsGood program stored (core_stmts (core_stmt line (store (into a) e)) rest)
store-one program line a e stored rest good less k =
    let c = cells_of_variables program in
    let inside = lt-ltb a (c + source_room program) (omega (arith, less)) in
    let below = lt-leb c a less in
    rw (inside, below, good) (by (is_last rest))
  where
    by : (b : Bool) → (not (b && false) && is_good_list program.project (plain_core program) stored rest) ≡ true
    by true = k
    by false = k

more-has : (program : Program) (stored : List ℕ) (j : ℕ) → Has program stored j → Has program ((cells_of_variables program + j) ∷ stored) (suc j)
more-has program stored j h k less = by (nat_lt k j) refl
  where
    c : ℕ
    c = cells_of_variables program

    by : (b : Bool) → nat_lt k j ≡ b → (nat_eq (c + k) (c + j) || stands_in stored (c + k)) ≡ true
    by true e = or-right (nat_eq (c + k) (c + j)) (stands_in stored (c + k)) (h k (ltb-true k j e))
      where
        or-right : (a b : Bool) → b ≡ true → (a || b) ≡ true
        or-right true b p = refl
        or-right false b p = p
    by false e = let same : c + k ≡ c + j = (let up = ltb-false k j e in omega (arith, up, less)) in rw (eq-eqb (c + k) (c + j) same) refl

kept-last : (line from : ℕ) (es : List CoreExpr) (behind : CoreStmts) → is_last behind ≡ false → is_last (kept line from es behind) ≡ false
kept-last line from [] behind e = e
kept-last line from (x ∷ es) behind e = refl

kept-good : (program : Program) (line j : ℕ) (es : List CoreExpr) (stored : List ℕ) (behind : CoreStmts) → ((st : List ℕ) → list_all (is_good_expr (plain_core program) st) es ≡ true) → j + length es ≤ source_room program → is_last behind ≡ false
    → ((st : List ℕ) → Has program st (j + length es) → IsGood program st behind) → Has program stored j → IsGood program stored (kept line (cells_of_variables program + j) es behind)
kept-good program line j [] stored behind good room last k h = k stored (λ i less. h i (omega (arith, less)))
kept-good program line j (e ∷ es) stored behind good room last k h =
    let up : suc (cells_of_variables program + j) ≡ cells_of_variables program + suc j = omega arith in
    let rest = kept-good program line (suc j) es ((cells_of_variables program + j) ∷ stored) behind (λ st. both_right (is_good_expr (plain_core program) st e) _ (good st)) (omega (arith, room)) last
    (λ st has. k st (λ i less. has i (omega (arith, less)))) (more-has program stored j h) in
    keep-one program line j e stored (kept line (suc (cells_of_variables program + j)) es behind) (both_left (is_good_expr (plain_core program) stored e) _ (good stored)) (omega (arith, room)) (kept-last line (suc (cells_of_variables program + j)) es behind last)
    (rw up rest)

-- from the first temporary on
kept-whole : (program : Program) (line : ℕ) (es : List CoreExpr) (stored : List ℕ) (behind : CoreStmts) → ((st : List ℕ) → list_all (is_good_expr (plain_core program) st) es ≡ true) → length es ≤ source_room program → is_last behind ≡ false
    → ((st : List ℕ) → Has program st (length es) → IsGood program st behind) → IsGood program stored (kept line (cells_of_variables program) es behind)
kept-whole program line es stored behind good room last k =
    let none : cells_of_variables program + 0 ≡ cells_of_variables program = omega arith in
    subst (λ n. IsGood program stored (kept line n es behind)) none
    (kept-good program line 0 es stored behind good (omega (arith, room)) last (λ st has. k st (λ i less. has i (omega (arith, less)))) (λ i less. absurd (omega (arith, less))))

abbrev pub BelowCells : ℕ → List ℕ → Type 0
BelowCells n [] = Unit {0}
BelowCells n (c ∷ cs) = (c < n) × BelowCells n cs

moved-good : (program : Program) (line j : ℕ) (cs : List ℕ) (stored : List ℕ) (behind : CoreStmts) → BelowCells (cells_of_variables program) cs → j + length cs ≤ source_room program → Has program stored (j + length cs)
    → IsGood program stored behind → IsGood program stored (moved line (cells_of_variables program + j) cs behind)
moved-good program line j [] stored behind below room h k = k
moved-good program line j (c ∷ cs) stored behind below room h k =
    let up : suc (cells_of_variables program + j) ≡ cells_of_variables program + suc j = omega arith in
    let rest = moved-good program line (suc j) cs stored behind below.1 (omega (arith, room)) (λ i less. h i (omega (arith, less))) k in
    store-one program line c (cell (cells_of_variables program + j)) stored (moved line (suc (cells_of_variables program + j)) cs behind)
    (temporary-readable program stored j (omega (arith, room)) (h j (omega arith))) below.0 (rw up rest)

-- elements that are stored in cells of variables
stored-good : (program : Program) (line : ℕ) (cs : List ℕ) (es : List CoreExpr) (stored : List ℕ) (behind : CoreStmts) → BelowCells (cells_of_variables program) cs → length cs ≡ length es → HasRoom program es
    → ((st : List ℕ) → list_all (is_good_expr (plain_core program) st) es ≡ true) → ((st : List ℕ) → IsGood program st behind) → IsGood program stored (stored_in line (cells_of_variables program) cs es behind)
stored-good program line cs [] stored behind below same room good k = absurd room
stored-good program line [] (x ∷ []) stored behind below same room good k = absurd (omega (arith, same))
stored-good program line (c ∷ []) (x ∷ []) stored behind below same room good k = store-one program line c x stored behind (both_left (is_good_expr (plain_core program) stored x) true (good stored)) below.0 (k stored)
stored-good program line (c ∷ d ∷ cs) (x ∷ []) stored behind below same room good k = absurd (omega (arith, same))
stored-good program line [] (x ∷ y ∷ es) stored behind below same room good k = absurd (omega (arith, same))
stored-good program line (c ∷ cs) (x ∷ y ∷ es) stored behind below same room good k =
    let none : cells_of_variables program + 0 ≡ cells_of_variables program = omega arith in
    kept-whole program line (x ∷ y ∷ es) stored (moved line (cells_of_variables program) (c ∷ cs) behind) good room refl
    (λ st has. subst (λ n. IsGood program st (moved line n (c ∷ cs) behind)) none (moved-good program line 0 (c ∷ cs) st behind below (omega (arith, room, same)) (λ i less. has i (omega (arith, less, same))) (k st)))

-- Assignments

pub below-range : (n a count : ℕ) → a + count ≤ n → BelowCells n (range_with_len a count)
below-range n a zero h = tt
below-range n a (suc count) h = (omega (arith, h), below-range n (a + 1) count (omega (arith, h)))

pub below-span : (n a c count : ℕ) → a + c + count ≤ n → BelowCells n (map (λ i. a + i) (range_with_len c count))
below-span n a c zero h = tt
below-span n a c (suc count) h = (omega (arith, h), below-span n a (c + 1) count (omega (arith, h)))

-- the one element of an index or a condition
pub element-readable : (program : Program) (stored : List ℕ) (i : Expr) → Grounded program i → is_good_expr (plain_core program) stored (element_of program i) ≡ true
element-readable program stored i g = by (elements_of program i) refl (readable program stored i g)
  where
    by : (es : List CoreExpr) → elements_of program i ≡ es → list_all (is_good_expr (plain_core program) stored) es ≡ true → is_good_expr (plain_core program) stored (element_of program i) ≡ true
    by [] e k = rw e refl
    by (x ∷ es) e k = rw e (both_left (is_good_expr (plain_core program) stored x) _ k)

pub room-some : (program : Program) (es : List CoreExpr) → HasRoom program es → 1 ≤ length es
room-some program [] g = absurd g
room-some program (x ∷ es) g = omega arith

assigned-good : (program : Program) (line : ℕ) (here : Place) (name : Name) (part : Part) (place : Option (ℕ × ℕ)) (es : List CoreExpr) (stored : List ℕ) (behind : CoreStmts) → variable_place program name ≡ place → ReadyPart program name part es
    → ((st : List ℕ) → list_all (is_good_expr (plain_core program) st) es ≡ true) → ((st : List ℕ) → IsGood program st behind)
    → IsGood program stored (assigning program line (record { place = here; name = name; part = part }) es behind)
assigned-good program line here name all None es stored behind e g good k = absurd (subst (λ o. IsSized o (length es)) e g.0)
assigned-good program line here name all (Some p) es stored behind e g good k =
    rw e (stored-good program line (range_with_len p.0 p.1) es stored behind (below-range (cells_of_variables program) p.0 p.1 (place-inside program name p.0 p.1 e)) (length-range_with_len p.0 p.1 ∙ subst (λ o. IsSized o (length es)) e g.0) g.1 good k)
assigned-good program line here name (at i) None es stored behind e g good k = absurd (subst IsThere e g.0)
assigned-good program line here name (at i) (Some p) [] stored behind e g good k = absurd g.3
assigned-good program line here name (at i) (Some p) (x ∷ []) stored behind e g good k =
    let inside = le-leb (p.0 + p.1) (cells_of_variables program) (place-inside program name p.0 p.1 e) in
    let index = element-readable program stored i g.1 in
    let own = both_left (is_good_expr (plain_core program) stored x) true (good stored) in
    rw (e, inside, index, own) (by (is_last behind))
  where
    by : (b : Bool) → (not (b && false) && is_good_list program.project (plain_core program) stored behind) ≡ true
    by true = k stored
    by false = k stored
assigned-good program line here name (at i) (Some p) (x ∷ y ∷ es) stored behind e g good k = absurd g.3
assigned-good program line here name (span c d) None es stored behind e g good k = absurd (subst (λ o. Reaches o (bound program d)) e g.0)
assigned-good program line here name (span c d) (Some p) es stored behind e g good k =
    let up : bound program d < p.1 = subst (λ o. Reaches o (bound program d)) e g.0 in
    let some = room-some program es g.2 in
    let count = length-range_with_len (bound program c) (bound program d + 1 - bound program c) in
    let order : bound program c ≤ bound program d = omega (arith, some, count, g.1) in
    let inside = place-inside program name p.0 p.1 e in
    rw e (stored-good program line (map (λ i. p.0 + i) (from_to (bound program c) (bound program d))) es stored behind
    (below-span (cells_of_variables program) p.0 (bound program c) (bound program d + 1 - bound program c) (omega (arith, up, order, inside))) (length-map (from_to (bound program c) (bound program d)) (λ i. p.0 + i) ∙ g.1) g.2 good k)

-- Events that are sent

some-less : (xs : List Sized) (n : ℕ) → is_some (slice_get xs n) ≡ true → n < length xs
some-less [] n h = cc
some-less (x ∷ xs) zero h = omega arith
some-less (x ∷ xs) (suc n) h = let less = some-less xs n h in omega (arith, less)

place-less : (project : Project) (name : Name) (n : ℕ) → event_of project n ≡ named name → nat_lt n (length project.events) ≡ true
place-less project name n e = by project.events n e
  where
    by : (events : List Sized) (n : ℕ) → unwrap_or (option_map (λ event. named event.name) (slice_get events n)) (numbered n) ≡ named name → nat_lt n (length events) ≡ true
    by [] n e = cc
    by (x ∷ xs) zero e = lt-ltb 0 (suc (length xs)) (omega arith)
    by (x ∷ xs) (suc n) e = of xs n (later xs n e)
      where
        later : (xs : List Sized) (n : ℕ) → unwrap_or (option_map (λ event. named event.name) (slice_get xs n)) (numbered (suc n)) ≡ named name → is_some (slice_get xs n) ≡ true
        later [] n e = cc
        later (y ∷ ys) zero e = refl
        later (y ∷ ys) (suc n) e = of_some (slice_get ys n) e
          where
            of_some : (o : Option Sized) → unwrap_or (option_map (λ event. named event.name) o) (numbered (suc (suc n))) ≡ named name → is_some o ≡ true
            of_some None e = cc
            of_some (Some v) e = refl

        of : (xs : List Sized) (n : ℕ) → is_some (slice_get xs n) ≡ true → nat_lt (suc n) (suc (length xs)) ≡ true
        of xs n h = let less = some-less xs n h in lt-ltb (suc n) (suc (length xs)) (omega (arith, less))

send-one : (program : Program) (line : ℕ) (name : Name) (a count : ℕ) (stored : List ℕ) (behind : CoreStmts) → IsEvent program name → count ≤ 256 → is_readable_range (plain_core program) stored a count ≡ true → IsGood program stored behind
    → IsGood program stored (core_stmts (core_stmt line (send (sent_number program name) a count)) behind)
send-one program line name a count stored behind e few readable_range k =
    rw (place-less program.project name (sent_number program name) e, le-leb count 256 few, readable_range) (by (is_last behind))
  where
    by : (b : Bool) → (not (b && false) && is_good_list program.project (plain_core program) stored behind) ≡ true
    by true = k
    by false = k

-- an argument with cells of its own, and one whose elements are put into temporaries
own-emit-good : (program : Program) (line : ℕ) (name : Name) (e : Expr) (own : Bool) (stored : List ℕ) (behind : CoreStmts) → is_own program e ≡ own → IsEvent program name → GoodArgument program (Some e) → ((st : List ℕ) → IsGood program st behind)
    → IsGood program stored (kept line (cells_of_variables program) (if own then [] else elements_of program e)
    (core_stmts (core_stmt line (send (sent_number program name) (if own then own_start program e else cells_of_variables program) (length (elements_of program e)))) behind))
own-emit-good program line name e true stored behind o event g k =
    let w = own-cells program e o g.0.0 in
    let count : length (elements_of program e) ≡ w.count = ap length w.found ∙ length-map (range_with_len (own_start program e) w.count) cell ∙ length-range_with_len (own_start program e) w.count in
    send-one program line name (own_start program e) (length (elements_of program e)) stored behind event g.1 (own-range program stored (own_start program e) (length (elements_of program e)) (let inside = w.inside in omega (arith, inside, count))) (k stored)
own-emit-good program line name e false stored behind o event g k =
    let es = elements_of program e in
    let none : cells_of_variables program + 0 ≡ cells_of_variables program = omega arith in
    let fresh : length es ≤ source_room program = subst (λ b. length (if b then [] else es) ≤ source_room program) o g.0.1 in
    kept-whole program line es stored (core_stmts (core_stmt line (send (sent_number program name) (cells_of_variables program) (length es))) behind) (λ st. readable program st e g.0.0) fresh refl
    (λ st has. send-one program line name (cells_of_variables program) (length es) st behind event g.1
    (subst (λ n. is_readable_range (plain_core program) st n (length es) ≡ true) none (kept-range program st 0 (length es) (omega (arith, fresh)) (λ i less. has i (omega (arith, less))))) (k st))

emit-good : (program : Program) (line : ℕ) (name : Name) (argument : Option Expr) (stored : List ℕ) (behind : CoreStmts) → IsEvent program name → GoodArgument program argument → ((st : List ℕ) → IsGood program st behind)
    → IsGood program stored (sending program line name argument behind)
emit-good program line name None stored behind event g k = send-one program line name 0 0 stored behind event (omega arith) (own-range program stored 0 0 (omega arith)) (k stored)
emit-good program line name (Some e) stored behind event g k = own-emit-good program line name e (is_own program e) stored behind refl event g k

-- Natives

call-good : (program : Program) (line : ℕ) (name : Name) (es : Exprs) (stored : List ℕ) (behind : CoreStmts) → GoodCall program name es → ((st : List ℕ) → IsGood program st behind) → IsGood program stored (calling program line name es behind)
call-good program line name es stored behind g k =
    kept-whole program line (fresh_of_list program es) stored
    (core_stmts (core_stmt line (use_native (native_place program.project name) (argument_starts program (cells_of_variables program) es ++ given_lengths program name es))) behind)
    (λ st. fresh-readable program st es g.ready.grounded) g.ready.room refl
    (λ st has. rw (call-is-good program name es st g has) (by st (is_last behind)))
  where
    by : (st : List ℕ) (b : Bool) → (not (b && false) && is_good_list program.project (plain_core program) st behind) ≡ true
    by st true = k st
    by st false = k st

-- Statements

alone-stmt : (program : Program) (stored : List ℕ) (line : ℕ) (form : CoreForm) (behind : CoreStmts) → kept_at (plain_core program) form ≡ None → is_good_form program.project (plain_core program) stored form ≡ true → IsGood program stored behind
    → IsGood program stored (core_stmts (core_stmt line form) behind)
alone-stmt program stored line form behind none good k = rw (none, good) (by (is_last behind))
  where
    by : (b : Bool) → (not (b && false) && is_good_list program.project (plain_core program) stored behind) ≡ true
    by true = k
    by false = k

-- a subroutine stands at its place
abbrev pub FindsSub : Program → Name → Type 0
FindsSub program name = is_sub_part (slice_get (plain_core program).parts (sub_place program name)) ≡ true

-- each subroutine that is called is there
abbrev mutual
  pub Finds : Program → Stmt → Type 0
  Finds program (stmt line place form) = FindsIn program form

  pub FindsIn : Program → StmtForm → Type 0
  FindsIn program (if_then c body other) = FindsAll program body × FindsAll program other
  FindsIn program (when_do c body) = FindsAll program body
  FindsIn program (while_do c body) = FindsAll program body
  FindsIn program (for_do head body) = FindsAll program body
  FindsIn program (callsub name) = FindsSub program name
  FindsIn program form = Unit {0}

  pub FindsAll : Program → Stmts → Type 0
  FindsAll program no_stmts = Unit {0}
  FindsAll program (stmts s ss) = Finds program s × FindsAll program ss

pub head-inside : (program : Program) (head : ForHead) → ReadyHead program head → start_of program head.name < cells_of_variables program
head-inside program head g = by (variable_place program head.name) refl g
  where
    by : (o : Option (ℕ × ℕ)) → variable_place program head.name ≡ o → IsSized o 1 → start_in o < cells_of_variables program
    by None e g = absurd g
    by (Some p) e g = let inside = place-inside program head.name p.0 p.1 e in omega (arith, inside, g)

test-good : (program : Program) (stored : List ℕ) (head : ForHead) → start_of program head.name < cells_of_variables program → is_good_expr (plain_core program) stored (for_test program head) ≡ true
test-good program stored head less = pick (int_lt (step_of program.project.consts head.step) (pos 0))
  where
    pick : (b : Bool) → is_good_expr (plain_core program) stored (infix_of (if b then AtLeast else AtMost) (cell (start_of program head.name)) (fixed (constant program.project.consts head.last))) ≡ true
    pick true = both (is_good_expr (plain_core program) stored (cell (start_of program head.name))) true (cell-readable program stored (start_of program head.name) less) refl
    pick false = both (is_good_expr (plain_core program) stored (cell (start_of program head.name))) true (cell-readable program stored (start_of program head.name) less) refl

for-good : (program : Program) (line : ℕ) (head : ForHead) (body : CoreStmts) (stored : List ℕ) (behind : CoreStmts) → start_of program head.name < cells_of_variables program → IsGood program [] body → ((st : List ℕ) → IsGood program st behind)
    → IsGood program stored (storing line (into (start_of program head.name)) (for_first program head) (core_stmts (core_stmt line (loop (for_test program head) body)) behind))
for-good program line head body stored behind less good k =
    store-one program line (start_of program head.name) (for_first program head) stored (core_stmts (core_stmt line (loop (for_test program head) body)) behind) refl less
    (alone-stmt program stored line (loop (for_test program head) body) behind refl
    (both (is_good_expr (plain_core program) stored (for_test program head)) (is_good_list program.project (plain_core program) [] body) (test-good program stored head less) good) (k stored))

next-good : (program : Program) (line : ℕ) (head : ForHead) (stored : List ℕ) → start_of program head.name < cells_of_variables program → IsGood program stored (storing line (into (start_of program head.name)) (for_next program head) no_core)
next-good program line head stored less =
    store-one program line (start_of program head.name) (for_next program head) stored no_core
    (both (is_good_expr (plain_core program) stored (cell (start_of program head.name))) true (cell-readable program stored (start_of program head.name) less) refl) less refl

mutual
  stmt-good : (program : Program) (s : Stmt) (stored : List ℕ) (behind : CoreStmts) → GoodStmt program s → Finds program s → ((st : List ℕ) → IsGood program st behind) → IsGood program stored (plain program s behind)
  stmt-good program (stmt line place form) stored behind g f k = form-good program line form stored behind g f k

  form-good : (program : Program) (line : ℕ) (form : StmtForm) (stored : List ℕ) (behind : CoreStmts) → GoodForm program form → FindsIn program form → ((st : List ℕ) → IsGood program st behind) → IsGood program stored (plain_form program line form behind)
  form-good program line (assign target e) stored behind g f k =
      assigned-good program line target.place target.name target.part (variable_place program target.name) (elements_of program e) stored behind refl g.0 (λ st. readable program st e g.1) k
  form-good program line (change target op e) stored behind g f k =
      assigned-good program line target.place target.name target.part (variable_place program target.name) (changed_elements program target op e) stored behind refl g.0
      (λ st. paired-readable program st op (elements_of program (target_expr target)) (elements_of program e) (readable program st (target_expr target) g.1) (readable program st e g.2)) k
  form-good program line (bump target op) stored behind g f k =
      assigned-good program line target.place target.name target.part (variable_place program target.name) (bumped_elements program target op) stored behind refl g.0
      (λ st. bumped-readable program st op (elements_of program (target_expr target)) (readable program st (target_expr target) g.1)) k
  form-good program line (if_then c body other) stored behind g f k =
      alone-stmt program stored line (branch (element_of program c) (all_plain program body no_core) (all_plain program other no_core)) behind refl
      (both (is_good_expr (plain_core program) stored (element_of program c) && is_good_list program.project (plain_core program) [] (all_plain program body no_core)) (is_good_list program.project (plain_core program) [] (all_plain program other no_core))
      (both (is_good_expr (plain_core program) stored (element_of program c)) (is_good_list program.project (plain_core program) [] (all_plain program body no_core)) (element-readable program stored c g.0.0) (list-good program body [] no_core g.1 f.0 (λ st. refl)))
      (list-good program other [] no_core g.2 f.1 (λ st. refl))) (k stored)
  form-good program line (when_do c body) stored behind g f k =
      alone-stmt program stored line (on_edge (element_of program c) (all_plain program body no_core)) behind refl
      (both (is_good_expr (plain_core program) stored (element_of program c)) (is_good_list program.project (plain_core program) [] (all_plain program body no_core)) (element-readable program stored c g.0.0) (list-good program body [] no_core g.1 f (λ st. refl))) (k stored)
  form-good program line (while_do c body) stored behind g f k =
      alone-stmt program stored line (loop (element_of program c) (all_plain program body no_core)) behind refl
      (both (is_good_expr (plain_core program) stored (element_of program c)) (is_good_list program.project (plain_core program) [] (all_plain program body no_core)) (element-readable program stored c g.0.0) (list-good program body [] no_core g.1 f (λ st. refl))) (k stored)
  form-good program line (for_do head body) stored behind g f k =
      let less = head-inside program head g.0 in
      for-good program line head (all_plain program body (storing line (into (start_of program head.name)) (for_next program head) no_core)) stored behind less
      (list-good program body [] (storing line (into (start_of program head.name)) (for_next program head) no_core) g.1 f (λ st. next-good program line head st less)) k
  form-good program line (emit name argument) stored behind g f k = emit-good program line name argument stored behind g.0 g.1 k
  form-good program line (callsub name) stored behind g f k = alone-stmt program stored line (enter (sub_place program name)) behind refl f (k stored)
  form-good program line (call name es) stored behind g f k = call-good program line name es stored behind g k
  form-good program line return stored behind g f k = alone-stmt program stored line go_back behind refl refl (k stored)

  pub list-good : (program : Program) (ss : Stmts) (stored : List ℕ) (behind : CoreStmts) → GoodStmts program ss → FindsAll program ss → ((st : List ℕ) → IsGood program st behind) → IsGood program stored (all_plain program ss behind)
  list-good program no_stmts stored behind g f k = k stored
  list-good program (stmts s ss) stored behind g f k = stmt-good program s stored (all_plain program ss behind) g.0 f.0 (λ st. list-good program ss st behind g.1 f.1 k)
