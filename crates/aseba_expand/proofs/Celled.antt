-- The numbers of the element form are cells, and what it indexes has one at least.
use Rattle.std.proofs.Common.{◌≡◌, refl, ap, subst, ℕ, suc, ◌+◌, ◌≤◌, Bool, true, false, ◌&&◌, if◌then◌else◌, pos, List, [], ◌∷◌, ◌++◌, arith, Option, Some, None, map, nat_lt}
use Rattle.std.specs.Prelude.{IsTrue, bytes_eq, option_to_list, flat_map, filter_map, int_lt}
use Rattle.std.specs.List.{list_all, range_with_len}
use Rattle.std.proofs.lemmas.Bool.{lt-ltb}
use Rattle.aseba_words.specs.declared.operators.Unary.{Unary}
use Rattle.aseba_words.specs.declared.operators.Binary.{Binary}
use Rattle.aseba_words.specs.declared.operators.Binary.TheVariants.{AtLeast, AtMost}
use Rattle.aseba_tree.specs.Code.{Name, Place, Expr, expr, Form, number, whole, index, range, items, one, two, Exprs, no_exprs, exprs, Const, Part, all, at, span, Target, ForHead, Stmt, stmt, StmtForm, assign, change, bump, if_then, when_do, while_do, for_do, emit, callsub, call, return, Stmts, no_stmts, stmts, Decl, Handler, Sized}
use Rattle.aseba_tree.specs.Value.{is_cell, from_to, constant_named, constant}
use Rattle.aseba_tree.specs.State.{Program, assignment, in_front, init_code}
use Rattle.aseba_tree.specs.Step.{part_form, target_expr, step_of}
use Rattle.aseba_tree.specs.CoreExpr.{CoreExpr, fixed, cell, prefix, infix_of, into}
use Rattle.aseba_tree.specs.Core.{CoreStmts, no_core}
use Rattle.aseba_tree.specs.CoreCells.{has_cells, list_has_cells, core_has_cells}
use Rattle.aseba_tree.specs.Shape.{part_exprs, stmt_exprs, form_exprs, stmts_exprs, decl_exprs, source_exprs, to_list}
use Rattle.aseba_tree.specs.Elements.{variable_place, named_elements, indexed_element, range_elements, paired_elements, elements_of, elements_of_form, elements_of_list, element_of, changed_elements, bumped_elements}
use Rattle.aseba_tree.specs.Layout.{variables, cells_of_variables, address_from}
use Rattle.aseba_tree.specs.Numbers.{is_own, fresh_elements, fresh_of_list}
use Rattle.aseba_tree.proofs.SizeLaws.{EachKnown, both_left, both_right}
use Rattle.aseba_tree.proofs.ConstantLaws.{known}
use Rattle.aseba_expand.specs.Literals.{has_cell_numbers, form_has_cell_numbers, have_cell_numbers}
use Rattle.aseba_expand.specs.Plain.{start_of, size_of, bound, part_addresses, storing, kept, moved, stored_in, stored_by, assigning, sending, for_test, for_next, plain, plain_form, all_plain, plain_part, plain_core}
use Rattle.aseba_expand.proofs.Ready.{IsThere, ReadyPart}
use Rattle.aseba_expand.proofs.Good.{GoodStmt, GoodForm, GoodStmts, GoodParts, GoodSource}
use Rattle.aseba_expand.proofs.Called.{sent_row, called_row}
use Rattle.aseba_expand.proofs.ConstantCells.{found-constant, constant-cell, step-cell}
use Rattle.aseba_expand.proofs.Readable.{both}

-- what is needed of a program beside its expressions: constants are cells, and each variable has one
pub record Celled (program : Program) : Type 0 where
  pub consts : list_all (λ c. is_cell c.value) program.project.consts ≡ true
  pub variables : (name : Name) (p : ℕ × ℕ) → variable_place program name ≡ Some p → 1 ≤ p.1

pub all-front : (p : Expr → Bool) (xs ys : List Expr) → list_all p (xs ++ ys) ≡ true → list_all p xs ≡ true
all-front p [] ys h = refl
all-front p (x ∷ xs) ys h = both (p x) (list_all p xs) (both_left (p x) _ h) (all-front p xs ys (both_right (p x) _ h))

pub all-back : (p : Expr → Bool) (xs ys : List Expr) → list_all p (xs ++ ys) ≡ true → list_all p ys ≡ true
all-back p [] ys h = h
all-back p (x ∷ xs) ys h = all-back p xs ys (both_right (p x) _ h)

-- Expressions

abbrev AllCelled : List CoreExpr → Type 0
AllCelled es = list_all has_cells es ≡ true

cells-celled : (ks : List ℕ) → AllCelled (map cell ks)
cells-celled [] = refl
cells-celled (k ∷ ks) = cells-celled ks

ranged-celled : (a : ℕ) (ks : List ℕ) → AllCelled (map (λ i. cell (a + i)) ks)
ranged-celled a [] = refl
ranged-celled a (k ∷ ks) = ranged-celled a ks

append-celled : (xs ys : List CoreExpr) → AllCelled xs → AllCelled ys → AllCelled (xs ++ ys)
append-celled [] ys h k = k
append-celled (x ∷ xs) ys h k = both (has_cells x) _ (both_left (has_cells x) _ h) (append-celled xs ys (both_right (has_cells x) _ h) k)

prefixed-celled : (op : Unary) (es : List CoreExpr) → AllCelled es → AllCelled (map (prefix op) es)
prefixed-celled op [] h = refl
prefixed-celled op (e ∷ es) h = both (has_cells e) _ (both_left (has_cells e) _ h) (prefixed-celled op es (both_right (has_cells e) _ h))

paired-celled : (op : Binary) (ls rs : List CoreExpr) → AllCelled ls → AllCelled rs → AllCelled (paired_elements op ls rs)
paired-celled op [] rs h k = refl
paired-celled op (l ∷ ls) [] h k = refl
paired-celled op (l ∷ ls) (r ∷ rs) h k =
    both (has_cells l && has_cells r) _ (both (has_cells l) (has_cells r) (both_left (has_cells l) _ h) (both_left (has_cells r) _ k)) (paired-celled op ls rs (both_right (has_cells l) _ h) (both_right (has_cells r) _ k))

bumped-celled : (op : Binary) (es : List CoreExpr) → AllCelled es → AllCelled (map (λ l. infix_of op l (fixed (pos 1))) es)
bumped-celled op [] h = refl
bumped-celled op (e ∷ es) h = both (has_cells e && true) _ (both (has_cells e) true (both_left (has_cells e) _ h) refl) (bumped-celled op es (both_right (has_cells e) _ h))

named-celled : (program : Program) → Celled program → (name : Name) (place : Option (ℕ × ℕ)) (c : Option Const) → constant_named program.project.consts name ≡ c → AllCelled (named_elements place c)
named-celled program h name (Some p) c e = cells-celled (range_with_len p.0 p.1)
named-celled program h name None (Some c) e = both (is_cell c.value) true (found-constant program.project.consts name c h.consts e) refl
named-celled program h name None None e = refl

indexed-celled : (program : Program) → Celled program → (name : Name) (place : Option (ℕ × ℕ)) (es : List CoreExpr) → variable_place program name ≡ place → AllCelled es → has_cells (indexed_element place es) ≡ true
indexed-celled program h name None es e k = refl
indexed-celled program h name (Some p) [] e k = refl
indexed-celled program h name (Some p) (i ∷ es) e k = both (nat_lt 0 p.1) (has_cells i) (lt-ltb 0 p.1 (h.variables name p e)) (both_left (has_cells i) _ k)

span-celled : (place : Option (ℕ × ℕ)) (c d : ℕ) → AllCelled (range_elements place c d)
span-celled None c d = refl
span-celled (Some p) c d = ranged-celled p.0 (from_to c d)

mutual
  pub elements-celled : (program : Program) → Celled program → (e : Expr) → has_cell_numbers e ≡ true → AllCelled (elements_of program e)
  elements-celled program h (expr first place form) n = form-celled program h form n

  form-celled : (program : Program) → Celled program → (form : Form) → form_has_cell_numbers form ≡ true → AllCelled (elements_of_form program form)
  form-celled program h (number v) n = both (is_cell v) true n refl
  form-celled program h (whole name) n = named-celled program h name (variable_place program name) (constant_named program.project.consts name) refl
  form-celled program h (index name e) n =
      both (has_cells (indexed_element (variable_place program name) (elements_of program e))) true (indexed-celled program h name (variable_place program name) (elements_of program e) refl (elements-celled program h e n)) refl
  form-celled program h (range name c d) n = span-celled (variable_place program name) (bound program c) (bound program d)
  form-celled program h (items es) n = list-celled program h es n
  form-celled program h (one op e) n = prefixed-celled op (elements_of program e) (elements-celled program h e n)
  form-celled program h (two op l r) n =
      paired-celled op (elements_of program l) (elements_of program r) (elements-celled program h l (both_left (has_cell_numbers l) _ n)) (elements-celled program h r (both_right (has_cell_numbers l) _ n))

  list-celled : (program : Program) → Celled program → (es : Exprs) → have_cell_numbers es ≡ true → AllCelled (elements_of_list program es)
  list-celled program h no_exprs n = refl
  list-celled program h (exprs e es) n =
      append-celled (elements_of program e) (elements_of_list program es) (elements-celled program h e (both_left (has_cell_numbers e) _ n)) (list-celled program h es (both_right (has_cell_numbers e) _ n))

element-celled : (program : Program) → Celled program → (e : Expr) → has_cell_numbers e ≡ true → has_cells (element_of program e) ≡ true
element-celled program h e n = by (elements_of program e) refl (elements-celled program h e n)
  where
    by : (es : List CoreExpr) → elements_of program e ≡ es → AllCelled es → has_cells (element_of program e) ≡ true
    by [] q k = rw q refl
    by (x ∷ es) q k = rw q (both_left (has_cells x) _ k)

-- the target as an expression
pub target-numbers : (target : Target) → list_all has_cell_numbers (part_exprs target.part) ≡ true → has_cell_numbers (target_expr target) ≡ true
target-numbers target n = by target.part n
  where
    by : (part : Part) → list_all has_cell_numbers (part_exprs part) ≡ true → form_has_cell_numbers (part_form target.name part) ≡ true
    by all n = refl
    by (at e) n = both_left (has_cell_numbers e) _ n
    by (span c d) n = both (has_cell_numbers c) (has_cell_numbers d) (both_left (has_cell_numbers c) _ n) (both_left (has_cell_numbers d) _ (both_right (has_cell_numbers c) _ n))

-- the indexed variable of a target is there
abbrev TargetThere : Program → Name → Part → Type 0
TargetThere program name (at i) = IsThere (variable_place program name)
TargetThere program name part = Unit {0}

target-there : (program : Program) (name : Name) (part : Part) (es : List CoreExpr) → ReadyPart program name part es → TargetThere program name part
target-there program name all es g = tt
target-there program name (at i) es g = g.0
target-there program name (span c d) es g = tt

-- Stores

kept-celled : (line from : ℕ) (es : List CoreExpr) (behind : CoreStmts) → AllCelled es → list_has_cells behind ≡ true → list_has_cells (kept line from es behind) ≡ true
kept-celled line from [] behind h k = k
kept-celled line from (e ∷ es) behind h k = both (has_cells e) _ (both_left (has_cells e) _ h) (kept-celled line (suc from) es behind (both_right (has_cells e) _ h) k)

moved-celled : (line from : ℕ) (cs : List ℕ) (behind : CoreStmts) → list_has_cells behind ≡ true → list_has_cells (moved line from cs behind) ≡ true
moved-celled line from [] behind k = k
moved-celled line from (c ∷ cs) behind k = moved-celled line (suc from) cs behind k

stored-celled : (line t : ℕ) (cs : List ℕ) (es : List CoreExpr) (behind : CoreStmts) → AllCelled es → list_has_cells behind ≡ true → list_has_cells (stored_in line t cs es behind) ≡ true
stored-celled line t [] es behind h k = kept-celled line t es behind h k
stored-celled line t (c ∷ cs) [] behind h k = moved-celled line t (c ∷ cs) behind k
stored-celled line t (c ∷ cs) (x ∷ []) behind h k = both (has_cells x) _ (both_left (has_cells x) _ h) k
stored-celled line t (c ∷ cs) (x ∷ y ∷ es) behind h k = kept-celled line t (x ∷ y ∷ es) (moved line t (c ∷ cs) behind) h (moved-celled line t (c ∷ cs) behind k)

indexed-stored : (line a n : ℕ) (i : CoreExpr) (es : List CoreExpr) (behind : CoreStmts) → (nat_lt 0 n && has_cells i) ≡ true → AllCelled es → list_has_cells behind ≡ true → list_has_cells (stored_by line a n i es behind) ≡ true
indexed-stored line a n i [] behind t h k = k
indexed-stored line a n i (e ∷ es) behind t h k =
    both (nat_lt 0 n && has_cells i && has_cells e) _ (both (nat_lt 0 n && has_cells i) (has_cells e) t (both_left (has_cells e) _ h)) (indexed-stored line a n i es behind t (both_right (has_cells e) _ h) k)

place-some : (program : Program) → Celled program → (name : Name) → IsThere (variable_place program name) → 1 ≤ size_of program name
place-some program h name t = by (variable_place program name) refl t
  where
    by : (o : Option (ℕ × ℕ)) → variable_place program name ≡ o → IsThere o → 1 ≤ size_of program name
    by None e t = absurd t
    by (Some p) e t = rw e (h.variables name p e)

assigned-celled : (program : Program) → Celled program → (line : ℕ) (here : Place) (name : Name) (part : Part) (es : List CoreExpr) (behind : CoreStmts) → TargetThere program name part → list_all has_cell_numbers (part_exprs part) ≡ true → AllCelled es
    → list_has_cells behind ≡ true → list_has_cells (assigning program line (record { place = here; name = name; part = part }) es behind) ≡ true
assigned-celled program h line here name all es behind t n c k = stored-celled line (cells_of_variables program) (part_addresses program name all) es behind c k
assigned-celled program h line here name (at i) es behind t n c k =
    indexed-stored line (start_of program name) (size_of program name) (element_of program i) es behind
    (both (nat_lt 0 (size_of program name)) (has_cells (element_of program i)) (lt-ltb 0 (size_of program name) (place-some program h name t)) (element-celled program h i (both_left (has_cell_numbers i) _ n))) c k
assigned-celled program h line here name (span a b) es behind t n c k = stored-celled line (cells_of_variables program) (part_addresses program name (span a b)) es behind c k

fresh-celled : (program : Program) → Celled program → (e : Expr) → has_cell_numbers e ≡ true → AllCelled (fresh_elements program e)
fresh-celled program h e n = pick (is_own program e)
  where
    pick : (b : Bool) → AllCelled (if b then [] else elements_of program e)
    pick true = refl
    pick false = elements-celled program h e n

sent-celled : (program : Program) → Celled program → (line : ℕ) (name : Name) (argument : Option Expr) (behind : CoreStmts) → list_all has_cell_numbers (option_to_list argument) ≡ true → list_has_cells behind ≡ true
    → list_has_cells (sending program line name argument behind) ≡ true
sent-celled program h line name None behind n k = k
sent-celled program h line name (Some e) behind n k =
    kept-celled line (cells_of_variables program) (fresh_elements program e) (sent_row program line name e behind) (fresh-celled program h e (both_left (has_cell_numbers e) _ n)) k

all-fresh-celled : (program : Program) → Celled program → (es : Exprs) → list_all has_cell_numbers (to_list es) ≡ true → AllCelled (fresh_of_list program es)
all-fresh-celled program h no_exprs n = refl
all-fresh-celled program h (exprs e es) n =
    append-celled (fresh_elements program e) (fresh_of_list program es) (fresh-celled program h e (both_left (has_cell_numbers e) _ n)) (all-fresh-celled program h es (both_right (has_cell_numbers e) _ n))

-- Loops

test-celled : (program : Program) → Celled program → (head : ForHead) → has_cell_numbers head.last ≡ true → has_cells (for_test program head) ≡ true
test-celled program h head n = pick (int_lt (step_of program.project.consts head.step) (pos 0))
  where
    pick : (b : Bool) → has_cells (infix_of (if b then AtLeast else AtMost) (cell (start_of program head.name)) (fixed (constant program.project.consts head.last))) ≡ true
    pick true = constant-cell program.project.consts h.consts head.last n
    pick false = constant-cell program.project.consts h.consts head.last n

-- Statements

mutual
  stmt-celled : (program : Program) → Celled program → (s : Stmt) (behind : CoreStmts) → GoodStmt program s → list_all has_cell_numbers (stmt_exprs s) ≡ true → list_has_cells behind ≡ true → list_has_cells (plain program s behind) ≡ true
  stmt-celled program h (stmt line place form) behind g n k = statement-celled program h line form behind g n k

  statement-celled : (program : Program) → Celled program → (line : ℕ) (form : StmtForm) (behind : CoreStmts) → GoodForm program form → list_all has_cell_numbers (form_exprs form) ≡ true → list_has_cells behind ≡ true → list_has_cells (plain_form program line form behind) ≡ true
  statement-celled program h line (assign target e) behind g n k =
      assigned-celled program h line target.place target.name target.part (elements_of program e) behind (target-there program target.name target.part (elements_of program e) g.0) (all-front has_cell_numbers (part_exprs target.part) _ n)
      (elements-celled program h e (both_left (has_cell_numbers e) _ (all-back has_cell_numbers (part_exprs target.part) _ n))) k
  statement-celled program h line (change target op e) behind g n k =
      let part = all-front has_cell_numbers (part_exprs target.part) _ n in
      assigned-celled program h line target.place target.name target.part (changed_elements program target op e) behind (target-there program target.name target.part (changed_elements program target op e) g.0) part
      (paired-celled op (elements_of program (target_expr target)) (elements_of program e) (elements-celled program h (target_expr target) (target-numbers target part))
      (elements-celled program h e (both_left (has_cell_numbers e) _ (all-back has_cell_numbers (part_exprs target.part) _ n)))) k
  statement-celled program h line (bump target op) behind g n k =
      assigned-celled program h line target.place target.name target.part (bumped_elements program target op) behind (target-there program target.name target.part (bumped_elements program target op) g.0) n
      (bumped-celled op (elements_of program (target_expr target)) (elements-celled program h (target_expr target) (target-numbers target n))) k
  statement-celled program h line (if_then c body other) behind g n k =
      let rest = both_right (has_cell_numbers c) _ n in
      both (has_cells (element_of program c) && list_has_cells (all_plain program body no_core) && list_has_cells (all_plain program other no_core)) (list_has_cells behind)
      (both (has_cells (element_of program c) && list_has_cells (all_plain program body no_core)) (list_has_cells (all_plain program other no_core))
      (both (has_cells (element_of program c)) (list_has_cells (all_plain program body no_core)) (element-celled program h c (both_left (has_cell_numbers c) _ n)) (statements-celled program h body no_core g.1 (all-front has_cell_numbers (stmts_exprs body) _ rest) refl))
      (statements-celled program h other no_core g.2 (all-back has_cell_numbers (stmts_exprs body) _ rest) refl)) k
  statement-celled program h line (when_do c body) behind g n k =
      both (has_cells (element_of program c) && list_has_cells (all_plain program body no_core)) (list_has_cells behind)
      (both (has_cells (element_of program c)) (list_has_cells (all_plain program body no_core)) (element-celled program h c (both_left (has_cell_numbers c) _ n)) (statements-celled program h body no_core g.1 (both_right (has_cell_numbers c) _ n) refl)) k
  statement-celled program h line (while_do c body) behind g n k =
      both (has_cells (element_of program c) && list_has_cells (all_plain program body no_core)) (list_has_cells behind)
      (both (has_cells (element_of program c)) (list_has_cells (all_plain program body no_core)) (element-celled program h c (both_left (has_cell_numbers c) _ n)) (statements-celled program h body no_core g.1 (both_right (has_cell_numbers c) _ n) refl)) k
  statement-celled program h line (for_do head body) behind g n k =
      let next = storing line (into (start_of program head.name)) (for_next program head) no_core in
      let bounds = both_right (has_cell_numbers head.first) _ n in
      let rest = both_right (has_cell_numbers head.last) _ bounds in
      let step = step-cell program.project.consts h.consts head.step (all-front has_cell_numbers (option_to_list head.step) _ rest) in
      both (is_cell (constant program.project.consts head.first)) _ (constant-cell program.project.consts h.consts head.first (both_left (has_cell_numbers head.first) _ n))
      (both (has_cells (for_test program head) && list_has_cells (all_plain program body next)) (list_has_cells behind)
      (both (has_cells (for_test program head)) (list_has_cells (all_plain program body next)) (test-celled program h head (both_left (has_cell_numbers head.last) _ bounds))
      (statements-celled program h body next g.1 (all-back has_cell_numbers (option_to_list head.step) _ rest) (both (is_cell (step_of program.project.consts head.step)) true step refl))) k)
  statement-celled program h line (emit name argument) behind g n k = sent-celled program h line name argument behind n k
  statement-celled program h line (callsub name) behind g n k = k
  statement-celled program h line (call name es) behind g n k =
      kept-celled line (cells_of_variables program) (fresh_of_list program es) (called_row program line name es behind) (all-fresh-celled program h es n) k
  statement-celled program h line return behind g n k = k

  pub statements-celled : (program : Program) → Celled program → (ss : Stmts) (behind : CoreStmts) → GoodStmts program ss → list_all has_cell_numbers (stmts_exprs ss) ≡ true → list_has_cells behind ≡ true → list_has_cells (all_plain program ss behind) ≡ true
  statements-celled program h no_stmts behind g n k = k
  statements-celled program h (stmts s ss) behind g n k =
      stmt-celled program h s (all_plain program ss behind) g.0 (all-front has_cell_numbers (stmt_exprs s) _ n) (statements-celled program h ss behind g.1 (all-back has_cell_numbers (stmt_exprs s) _ n) k)

-- Sources

parts-celled : (program : Program) → Celled program → (hs : List Handler) → GoodParts program hs → list_all has_cell_numbers (flat_map (λ h. stmts_exprs h.body) hs) ≡ true → list_all (λ part. list_has_cells part.body) (map (plain_part program) hs) ≡ true
parts-celled program h [] g n = refl
parts-celled program h (p ∷ ps) g n =
    rw (statements-celled program h p.body no_core g.0 (all-front has_cell_numbers (stmts_exprs p.body) _ n) refl) (parts-celled program h ps g.1 (all-back has_cell_numbers (stmts_exprs p.body) _ n))

init-numbers : (ds : List Decl) (ss : Stmts) → list_all has_cell_numbers (flat_map decl_exprs ds) ≡ true → list_all has_cell_numbers (stmts_exprs ss) ≡ true → list_all has_cell_numbers (stmts_exprs (in_front (filter_map assignment ds) ss)) ≡ true
init-numbers [] ss f g = g
init-numbers (d ∷ ds) ss f g = by d.value refl (init-numbers ds ss (all-back has_cell_numbers (decl_exprs d) _ f) g)
  where
    own : list_all has_cell_numbers (option_to_list d.value) ≡ true
    own = all-back has_cell_numbers (option_to_list d.size) _ (all-front has_cell_numbers (decl_exprs d) _ f)

    by : (o : Option Expr) → d.value ≡ o → list_all has_cell_numbers (stmts_exprs (in_front (filter_map assignment ds) ss)) ≡ true → list_all has_cell_numbers (stmts_exprs (in_front (filter_map assignment (d ∷ ds)) ss)) ≡ true
    by None v rest = rw v rest
    by (Some i) v rest =
        let numbers : list_all has_cell_numbers (i ∷ []) ≡ true = subst (λ o. list_all has_cell_numbers (option_to_list o) ≡ true) v own in
        rw v (both (has_cell_numbers i) _ (both_left (has_cell_numbers i) true numbers) rest)

-- each variable that has a place has a cell
place-celled : (vs : List Sized) (base : ℕ) (name : Name) (p : ℕ × ℕ) → EachKnown (map known vs) → address_from base vs name ≡ Some p → 1 ≤ p.1
place-celled [] base name p h e = cc
place-celled (v ∷ vs) base name p h e = pick (bytes_eq v.name name) e (place-celled vs (base + v.size) name p h.1)
  where
    pick : (b : Bool) → (if b then Some (base, v.size) else address_from (base + v.size) vs name) ≡ Some p → (address_from (base + v.size) vs name ≡ Some p → 1 ≤ p.1) → 1 ≤ p.1
    pick true e deeper = let same : v.size ≡ p.1 = ap second e in omega (arith, same, h.0)
      where
        second : Option (ℕ × ℕ) → ℕ
        second None = 0
        second (Some q) = q.1
    pick false e deeper = deeper e

pub is-celled : (program : Program) → IsTrue (list_all (λ c. is_cell c.value) program.project.consts) → EachKnown (map known (variables program)) → IsTrue (list_all has_cell_numbers (source_exprs program.source)) → GoodSource program
    → core_has_cells (plain_core program) ≡ true
is-celled program consts sizes n good =
    let h : Celled program = record { consts = consts; variables = λ name p e. place-celled (variables program) 0 name p sizes e } in
    let source = program.source in
    let front = all-front has_cell_numbers (flat_map decl_exprs source.vars ++ stmts_exprs source.init) _ n in
    let init = init-numbers source.vars source.init (all-front has_cell_numbers (flat_map decl_exprs source.vars) _ front) (all-back has_cell_numbers (flat_map decl_exprs source.vars) _ front) in
    rw (statements-celled program h (init_code source) no_core good.init init refl)
    (parts-celled program h source.parts good.parts (all-back has_cell_numbers (flat_map decl_exprs source.vars ++ stmts_exprs source.init) _ n))
