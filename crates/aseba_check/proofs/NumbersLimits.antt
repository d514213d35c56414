-- How much statements take at most, by how many statements and expressions they are.
use Rattle.std.proofs.Common.{◌≡◌, refl, ◌∙◌, ap, ℕ, suc, ◌+◌, ◌*◌, ◌-◌, ◌≤◌, ◌<◌, max, Bool, true, false, if◌then◌else◌, ℤ, pos, List, [], ◌∷◌, ◌++◌, length, Option, Some, None, arith}
use Rattle.std.specs.Prelude.{not, ◌&&◌, nat_le, int_lt, is_some, option_to_list}
use Rattle.std.specs.List.{list_all, list_any}
use Rattle.std.specs.Ordering.{int_eq}
use Rattle.std.proofs.lemmas.Bool.{leb-true}
use Rattle.std.proofs.lemmas.List.{length-map, length-append}
use Rattle.std.proofs.lemmas.List.Sums.{sum_by-cons, sum_by-append}
use Rattle.aseba_tree.specs.Code.{Name, Place, Expr, expr, Exprs, no_exprs, exprs, Part, all, at, span, Target, stmt, StmtForm, assign, change, bump, if_then, when_do, while_do, for_do, emit, callsub, call, return, Stmts, no_stmts, stmts}
use Rattle.aseba_tree.specs.State.{Program}
use Rattle.aseba_tree.specs.Step.{part_form, target_expr, step_of}
use Rattle.aseba_tree.specs.Value.{constant}
use Rattle.aseba_tree.specs.CoreExpr.{CoreExpr, fixed, infix_of}
use Rattle.aseba_tree.specs.Sizes.{is_of_one_cell, size_of, target_size}
use Rattle.aseba_tree.specs.Faults.{fault_if, unknown, unknown_variable, bad_index, not_one_cell, expr_faults, list_faults, target_faults, part_faults, cell_faults, head_faults, global_event, stmt_form_faults, stmts_faults}
use Rattle.aseba_tree.specs.Elements.{elements_of, target_elements, changed_elements, bumped_elements, element_of, target_index}
use Rattle.aseba_tree.specs.Shape.{is_filled, list_depth, form_list_depth, expr_count, form_count, list_count, to_list, part_exprs, form_exprs, stmts_exprs, inner_count, stmts_count}
use Rattle.aseba_tree.specs.Numbers.{number_words, words, depth, condition_words, condition_depth, all_words, greatest_depth, assigned_words, assigned_depth, assigned_room, is_own, fresh_elements, fresh_of_list, lengths, param_sizes, given_lengths, is_large, jump_words, else_words, form_words, stmts_words, form_depth, stmts_depth, form_room, stmts_room}
use Rattle.aseba_tree.specs.Templates.{template_lengths}
use Rattle.aseba_tree.proofs.SizeLaws.{nil_left, nil_right, both_left, both_right}
use Rattle.aseba_tree.proofs.ElementLaws.{laid_scope, expr_is_long}
use Rattle.aseba_check.specs.Statements.{Known as Meanings}
use Rattle.aseba_check.proofs.WalkTies.{total, cons-total}
use Rattle.aseba_check.proofs.NumbersHeld.{depth-append, words-cons, words-append, number-small, paired-length, paired-words, paired-depth}
use Rattle.aseba_check.proofs.NumbersExprs.{same-size, expr-one, form-many}
use Rattle.aseba_check.proofs.NumbersArguments.{length_words}
use Rattle.aseba_check.proofs.NumbersStatements.{Ready, laid_world, single, element-is, part-good, part-filled, part-size, bumped-words, bumped-depth}
use Rattle.aseba_check.proofs.NumbersWithin.{cap-whole, weight, expr-weight, expr-deep}

-- the lists and prefix operators of an expression are few
abbrev pub is_shallow : Expr → Bool
is_shallow e = nat_le (list_depth e) 64

abbrev pub IsFine : List Expr → Type 0
IsFine es = (list_all is_filled es ≡ true) × (list_all is_shallow es ≡ true)

pub split-left : (p : Expr → Bool) (es fs : List Expr) → list_all p (es ++ fs) ≡ true → list_all p es ≡ true
split-left p [] fs h = refl
split-left p (e ∷ es) fs h = joined (p e) (list_all p (es ++ fs)) (list_all p es) h (split-left p es fs)
  where
    joined : (a b c : Bool) → (a && b) ≡ true → (b ≡ true → c ≡ true) → (a && c) ≡ true
    joined true b c x q = q x
    joined false b c x q = x

pub split-right : (p : Expr → Bool) (es fs : List Expr) → list_all p (es ++ fs) ≡ true → list_all p fs ≡ true
split-right p [] fs h = h
split-right p (e ∷ es) fs h = split-right p es fs (both_right (p e) _ h)

pub fine-left : (es fs : List Expr) → IsFine (es ++ fs) → IsFine es
fine-left es fs f = (split-left is_filled es fs f.0, split-left is_shallow es fs f.1)

pub fine-right : (es fs : List Expr) → IsFine (es ++ fs) → IsFine fs
fine-right es fs f = (split-right is_filled es fs f.0, split-right is_shallow es fs f.1)

pub fine-rest : (e : Expr) (es : List Expr) → IsFine (e ∷ es) → IsFine es
fine-rest e es f = (both_right (is_filled e) _ f.0, both_right (is_shallow e) _ f.1)

filled-first : (e : Expr) (es : List Expr) → IsFine (e ∷ es) → is_filled e ≡ true
filled-first e es f = both_left (is_filled e) _ f.0

shallow-first : (e : Expr) (es : List Expr) → IsFine (e ∷ es) → list_depth e ≤ 64
shallow-first e es f = leb-true (list_depth e) 64 (both_left (is_shallow e) _ f.1)

total-append : (es fs : List Expr) → total (es ++ fs) ≡ total es + total fs
total-append es fs = sum_by-append expr_count es fs

-- Assignments

abbrev index_words : Option CoreExpr → ℕ
index_words None = 0
index_words (Some i) = words i

abbrev index_depth : Option CoreExpr → ℕ
index_depth None = 0
index_depth (Some i) = depth i

words-assigned : (i : Option CoreExpr) (es : List CoreExpr) → assigned_words i es ≤ 3 * weight es + index_words i + 2
words-assigned (Some i) es = omega arith
words-assigned None [] = omega arith
words-assigned None (e ∷ []) = let w = words-cons e [] in omega arith
words-assigned None (e ∷ f ∷ es) = omega arith

depth-assigned : (i : Option CoreExpr) (es : List CoreExpr) → assigned_depth i es ≤ max (greatest_depth es) (1 + index_depth i)
depth-assigned (Some i) es = omega arith
depth-assigned None es = omega arith

room-assigned : (i : Option CoreExpr) (es : List CoreExpr) → assigned_room i es ≤ length es
room-assigned (Some i) es = omega arith
room-assigned None [] = omega arith
room-assigned None (e ∷ []) = omega arith
room-assigned None (e ∷ f ∷ es) = omega arith

part-count : (name : Name) (part : Part) → form_count (part_form name part) ≡ total (part_exprs part)
part-count name all = refl
part-count name (at e) = omega arith
part-count name (span c d) = omega arith

part-shallow : (name : Name) (part : Part) → IsFine (part_exprs part) → form_list_depth (part_form name part) ≤ 64
part-shallow name all f = omega arith
part-shallow name (at e) f = shallow-first e [] f
part-shallow name (span c d) f = let first = shallow-first c (d ∷ []) f in let last = shallow-first d [] (fine-rest c (d ∷ []) f) in omega arith

-- Conditions

condition-small : (c : CoreExpr) → (condition_words c ≤ words c + 1) × (condition_depth c ≤ max (depth c) 2)
condition-small (infix_of op l r) = chosen (is_of_one_cell op) (words l) (words r) (max (depth l) (1 + depth r))
  where
    chosen : (b : Bool) (m n d : ℕ) → ((if b then m + n else m + n + 1 + 1) ≤ m + n + 1 + 1) × ((if b then d else max d 2) ≤ max d 2)
    chosen true m n d = (omega arith, omega arith)
    chosen false m n d = (omega arith, omega arith)
condition-small _ = (omega arith, omega arith)

jump-small : (program : Program) → jump_words program.project ≤ 4
jump-small program = chosen (is_large program.project)
  where
    chosen : (b : Bool) → (if b then 4 else 1) ≤ 4
    chosen true = omega arith
    chosen false = omega arith

else-small : (program : Program) (ss : Stmts) (n : ℕ) → else_words program.project ss n ≤ 4 + n
else-small program no_stmts n = omega arith
else-small program (stmts s ss) n = let j = jump-small program in omega arith

-- Templates

few-more : (b c : Bool) (n m : ℕ) (old new : List ℕ) → length old ≤ m → length new ≤ m → length (if b && not c then n ∷ new else old) ≤ suc m
few-more false c n m old new h k = omega arith
few-more true true n m old new h k = omega arith
few-more true false n m old new h k = omega arith

few-templates : (before ps : List ℤ) (ns : List ℕ) → length (template_lengths before ps ns) ≤ length ns
few-templates before [] ns = omega arith
few-templates before (p ∷ ps) [] = omega arith
few-templates before (p ∷ ps) (n ∷ ns) = few-more (int_lt p (pos 0)) (list_any (int_eq p) before) n (length ns) _ _ (few-templates before ps ns) (few-templates (p ∷ before) ps ns)

short-lengths : (ns : List ℕ) → length_words ns ≤ 65536 * length ns
short-lengths [] = omega arith
short-lengths (n ∷ ns) = let c = sum_by-cons (λ m. number_words (pos m)) n ns in let s = number-small (pos n) in let k = short-lengths ns in omega arith

few-lengths : (program : Program) (es : Exprs) → length (lengths program es) ≤ list_count es
few-lengths program no_exprs = omega arith
few-lengths program (exprs (expr first place form) es) = let k = few-lengths program es in omega arith

listed : (es : Exprs) → total (to_list es) ≡ list_count es
listed no_exprs = refl
listed (exprs e es) = cons-total e (to_list es) ∙ ap (λ n. expr_count e + n) (listed es)

fresh-choice : (b : Bool) (es : List CoreExpr) → (weight (if b then [] else es) ≤ weight es) × (greatest_depth (if b then [] else es) ≤ greatest_depth es)
fresh-choice true es = (omega arith, omega arith)
fresh-choice false es = (omega arith, omega arith)

-- the value of a declaration, where it has one

abbrev pub value_words : Program → Option Expr → ℕ
value_words program None = 0
value_words program (Some e) = assigned_words None (elements_of program e)

abbrev pub value_depth : Program → Option Expr → ℕ
value_depth program None = 0
value_depth program (Some e) = greatest_depth (elements_of program e)

abbrev pub value_room : Program → Option Expr → ℕ
value_room program None = 0
value_room program (Some e) = assigned_room None (elements_of program e)

-- what so many statements and expressions take at most, where calls of subroutines take at most B stack cells
pub record Under (B n w d r : ℕ) : Type 0 where
  pub words : w ≤ 67108864 * n
  pub depth : 2 * n ≤ B → d ≤ B
  pub room : r ≤ 67108864 * n

module _ (program : Program) (known : Meanings) (ready : Ready program known) where
  small : (e : Expr) (es : List Expr) → IsFine (e ∷ es) → expr_faults (laid_scope program) e ≡ [] → (weight (elements_of program e) ≤ 4325376 * expr_count e) × (greatest_depth (elements_of program e) ≤ expr_count e)
  small e es f none =
      let p = expr-weight program known.meaning ready.names ready.cells 64 e (shallow-first e es f) (filled-first e es f) none in
      let c = cap-whole (expr_count e) in
      (omega (arith, p, c), expr-deep program ready.cells e (filled-first e es f) none)

  small-one : (e : Expr) (es : List Expr) → IsFine (e ∷ es) → expr_faults (laid_scope program) e ≡ [] → not_one_cell (laid_scope program) e ≡ [] → (words (element_of program e) ≤ 4325376 * expr_count e) × (depth (element_of program e) ≤ expr_count e)
  small-one e es f none one =
      let p = small e es f none in
      let s = single (elements_of program e) (expr-one program ready.cells e (filled-first e es f) none one) in
      let w = ap all_words s.is in
      let d = ap greatest_depth s.is in
      let x = ap words (element-is program e s) in
      let y = ap depth (element-is program e s) in
      let a = p.0 in
      let b = p.1 in
      (omega (arith, a, w, x), omega (arith, b, d, y))

  small-index : (place : Place) (name : Name) (part : Part) → IsFine (part_exprs part) → unknown_variable (laid_scope program) place name ++ part_faults (laid_scope program) place name part ≡ []
      → (index_words (target_index program part) ≤ 4325376 * total (part_exprs part)) × (index_depth (target_index program part) ≤ total (part_exprs part))
  small-index place name all f none = (omega arith, omega arith)
  small-index place name (span c d) f none = (omega arith, omega arith)
  small-index place name (at i) f none =
      let own = nil_right (unknown_variable (laid_scope program) place name) _ none in
      let bad = nil_right (expr_faults (laid_scope program) i) (bad_index (laid_scope program) place name i) own in
      let p = small-one i [] f (nil_left (expr_faults (laid_scope program) i) _ own) (nil_right _ (not_one_cell (laid_scope program) i) (nil_left _ _ bad)) in
      let a = p.0 in
      let b = p.1 in
      (omega (arith, a), omega (arith, b))

  small-target : (target : Target) → IsFine (part_exprs target.part) → target_faults (laid_scope program) target ≡ []
      → (weight (target_elements program target) ≤ 4325376 * suc (total (part_exprs target.part))) × (greatest_depth (target_elements program target) ≤ suc (total (part_exprs target.part)))
  small-target target f none =
      let good = part-good (laid_scope program) target.place target.name target.part none in
      let filled = part-filled target.name target.part f.0 in
      let p = expr-weight program known.meaning ready.names ready.cells 64 (target_expr target) (part-shallow target.name target.part f) filled good in
      let c = cap-whole (expr_count (target_expr target)) in
      let d = expr-deep program ready.cells (target_expr target) filled good in
      let n = part-count target.name target.part in
      (omega (arith, p, c, n), omega (arith, d, n))

  fresh-list : (es : Exprs) → IsFine (to_list es) → list_faults (laid_scope program) es ≡ [] → (weight (fresh_of_list program es) ≤ 4325376 * list_count es) × (greatest_depth (fresh_of_list program es) ≤ list_count es)
  fresh-list no_exprs f none = (omega arith, omega arith)
  fresh-list (exprs e es) f none =
      let first = small e (to_list es) f (nil_left (expr_faults (laid_scope program) e) _ none) in
      let rest = fresh-list es (fine-rest e (to_list es) f) (nil_right (expr_faults (laid_scope program) e) _ none) in
      let chosen = fresh-choice (is_own program e) (elements_of program e) in
      let all = words-append (fresh_elements program e) (fresh_of_list program es) in
      let long = length-append (fresh_elements program e) (fresh_of_list program es) in
      let deep = depth-append (fresh_elements program e) (fresh_of_list program es) in
      let a = first.0 in
      let b = first.1 in
      let c = rest.0 in
      let d = rest.1 in
      let g = chosen.0 in
      let h = chosen.1 in
      (omega (arith, a, c, g, all, long), omega (arith, b, d, h, deep))

  -- the value of a declaration
  pub under-value : (value : Option Expr) → IsFine (option_to_list value) → ((e : Expr) → value ≡ Some e → expr_faults (laid_scope program) e ≡ [])
      → (value_words program value ≤ 67108864 * total (option_to_list value)) × (value_depth program value ≤ total (option_to_list value)) × (value_room program value ≤ 67108864 * total (option_to_list value))
  under-value None f none = (omega arith, omega arith, omega arith)
  under-value (Some e) f none =
      let p = small e [] f (none e refl) in
      let w = words-assigned None (elements_of program e) in
      let r = room-assigned None (elements_of program e) in
      let a = p.0 in
      let b = p.1 in
      (positive-count e (assigned_words None (elements_of program e)) (omega (arith, w, a)), omega (arith, b), omega (arith, r, a))
    where
      positive-count : (x : Expr) (n : ℕ) → n ≤ 12976128 * expr_count x + 2 → n ≤ 67108864 * (0 + expr_count x)
      positive-count (expr first place form) n h = omega arith

-- All statements of a program, where calls of subroutines take at most so many stack cells
module _ (program : Program) (known : Meanings) (ready : Ready program known) (called : List Name) (depths : Name → ℕ) (B : ℕ) (low : (name : Name) → suc (depths name) ≤ B) where
  under-assign : (i : Option CoreExpr) (es : List CoreExpr) (n : ℕ) → weight es ≤ 12976128 * n → greatest_depth es ≤ 2 * n → index_words i ≤ 4325376 * n → index_depth i < n → Under B n (assigned_words i es) (assigned_depth i es) (assigned_room i es)
  under-assign i es n heavy high words-i depth-i =
      let w = words-assigned i es in
      let d = depth-assigned i es in
      let r = room-assigned i es in
      record {
        words = omega (arith, w, heavy, words-i, depth-i);
        depth = λ h. omega (arith, d, high, depth-i, h);
        room = omega (arith, r, heavy);
      }

  mutual
    under-form : (place : Place) (form : StmtForm) → IsFine (form_exprs form) → stmt_form_faults (laid_world program called) place form ≡ [] → Under B (suc (inner_count form) + total (form_exprs form)) (form_words program form) (form_depth program depths form) (form_room program form)
    under-form place (assign target e) f none =
        let scope = laid_scope program in
        let first = nil_left (target_faults scope target ++ expr_faults scope e) _ none in
        let value = small program known ready e [] (fine-right (part_exprs target.part) (e ∷ []) f) (nil_right (target_faults scope target) _ first) in
        let aim = small-index program known ready target.place target.name target.part (fine-left (part_exprs target.part) (e ∷ []) f) (nil_left (target_faults scope target) _ first) in
        let all = total-append (part_exprs target.part) (e ∷ []) in
        let a = value.0 in
        let b = value.1 in
        let c = aim.0 in
        let d = aim.1 in
        under-assign (target_index program target.part) (elements_of program e) (suc 0 + total (part_exprs target.part ++ e ∷ [])) (omega (arith, a, all)) (omega (arith, b, all)) (omega (arith, c, all)) (omega (arith, d, all))
    under-form place (change target op e) f none =
        let scope = laid_scope program in
        let first = nil_left (target_faults scope target ++ expr_faults scope e) _ none in
        let fine-part = fine-left (part_exprs target.part) (e ∷ []) f in
        let fine-value = fine-right (part_exprs target.part) (e ∷ []) f in
        let aimed = nil_left (target_faults scope target) _ first in
        let own = nil_right (target_faults scope target) _ first in
        let value = small program known ready e [] fine-value own in
        let aim = small-index program known ready target.place target.name target.part fine-part aimed in
        let old = small-target program known ready target fine-part aimed in
        let good = part-good scope target.place target.name target.part aimed in
        let filled = part-filled target.name target.part fine-part.0 in
        let size = part-size scope target.place target.name target.part (nil_left (unknown_variable scope target.place target.name) _ aimed) in
        let same = same-size place (target_size scope target) (size_of scope e) (length (target_elements program target)) (length (elements_of program e)) (size ∙ expr_is_long program ready.cells (target_expr target) filled good)
        (expr_is_long program ready.cells e (both_left (is_filled e) _ fine-value.0) own) (nil_right (target_faults scope target ++ expr_faults scope e) _ none) in
        let long = paired-length op (target_elements program target) (elements_of program e) same in
        let words = paired-words op (target_elements program target) (elements_of program e) same in
        let deep = paired-depth op (target_elements program target) (elements_of program e) same (form-many program ready.cells target.place (part_form target.name target.part) filled good) in
        let all = total-append (part_exprs target.part) (e ∷ []) in
        let a = value.0 in
        let b = value.1 in
        let c = aim.0 in
        let d = aim.1 in
        let g = old.0 in
        let h = old.1 in
        under-assign (target_index program target.part) (changed_elements program target op e) (suc 0 + total (part_exprs target.part ++ e ∷ [])) (omega (arith, a, g, long, words, all)) (omega (arith, b, h, deep, all)) (omega (arith, c, all)) (omega (arith, d, all))
    under-form place (bump target op) f none =
        let scope = laid_scope program in
        let aim = small-index program known ready target.place target.name target.part f none in
        let old = small-target program known ready target f none in
        let good = part-good scope target.place target.name target.part none in
        let words = bumped-words op (target_elements program target) in
        let long = length-map (target_elements program target) (λ l. infix_of op l (fixed (pos 1))) in
        let deep = bumped-depth op (target_elements program target) (form-many program ready.cells target.place (part_form target.name target.part) (part-filled target.name target.part f.0) good) in
        let c = aim.0 in
        let d = aim.1 in
        let g = old.0 in
        let h = old.1 in
        under-assign (target_index program target.part) (bumped_elements program target op) (suc 0 + total (part_exprs target.part)) (omega (arith, g, long, words)) (omega (arith, h, deep)) (omega (arith, c)) (omega (arith, d))
    under-form place (if_then c body other) f none =
        let scope = laid_scope program in
        let front = nil_left (cell_faults scope c ++ stmts_faults (laid_world program called) body) _ none in
        let test = nil_left (cell_faults scope c) _ front in
        let p = small-one program known ready c (stmts_exprs body ++ stmts_exprs other) f (nil_left (expr_faults scope c) _ test) (nil_right (expr_faults scope c) _ test) in
        let q = condition-small (element_of program c) in
        let rest = fine-rest c (stmts_exprs body ++ stmts_exprs other) f in
        let first = under-stmts body (fine-left (stmts_exprs body) (stmts_exprs other) rest) (nil_right (cell_faults scope c) _ front) in
        let second = under-stmts other (fine-right (stmts_exprs body) (stmts_exprs other) rest) (nil_right (cell_faults scope c ++ stmts_faults (laid_world program called) body) _ none) in
        let all = cons-total c (stmts_exprs body ++ stmts_exprs other) in
        let both = total-append (stmts_exprs body) (stmts_exprs other) in
        let jump = else-small program other (stmts_words program other) in
        let a = p.0 in
        let b = p.1 in
        let g = q.0 in
        let h = q.1 in
        let fw = first.words in
        let sw = second.words in
        let fr = first.room in
        let sr = second.room in
        record {
          words = omega (arith, a, g, fw, sw, all, both, jump);
          depth = λ k. let fd = first.depth (omega (arith, k, all, both)) in let sd = second.depth (omega (arith, k, all, both)) in omega (arith, b, h, fd, sd, k, all, both);
          room = omega (arith, fr, sr, all, both);
        }
    under-form place (when_do c body) f none =
        let scope = laid_scope program in
        let test = nil_left (cell_faults scope c) _ none in
        let p = small-one program known ready c (stmts_exprs body) f (nil_left (expr_faults scope c) _ test) (nil_right (expr_faults scope c) _ test) in
        let q = condition-small (element_of program c) in
        let first = under-stmts body (fine-rest c (stmts_exprs body) f) (nil_right (cell_faults scope c) _ none) in
        let all = cons-total c (stmts_exprs body) in
        let a = p.0 in
        let b = p.1 in
        let g = q.0 in
        let h = q.1 in
        let fw = first.words in
        let fr = first.room in
        record {
          words = omega (arith, a, g, fw, all);
          depth = λ k. let fd = first.depth (omega (arith, k, all)) in omega (arith, b, h, fd, k, all);
          room = omega (arith, fr, all);
        }
    under-form place (while_do c body) f none =
        let scope = laid_scope program in
        let test = nil_left (cell_faults scope c) _ none in
        let p = small-one program known ready c (stmts_exprs body) f (nil_left (expr_faults scope c) _ test) (nil_right (expr_faults scope c) _ test) in
        let q = condition-small (element_of program c) in
        let first = under-stmts body (fine-rest c (stmts_exprs body) f) (nil_right (cell_faults scope c) _ none) in
        let all = cons-total c (stmts_exprs body) in
        let jump = jump-small program in
        let a = p.0 in
        let b = p.1 in
        let g = q.0 in
        let h = q.1 in
        let fw = first.words in
        let fr = first.room in
        record {
          words = omega (arith, a, g, fw, all, jump);
          depth = λ k. let fd = first.depth (omega (arith, k, all)) in omega (arith, b, h, fd, k, all);
          room = omega (arith, fr, all);
        }
    under-form place (for_do head body) f none =
        let rest = fine-rest head.last (option_to_list head.step ++ stmts_exprs body) (fine-rest head.first (head.last ∷ (option_to_list head.step ++ stmts_exprs body)) f) in
        let first = under-stmts body (fine-right (option_to_list head.step) (stmts_exprs body) rest) (nil_right (head_faults (laid_scope program) place head) _ none) in
        let all = cons-total head.first (head.last ∷ (option_to_list head.step ++ stmts_exprs body)) in
        let more = cons-total head.last (option_to_list head.step ++ stmts_exprs body) in
        let both = total-append (option_to_list head.step) (stmts_exprs body) in
        let jump = jump-small program in
        let a = number-small (constant program.project.consts head.first) in
        let b = number-small (constant program.project.consts head.last) in
        let c = number-small (step_of program.project.consts head.step) in
        let fw = first.words in
        let fr = first.room in
        record {
          words = omega (arith, a, b, c, fw, all, more, both, jump);
          depth = λ k. let fd = first.depth (omega (arith, k, all, more, both)) in omega (arith, fd, k);
          room = omega (arith, fr, all, more, both);
        }
    under-form place (emit name None) f none = record { words = omega arith; depth = λ k. omega arith; room = omega arith }
    under-form place (emit name (Some e)) f none =
        let own = nil_right (fault_if (not (is_some (global_event program.project name))) place unknown) _ none in
        let p = small program known ready e [] f (nil_left (expr_faults (laid_scope program) e) _ own) in
        let q = fresh-choice (is_own program e) (elements_of program e) in
        let a = p.0 in
        let b = p.1 in
        let g = q.0 in
        let h = q.1 in
        record { words = omega (arith, a, g); depth = λ k. omega (arith, b, h, k); room = omega (arith, a, g) }
    under-form place (callsub name) f none = record { words = omega arith; depth = λ k. let l = low name in omega arith; room = omega arith }
    under-form place (call name es) f none =
        let p = fresh-list program known ready es f (nil_left (list_faults (laid_scope program) es) _ none) in
        let given = given_lengths program name es in
        let few = few-templates [] (param_sizes program.project name) (lengths program es) in
        let short = short-lengths given in
        let args = few-lengths program es in
        let all = listed es in
        let a = p.0 in
        let b = p.1 in
        record { words = omega (arith, a, few, short, args, all); depth = λ k. omega (arith, b, few, args, all, k); room = omega (arith, a, all) }
    under-form place return f none = record { words = omega arith; depth = λ k. omega arith; room = omega arith }

    pub under-stmts : (ss : Stmts) → IsFine (stmts_exprs ss) → stmts_faults (laid_world program called) ss ≡ [] → Under B (stmts_count ss + total (stmts_exprs ss)) (stmts_words program ss) (stmts_depth program depths ss) (stmts_room program ss)
    under-stmts no_stmts f none = record { words = omega arith; depth = λ k. omega arith; room = omega arith }
    under-stmts (stmts (stmt line place form) ss) f none =
        let first = under-form place form (fine-left (form_exprs form) (stmts_exprs ss) f) (nil_left (stmt_form_faults (laid_world program called) place form) _ none) in
        let rest = under-stmts ss (fine-right (form_exprs form) (stmts_exprs ss) f) (nil_right (stmt_form_faults (laid_world program called) place form) _ none) in
        let all = total-append (form_exprs form) (stmts_exprs ss) in
        let fw = first.words in
        let fr = first.room in
        let rw-ss = rest.words in
        let rr = rest.room in
        record {
          words = omega (arith, fw, rw-ss, all);
          depth = λ k. let fd = first.depth (omega (arith, k, all)) in let rd = rest.depth (omega (arith, k, all)) in omega (arith, fd, rd);
          room = omega (arith, fr, rr, all);
        }
