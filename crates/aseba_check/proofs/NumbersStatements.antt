-- What is counted of statements without a fault is what the definitions say of them.
use Rattle.std.proofs.Common.{◌≡◌, refl, sym, ◌∙◌, ap, subst, ℕ, suc, ◌+◌, ◌*◌, ◌-◌, ◌≤◌, max, Bool, true, false, if◌then◌else◌, ℤ, pos, List, [], ◌∷◌, ◌++◌, length, map, Option, Some, None, arith, append_assoc}
use Rattle.std.specs.Prelude.{not, ◌&&◌, ◌||◌, nat_eq, is_some, option_map, option_and_then, option_to_list, unwrap_or, IsSome}
use Rattle.std.specs.List.{list_all}
use Rattle.std.proofs.lemmas.Bool.{eqb-true}
use Rattle.std.proofs.lemmas.List.{length-map}
use Rattle.aseba_words.specs.declared.operators.Binary.{Binary}
use Rattle.aseba_tree.specs.declared.description.Native as code_native
use Rattle.aseba_tree.specs.declared.description.Param as code_param
use Rattle.aseba_tree.specs.Code.{Name, Place, Expr, expr, number, index, one, Exprs, no_exprs, exprs, Part, all, at, span, Target, ForHead, stmt, StmtForm, assign, change, bump, if_then, when_do, while_do, for_do, emit, callsub, call, return, Stmts, no_stmts, stmts, Native, Sized}
use Rattle.aseba_tree.specs.State.{Program}
use Rattle.aseba_tree.specs.Step.{part_form, target_expr, step_of}
use Rattle.aseba_tree.specs.Value.{constant}
use Rattle.aseba_tree.specs.View.{native_view, param_view}
use Rattle.aseba_tree.specs.CoreExpr.{CoreExpr, fixed, cell, indirect, prefix, infix_of}
use Rattle.aseba_tree.specs.Sizes.{Known, Scope, variable_of, constant_of, constant_value, is_constant, is_of_one_cell, name_size, size_of, form_size, part_size, target_size}
use Rattle.aseba_tree.specs.Spells.{first_of}
use Rattle.aseba_tree.specs.Faults.{fault_if, unknown, not_constant, arg_count, unknown_variable, bad_index, bad_range, constant_place, zero_divisions, not_one_cell, expr_faults, form_faults, list_faults, part_faults, target_faults, assignment_faults, bound_faults, cell_faults, head_faults, step_faults, argument_faults, global_event, argument_count, native_of, native_faults, with_params, length_faults, World, stmt_form_faults, stmts_faults}
use Rattle.aseba_tree.specs.Elements.{elements_of, elements_of_form, target_elements, changed_elements, bumped_elements, element_of, target_index}
use Rattle.aseba_tree.specs.Shape.{is_filled, is_filled_form, are_filled, to_list, part_exprs, form_exprs, stmts_exprs}
use Rattle.aseba_tree.specs.Numbers.{number_words, words, depth, condition_words, condition_depth, all_words, greatest_depth, kept_words, assigned_words, assigned_depth, assigned_room, fresh_elements, fresh_of_list, lengths, given_lengths, argument_elements, jump_words, else_words, form_words, stmts_words, form_depth, stmts_depth, form_room, stmts_room}
use Rattle.aseba_tree.specs.Templates.{template_lengths}
use Rattle.aseba_tree.proofs.SizeLaws.{EachKnown, nil_left, nil_right, no_fault, not_false, both_left, both_right, place_value, expr_is_good}
use Rattle.aseba_tree.proofs.ConstantLaws.{constant_is_value}
use Rattle.aseba_tree.proofs.ElementLaws.{laid_scope, expr_is_long}
use Rattle.aseba_tree.proofs.SoundProofs.{all_left, all_right}
use Rattle.aseba_check.specs.declared.facts.Meaning.{Meaning}
use Rattle.aseba_check.specs.declared.counting.taken.Taken.{Taken}
use Rattle.aseba_check.specs.Told.{facts_of}
use Rattle.aseba_check.specs.Statements.{Known as Meanings}
use Rattle.aseba_check.specs.Places.{sum_up}
use Rattle.aseba_check.specs.Counted.{infix_counted, counted_of, form_counted}
use Rattle.aseba_check.specs.CountedStatements as told
use Rattle.aseba_check.proofs.ExprTies.{Describes}
use Rattle.aseba_check.proofs.NumbersHeld.{paired-length, held, sum-held, depth-cons, words-cons, counted, same-count, is_test, infix-is}
use Rattle.aseba_check.proofs.NumbersExprs.{value-is, same-size, expr-many, expr-one, form-many, counted-is}
use Rattle.aseba_check.proofs.NumbersArguments.{fresh-is, sizes, length_words, given_of, given-is}

-- what is taken, up to the greatest number
abbrev pub taken_of : ℕ → ℕ → ℕ → Taken
taken_of w d r = record { words = held w; depth = held d; room = held r }

pub same-taken : {a b c d e f : ℕ} → a ≡ b → c ≡ d → e ≡ f → taken_of a c e ≡ taken_of b d f
same-taken p q r = λ i. taken_of (p i) (q i) (r i)

pub behind-is : (a b c d e f : ℕ) → told.behind (taken_of a b c) (taken_of d e f) ≡ taken_of (a + d) (max b e) (max c f)
behind-is a b c d e f = λ i. record { words = sum-held a d i; depth = most b e i; room = most c f i }
  where
    most : (m n : ℕ) → max (held m) (held n) ≡ held (max m n)
    most m n = omega arith

pub longer-is : (a b c n : ℕ) → told.longer (taken_of a b c) n ≡ taken_of (a + n) b c
longer-is a b c n = λ i. record { words = more i; depth = held b; room = held c }
  where
    more : sum_up (held a) n ≡ held (a + n)
    more = omega arith

pub behind-both : (a b c d : Taken) → a ≡ b → c ≡ d → told.behind a c ≡ told.behind b d
behind-both a b c d p q = ap (λ (t : Taken). told.behind t c) p ∙ ap (told.behind b) q

-- One element

pub record Single (es : List CoreExpr) : Type 0 where
  pub element : CoreExpr
  pub is : es ≡ element ∷ []

pub single : (es : List CoreExpr) → length es ≡ 1 → Single es
single [] e = absurd (omega arith)
single (i ∷ []) e = record { element = i; is = refl }
single (i ∷ j ∷ es) e = absurd (omega arith)

pub element-is : (program : Program) (e : Expr) (s : Single (elements_of program e)) → element_of program e ≡ s.element
element-is program e s = rw s.is refl

-- Assignments

abbrev assigned_taken : Option CoreExpr → List CoreExpr → Taken
assigned_taken i es = taken_of (assigned_words i es) (assigned_depth i es) (assigned_room i es)

many-stored : (e f : CoreExpr) (es : List CoreExpr) (b : Bool) → nat_eq (held (length (e ∷ f ∷ es))) 1 ≡ b
    → (if b then record { words = sum_up (counted (e ∷ f ∷ es)).words 1; depth = (counted (e ∷ f ∷ es)).depth; room = 0 }
    else record { words = sum_up (sum_up (sum_up (counted (e ∷ f ∷ es)).words (held (length (e ∷ f ∷ es)))) (held (length (e ∷ f ∷ es)))) (held (length (e ∷ f ∷ es))); depth = (counted (e ∷ f ∷ es)).depth; room = held (length (e ∷ f ∷ es)) })
    ≡ assigned_taken None (e ∷ f ∷ es)
many-stored e f es true q = let same = eqb-true (held (length (e ∷ f ∷ es))) 1 q in absurd (omega arith)
many-stored e f es false q = λ i. record { words = all-words i; depth = held (greatest_depth (e ∷ f ∷ es)); room = held (length (e ∷ f ∷ es)) }
  where
    sums : (w n : ℕ) → sum_up (sum_up (sum_up (held w) (held n)) (held n)) (held n) ≡ held (w + n + 2 * n)
    sums w n = omega arith

    all-words : sum_up (sum_up (sum_up (held (all_words (e ∷ f ∷ es))) (held (length (e ∷ f ∷ es)))) (held (length (e ∷ f ∷ es)))) (held (length (e ∷ f ∷ es))) ≡ held (assigned_words None (e ∷ f ∷ es))
    all-words = sums (all_words (e ∷ f ∷ es)) (length (e ∷ f ∷ es))

pub stored-is : (es : List CoreExpr) → 1 ≤ length es → told.stored (counted es) ≡ assigned_taken None es
stored-is [] h = absurd (omega arith)
stored-is (e ∷ []) h = λ i. record { words = plus i; depth = held (greatest_depth (e ∷ [])); room = 0 }
  where
    plus : sum_up (held (all_words (e ∷ []))) 1 ≡ held (words e + 1)
    plus = let w = words-cons e [] in omega arith
stored-is (e ∷ f ∷ es) h = many-stored e f es (nat_eq (held (length (e ∷ f ∷ es))) 1) refl

stored-at-is : (x : CoreExpr) (es : List CoreExpr) → told.stored_at (counted (x ∷ [])) (counted es) ≡ assigned_taken (Some x) es
stored-at-is x es = λ i. record { words = together (all_words es) i; depth = deep (greatest_depth es) i; room = 0 }
  where
    together : (n : ℕ) → sum_up (sum_up (held n) (held (all_words (x ∷ [])))) 2 ≡ held (n + words x + 2)
    together n = let w = words-cons x [] in omega arith

    deep : (n : ℕ) → max (held n) (sum_up (held (greatest_depth (x ∷ []))) 1) ≡ held (max n (1 + depth x))
    deep n = let d = depth-cons x [] in omega arith

-- What is ready for statements: names mean the variables as they are laid out, each with a cell, and natives are the project's.
pub record Ready (program : Program) (known : Meanings) : Type 0 where
  pub names : Describes known.meaning (laid_scope program)
  pub cells : EachKnown (laid_scope program).variables
  pub native : (name : Name) → option_map native_view (known.native name) ≡ native_of program.project name

-- the world of a program whose variables are laid out
abbrev pub laid_world : Program → List Name → World
laid_world program subs = record { scope = laid_scope program; project = program.project; subs = subs }

pub alone-filled : (e : Expr) → list_all is_filled (e ∷ []) ≡ true → is_filled e ≡ true
alone-filled e h = both_left (is_filled e) true h

pub list-filled : (es : Exprs) → list_all is_filled (to_list es) ≡ true → are_filled es ≡ true
list-filled no_exprs h = refl
list-filled (exprs e es) h = joined (is_filled e) _ (both_left (is_filled e) _ h) (list-filled es (both_right (is_filled e) _ h))
  where
    joined : (a b : Bool) → a ≡ true → b ≡ true → (a && b) ≡ true
    joined true b p q = q
    joined false b p q = p

-- Targets

known-or : (a b : Bool) (place : Place) → fault_if (not a) place unknown ≡ [] → fault_if (not (a || b)) place unknown ≡ []
known-or true b place e = refl
known-or false b place e = cc

-- a target without a fault is an expression without one
pub part-good : (scope : Scope) (place : Place) (name : Name) (part : Part) → unknown_variable scope place name ++ part_faults scope place name part ≡ [] → form_faults scope place (part_form name part) ≡ []
part-good scope place name all e = known-or (is_some (variable_of scope name)) (is_some (constant_of scope name)) place (nil_left (unknown_variable scope place name) _ e)
part-good scope place name (at i) e = append_assoc (unknown_variable scope place name) (expr_faults scope i) (bad_index scope place name i) ∙ e
part-good scope place name (span c d) e =
    append_assoc (unknown_variable scope place name ++ expr_faults scope c) (expr_faults scope d) (bad_range scope place name c d)
    ∙ append_assoc (unknown_variable scope place name) (expr_faults scope c) (expr_faults scope d ++ bad_range scope place name c d)
    ∙ ap (λ fs. unknown_variable scope place name ++ fs) (sym (append_assoc (expr_faults scope c) (expr_faults scope d) (bad_range scope place name c d))) ∙ e

both-true : (a b : Bool) → a ≡ true → b ≡ true → (a && b) ≡ true
both-true true b p q = q
both-true false b p q = p

pub part-filled : (name : Name) (part : Part) → list_all is_filled (part_exprs part) ≡ true → is_filled_form (part_form name part) ≡ true
part-filled name all f = refl
part-filled name (at e) f = alone-filled e f
part-filled name (span c d) f = both-true (is_filled c) (is_filled d) (both_left (is_filled c) _ f) (alone-filled d (both_right (is_filled c) _ f))

variable-size : (k : Option Known) (c : Option ℤ) (place : Place) → fault_if (not (is_some k)) place unknown ≡ [] → option_and_then (λ v. v.size) k ≡ name_size k c
variable-size None c place e = cc
variable-size (Some k) c place e = refl

pub part-size : (scope : Scope) (place : Place) (name : Name) (part : Part) → unknown_variable scope place name ≡ [] → part_size scope name part ≡ form_size scope (part_form name part)
part-size scope place name all e = variable-size (variable_of scope name) (constant_of scope name) place e
part-size scope place name (at i) e = refl
part-size scope place name (span c d) e = refl

pub bumped-words : (op : Binary) (es : List CoreExpr) → all_words (map (λ l. infix_of op l (fixed (pos 1))) es) ≡ all_words es + length es + length es
bumped-words op [] = refl
bumped-words op (e ∷ es) =
    let p = words-cons (infix_of op e (fixed (pos 1))) (map (λ l. infix_of op l (fixed (pos 1))) es) in
    let q = words-cons e es in
    let r = bumped-words op es in
    p ∙ omega arith ∙ ap (λ n. n + suc (length es) + suc (length es)) (sym q)

pub bumped-depth : (op : Binary) (es : List CoreExpr) → 1 ≤ length es → greatest_depth (map (λ l. infix_of op l (fixed (pos 1))) es) ≡ max (greatest_depth es) 2
bumped-depth op [] h = absurd (omega arith)
bumped-depth op (e ∷ []) h = omega arith
bumped-depth op (e ∷ f ∷ es) h =
    let p = depth-cons (infix_of op e (fixed (pos 1))) (map (λ l. infix_of op l (fixed (pos 1))) (f ∷ es)) in
    let q = depth-cons e (f ∷ es) in
    let r = bumped-depth op (f ∷ es) (omega arith) in
    p ∙ ap (max (max (depth e) 2)) r ∙ regrouped (depth e) (greatest_depth (f ∷ es)) ∙ ap (λ n. max n 2) (sym q)
  where
    regrouped : (a b : ℕ) → max (max a 2) (max b 2) ≡ max (max a b) 2
    regrouped a b = omega arith

bumped-is : (op : Binary) (es : List CoreExpr) → 1 ≤ length es → told.bumped_counted op (counted es) ≡ counted (map (λ l. infix_of op l (fixed (pos 1))) es)
bumped-is op [] h = absurd (omega arith)
bumped-is op (e ∷ es) h =
    same-count (ap held (sym (length-map (e ∷ es) (λ l. infix_of op l (fixed (pos 1)))))) (sums (all_words (e ∷ es)) (length (e ∷ es)) ∙ ap held (sym (bumped-words op (e ∷ es)))) (deep (greatest_depth (e ∷ es)) ∙ ap held (sym (bumped-depth op (e ∷ es) h))) refl
  where
    sums : (w n : ℕ) → sum_up (sum_up (held w) (held n)) (held n) ≡ held (w + n + n)
    sums w n = omega arith

    deep : (n : ℕ) → max (held n) 2 ≡ held (max n 2)
    deep n = omega arith

-- Conditions

plain : (c : CoreExpr) → is_test c ≡ false → condition_words c ≡ words c + 1 → condition_depth c ≡ max (depth c) 2 → told.branched (counted (c ∷ [])) ≡ taken_of (condition_words c + 2) (condition_depth c) 0
plain c t p q = rw (t, p, q) (λ i. record { words = together i; depth = deep i; room = 0 })
  where
    together : sum_up (held (0 + words c)) 3 ≡ held (words c + 1 + 2)
    together = omega arith

    deep : max (held (max 0 (depth c))) 2 ≡ held (max (depth c) 2)
    deep = omega arith

branched-is : (c : CoreExpr) → told.branched (counted (c ∷ [])) ≡ taken_of (condition_words c + 2) (condition_depth c) 0
branched-is (fixed v) = plain (fixed v) refl refl refl
branched-is (cell a) = plain (cell a) refl refl refl
branched-is (indirect base size i) = plain (indirect base size i) refl refl refl
branched-is (prefix op e) = plain (prefix op e) refl refl refl
branched-is (infix_of op l r) = chosen (is_of_one_cell op) (words l) (words r) (depth l) (depth r)
  where
    chosen : (b : Bool) (m n d e : ℕ) → (if b then record { words = sum_up (held (0 + (m + n + 1))) 1; depth = held (max 0 (max d (1 + e))); room = 0 } else record { words = sum_up (held (0 + (m + n + 1))) 3; depth = max (held (max 0 (max d (1 + e)))) 2; room = 0 })
        ≡ taken_of ((if b then m + n else m + n + 1 + 1) + 2) (if b then max d (1 + e) else max (max d (1 + e)) 2) 0
    chosen true m n d e = λ i. record { words = (let p : sum_up (held (0 + (m + n + 1))) 1 ≡ held (m + n + 2) = omega arith in p) i; depth = (let p : held (max 0 (max d (1 + e))) ≡ held (max d (1 + e)) = omega arith in p) i; room = 0 }
    chosen false m n d e = λ i. record { words = (let p : sum_up (held (0 + (m + n + 1))) 3 ≡ held (m + n + 1 + 1 + 2) = omega arith in p) i; depth = (let p : max (held (max 0 (max d (1 + e)))) 2 ≡ held (max (max d (1 + e)) 2) = omega arith in p) i; room = 0 }

-- Natives

sizes-view : (ps : List code_param.Param) → map (λ p. p.size) (map param_view ps) ≡ sizes ps
sizes-view [] = refl
sizes-view (p ∷ ps) = ap (λ zs. p.size ∷ zs) (sizes-view ps)

params-are : (o : Option code_native.Native) (q : Option Native) → option_map native_view o ≡ q → unwrap_or (option_map (λ n. map (λ p. p.size) n.params) q) [] ≡ sizes (told.params_of o)
params-are None q e = ap (λ r. unwrap_or (option_map (λ (n : Native). map (λ p. p.size) n.params) r) []) (sym e)
params-are (Some n) q e = ap (λ r. unwrap_or (option_map (λ (n : Native). map (λ p. p.size) n.params) r) []) (sym e) ∙ sizes-view n.params

counts-match : (scope : Scope) (place : Place) (o : Option code_native.Native) (q : Option Native) (es : Exprs) → option_map native_view o ≡ q → native_faults scope place q es ≡ [] → length (told.params_of o) ≡ argument_count es
counts-match scope place None q es e none = let wrong : native_faults scope place None es ≡ [] = subst (λ r. native_faults scope place r es ≡ []) (sym e) none in cc
counts-match scope place (Some n) q es e none =
    let right : native_faults scope place (Some (native_view n)) es ≡ [] = subst (λ r. native_faults scope place r es ≡ []) (sym e) none in
    let count = length (map param_view n.params) in
    let long = length-map n.params param_view in
    sym long ∙ eqb-true count (argument_count es)
    (not_false (nat_eq count (argument_count es)) (no_fault (not (nat_eq count (argument_count es))) place (arg_count (pos count) (pos (argument_count es)))
    (nil_left _ (length_faults scope (with_params (map param_view n.params) es) (with_params (map param_view n.params) es)) right)))

native-taken : (es : List CoreExpr) (a t w : ℕ) → told.native_taken (given_of es a t w) ≡ taken_of (kept_words es + 2 * a + w + 1) (max (a + t) (greatest_depth es)) (length es)
native-taken es a t w = λ i. record { words = sums (all_words es) (length es) i; depth = deep (greatest_depth es) i; room = held (length es) }
  where
    sums : (m n : ℕ) → sum_up (sum_up (sum_up (sum_up (sum_up (held m) (held n)) (held a)) (held a)) (held w)) 1 ≡ held (m + n + 2 * a + w + 1)
    sums m n = omega arith

    deep : (n : ℕ) → max (sum_up (held a) (held t)) (held n) ≡ held (max (a + t) n)
    deep n = omega arith

kept-is : (es : List CoreExpr) → told.kept_for (counted es) 3 ≡ taken_of (kept_words es + 3) (greatest_depth es) (length es)
kept-is es = λ i. record { words = sums (all_words es) (length es) i; depth = held (greatest_depth es); room = held (length es) }
  where
    sums : (m n : ℕ) → sum_up (sum_up (held m) (held n)) 3 ≡ held (m + n + 3)
    sums m n = omega arith

-- All statements of a program, where each subroutine takes a number of stack cells
module _ (program : Program) (known : Meanings) (ready : Ready program known) where
  names : Name → Option Meaning
  names = known.meaning

  scope : Scope
  scope = laid_scope program

  pub counted-here : (e : Expr) → is_filled e ≡ true → expr_faults (laid_scope program) e ≡ [] → counted_of known.meaning e ≡ counted (elements_of program e)
  counted-here e f none = counted-is program known.meaning ready.names ready.cells e f none

  aimed-part : (place : Place) (name : Name) (part : Part) → list_all is_filled (part_exprs part) ≡ true → unknown_variable (laid_scope program) place name ++ part_faults (laid_scope program) place name part ≡ [] → (es : List CoreExpr) → 1 ≤ length es
      → told.assigned (told.part_aimed known.meaning (known.meaning name) part).index (counted es) ≡ assigned_taken (target_index program part) es
  aimed-part place name all f e es many = stored-is es many
  aimed-part place name (span c d) f e es many = stored-is es many
  aimed-part place name (at i) f e es many =
      let own = nil_right (unknown_variable (laid_scope program) place name) _ e in
      let none = nil_left (expr_faults (laid_scope program) i) _ own in
      let bad = nil_right (expr_faults (laid_scope program) i) (bad_index (laid_scope program) place name i) own in
      let filled = alone-filled i f in
      let length-one = expr-one program ready.cells i filled none (nil_right _ (not_one_cell (laid_scope program) i) (nil_left _ _ bad)) in
      let s = single (elements_of program i) length-one in
      ap (λ c. told.stored_at c (counted es)) (counted-here i filled none ∙ ap counted s.is) ∙ stored-at-is s.element es ∙ ap (λ x. assigned_taken (Some x) es) (sym (element-is program i s))

  aimed-elements : (place : Place) (name : Name) (part : Part) → list_all is_filled (part_exprs part) ≡ true → unknown_variable (laid_scope program) place name ++ part_faults (laid_scope program) place name part ≡ []
      → (told.part_aimed known.meaning (known.meaning name) part).elements ≡ counted (elements_of_form program (part_form name part))
  aimed-elements place name part f e = same part ∙ counted-here (expr place place (part_form name part)) (part-filled name part f) (part-good (laid_scope program) place name part e)
    where
      same : (q : Part) → (told.part_aimed known.meaning (known.meaning name) q).elements ≡ form_counted known.meaning (part_form name q)
      same all = refl
      same (at i) = refl
      same (span c d) = refl

  set-is : (place : Place) (target : Target) (e : Expr) → list_all is_filled (part_exprs target.part ++ e ∷ []) ≡ true → assignment_faults (laid_scope program) place target e ≡ []
      → told.set_taken known.meaning target e ≡ assigned_taken (target_index program target.part) (elements_of program e)
  set-is place target e f none =
      let first = nil_left (target_faults (laid_scope program) target ++ expr_faults (laid_scope program) e) _ none in
      let filled = alone-filled e (all_right (part_exprs target.part) _ f) in
      let own = nil_right (target_faults (laid_scope program) target) _ first in
      ap (told.assigned (told.target_aimed known.meaning target).index) (counted-here e filled own)
      ∙ aimed-part target.place target.name target.part (all_left (part_exprs target.part) _ f) (nil_left (target_faults (laid_scope program) target) _ first) (elements_of program e) (expr-many program ready.cells e filled own)

  change-is : (place : Place) (target : Target) (op : Binary) (e : Expr) → list_all is_filled (part_exprs target.part ++ e ∷ []) ≡ true → assignment_faults (laid_scope program) place target e ≡ []
      → told.change_taken known.meaning target op e ≡ assigned_taken (target_index program target.part) (changed_elements program target op e)
  change-is place target op e f none =
      let first = nil_left (target_faults (laid_scope program) target ++ expr_faults (laid_scope program) e) _ none in
      let filled = alone-filled e (all_right (part_exprs target.part) _ f) in
      let own = nil_right (target_faults (laid_scope program) target) _ first in
      let aim = nil_left (target_faults (laid_scope program) target) _ first in
      let part-is-filled = all_left (part_exprs target.part) _ f in
      let good = part-good (laid_scope program) target.place target.name target.part aim in
      let part-fill = part-filled target.name target.part part-is-filled in
      let long = expr_is_long program ready.cells (target_expr target) part-fill good in
      let size = part-size (laid_scope program) target.place target.name target.part (nil_left (unknown_variable (laid_scope program) target.place target.name) _ aim) in
      let same = same-size place (target_size (laid_scope program) target) (size_of (laid_scope program) e) (length (target_elements program target)) (length (elements_of program e)) (size ∙ long) (expr_is_long program ready.cells e filled own)
      (nil_right (target_faults (laid_scope program) target ++ expr_faults (laid_scope program) e) _ none) in
      let many = form-many program ready.cells target.place (part_form target.name target.part) part-fill good in
      let paired = paired-length op (target_elements program target) (elements_of program e) same in
      ap (λ c. told.assigned (told.target_aimed known.meaning target).index (infix_counted op c (counted_of known.meaning e))) (aimed-elements target.place target.name target.part part-is-filled aim)
      ∙ ap (λ c. told.assigned (told.target_aimed known.meaning target).index (infix_counted op (counted (target_elements program target)) c)) (counted-here e filled own)
      ∙ ap (told.assigned (told.target_aimed known.meaning target).index) (infix-is op (target_elements program target) (elements_of program e) same many)
      ∙ aimed-part target.place target.name target.part part-is-filled aim (changed_elements program target op e) (omega (arith, paired, many))

  bump-is : (target : Target) (op : Binary) → list_all is_filled (part_exprs target.part) ≡ true → target_faults (laid_scope program) target ≡ []
      → told.bump_taken known.meaning target op ≡ assigned_taken (target_index program target.part) (bumped_elements program target op)
  bump-is target op f none =
      let good = part-good (laid_scope program) target.place target.name target.part none in
      let many = form-many program ready.cells target.place (part_form target.name target.part) (part-filled target.name target.part f) good in
      let long = length-map (target_elements program target) (λ l. infix_of op l (fixed (pos 1))) in
      ap (λ c. told.assigned (told.target_aimed known.meaning target).index (told.bumped_counted op c)) (aimed-elements target.place target.name target.part f none)
      ∙ ap (told.assigned (told.target_aimed known.meaning target).index) (bumped-is op (target_elements program target) many)
      ∙ aimed-part target.place target.name target.part f none (bumped_elements program target op) (omega (arith, many, long))

  test-is : (c : Expr) → is_filled c ≡ true → cell_faults (laid_scope program) c ≡ [] → told.test_taken known.meaning c ≡ taken_of (condition_words (element_of program c) + 2) (condition_depth (element_of program c)) 0
  test-is c f none =
      let own = nil_left (expr_faults (laid_scope program) c) _ none in
      let s = single (elements_of program c) (expr-one program ready.cells c f own (nil_right (expr_faults (laid_scope program) c) _ none)) in
      ap told.branched (counted-here c f own ∙ ap counted s.is) ∙ branched-is s.element ∙ ap (λ x. taken_of (condition_words x + 2) (condition_depth x) 0) (sym (element-is program c s))

  valued : (e : Expr) → is_filled e ≡ true → bound_faults (laid_scope program) e ≡ [] → told.bound_words (facts_of known.meaning e).value ≡ number_words (constant program.project.consts e)
  valued e f none =
      let own = nil_left (expr_faults (laid_scope program) e) _ none in
      ap told.bound_words (value-is known.meaning (laid_scope program) ready.names e)
      ∙ chosen (constant_value (laid_scope program) e) refl (place_value (is_constant (laid_scope program) e) (zero_divisions (laid_scope program) e) _ _ (constant_value (laid_scope program) e) (size_of (laid_scope program) e) (record { place = first_of e; rule = not_constant }) refl
      (expr_is_good (laid_scope program) ready.cells e f own) refl (nil_right (expr_faults (laid_scope program) e) (constant_place (laid_scope program) e) none))
    where
      chosen : (o : Option ℤ) → constant_value (laid_scope program) e ≡ o → IsSome o → told.bound_words o ≡ number_words (constant program.project.consts e)
      chosen None q h = cc
      chosen (Some v) q h = ap number_words (sym (constant_is_value (laid_scope program) e v q))

  step-is : (step : Option Expr) → list_all is_filled (option_to_list step) ≡ true → step_faults (laid_scope program) step ≡ [] → told.step_words known.meaning step ≡ number_words (step_of program.project.consts step)
  step-is None f none = refl
  step-is (Some e) f none = valued e (alone-filled e f) (nil_left (bound_faults (laid_scope program) e) _ none)

  head-is : (place : Place) (jump : ℕ) (head : ForHead) → is_filled head.first ≡ true → is_filled head.last ≡ true → list_all is_filled (option_to_list head.step) ≡ true → head_faults (laid_scope program) place head ≡ []
      → told.head_taken known.meaning jump head ≡ taken_of (number_words (constant program.project.consts head.first) + number_words (constant program.project.consts head.last) + number_words (step_of program.project.consts head.step) + 7 + jump) 2 0
  head-is place jump head f g k none =
      let to_last = nil_left _ (step_faults (laid_scope program) head.step) none in
      let to_first = nil_left _ (bound_faults (laid_scope program) head.last) to_last in
      let first = valued head.first f (nil_right _ (bound_faults (laid_scope program) head.first) to_first) in
      let last = valued head.last g (nil_right _ (bound_faults (laid_scope program) head.last) to_last) in
      let by = step-is head.step k (nil_right _ (step_faults (laid_scope program) head.step) none) in
      rw (first, last, by) (λ i. record { words = sums (number_words (constant program.project.consts head.first)) (number_words (constant program.project.consts head.last)) (number_words (step_of program.project.consts head.step)) i; depth = 2; room = 0 })
    where
      sums : (a b c : ℕ) → sum_up (sum_up (sum_up (sum_up a b) c) 7) jump ≡ held (a + b + c + 7 + jump)
      sums a b c = omega arith

  emit-is : (event : Option Sized) (argument : Option Expr) → list_all is_filled (option_to_list argument) ≡ true → argument_faults (laid_scope program) event argument ≡ []
      → told.emit_taken known.meaning argument ≡ taken_of (kept_words (argument_elements program argument) + 3) (greatest_depth (argument_elements program argument)) (length (argument_elements program argument))
  emit-is event None f none = kept-is []
  emit-is event (Some e) f none =
      ap (λ c. told.kept_for c 3) (fresh-is program known.meaning ready.names ready.cells e (alone-filled e f) (nil_left (expr_faults (laid_scope program) e) _ none)) ∙ kept-is (fresh_elements program e)

  call-is : (place : Place) (name : Name) (es : Exprs) → are_filled es ≡ true → list_faults (laid_scope program) es ++ native_faults (laid_scope program) place (native_of program.project name) es ≡ []
      → told.call_taken known name es ≡ taken_of (kept_words (fresh_of_list program es) + 2 * length (lengths program es) + length_words (given_lengths program name es) + 1)
      (max (length (lengths program es) + length (given_lengths program name es)) (greatest_depth (fresh_of_list program es))) (length (fresh_of_list program es))
  call-is place name es f none =
      let params = told.params_of (known.native name) in
      let count = counts-match (laid_scope program) place (known.native name) (native_of program.project name) es (ready.native name) (nil_right (list_faults (laid_scope program) es) _ none) in
      let own = params-are (known.native name) (native_of program.project name) (ready.native name) in
      ap told.native_taken (given-is program known.meaning ready.names ready.cells [] [] params es count f (nil_left (list_faults (laid_scope program) es) _ none) (λ z h. refl) [] 0 0 0)
      ∙ ap (λ (zs : List ℤ). told.native_taken (given_of (fresh_of_list program es) (0 + length (lengths program es)) (0 + length (template_lengths [] zs (lengths program es))) (0 + length_words (template_lengths [] zs (lengths program es))))) (sym own)
      ∙ native-taken (fresh_of_list program es) (0 + length (lengths program es)) (0 + length (given_lengths program name es)) (0 + length_words (given_lengths program name es)) ∙ same-taken (omega arith) (omega arith) refl

module _ (program : Program) (known : Meanings) (ready : Ready program known) (called : List Name) (subs : Name → Option ℕ) (depths : Name → ℕ) (deep : (name : Name) → unwrap_or (subs name) 0 ≡ held (depths name)) where
  over-jump : (ss : Stmts) → told.stmts_taken known subs (jump_words program.project) told.none_taken ss ≡ taken_of (stmts_words program ss) (stmts_depth program depths ss) (stmts_room program ss)
      → told.with_jump (jump_words program.project) ss (told.stmts_taken known subs (jump_words program.project) told.none_taken ss) ≡ taken_of (else_words program.project ss (stmts_words program ss)) (stmts_depth program depths ss) (stmts_room program ss)
  over-jump no_stmts e = refl
  over-jump (stmts s ss) e =
      ap (λ t. told.longer t (jump_words program.project)) e ∙ longer-is (stmts_words program (stmts s ss)) (stmts_depth program depths (stmts s ss)) (stmts_room program (stmts s ss)) (jump_words program.project)
      ∙ same-taken (omega arith) refl refl

  called-is : (name : Name) → told.callsub_taken (subs name) ≡ taken_of 1 (1 + depths name) 0
  called-is name = λ i. record { words = 1; depth = more i; room = 0 }
    where
      more : sum_up (unwrap_or (subs name) 0) 1 ≡ held (1 + depths name)
      more = ap (λ n. sum_up n 1) (deep name) ∙ plus (depths name)
        where
          plus : (n : ℕ) → sum_up (held n) 1 ≡ held (1 + n)
          plus n = omega arith

  mutual
    form-is : (place : Place) (form : StmtForm) → list_all is_filled (form_exprs form) ≡ true → stmt_form_faults (laid_world program called) place form ≡ []
        → told.form_taken known subs (jump_words program.project) form ≡ taken_of (form_words program form) (form_depth program depths form) (form_room program form)
    form-is place (assign target e) f none = set-is program known ready place target e f none
    form-is place (change target op e) f none = change-is program known ready place target op e f none
    form-is place (bump target op) f none = bump-is program known ready target op f none
    form-is place (if_then c body other) f none =
        let tail = nil_right (cell_faults (laid_scope program) c ++ stmts_faults (laid_world program called) body) _ none in
        let front = nil_left (cell_faults (laid_scope program) c ++ stmts_faults (laid_world program called) body) _ none in
        let test = test-is program known ready c (both_left (is_filled c) _ f) (nil_left (cell_faults (laid_scope program) c) _ front) in
        let first = stmts-are 0 0 0 body (all_left (stmts_exprs body) _ (both_right (is_filled c) _ f)) (nil_right (cell_faults (laid_scope program) c) _ front) in
        let second = stmts-are 0 0 0 other (all_right (stmts_exprs body) _ (both_right (is_filled c) _ f)) tail in
        let behind = over-jump other (second ∙ same-taken (omega arith) (omega arith) (omega arith)) in
        let x = element_of program c in
        rw (test, first, behind)
        (ap (λ t. told.behind t (taken_of (else_words program.project other (stmts_words program other)) (stmts_depth program depths other) (stmts_room program other)))
        (behind-is (condition_words x + 2) (condition_depth x) 0 (0 + stmts_words program body) (max 0 (stmts_depth program depths body)) (max 0 (stmts_room program body)))
        ∙ behind-is (condition_words x + 2 + (0 + stmts_words program body)) (max (condition_depth x) (max 0 (stmts_depth program depths body))) (max 0 (max 0 (stmts_room program body))) (else_words program.project other (stmts_words program other)) (stmts_depth program depths other) (stmts_room program other)
        ∙ same-taken (omega arith) (omega arith) (omega arith))
    form-is place (when_do c body) f none =
        let test = test-is program known ready c (both_left (is_filled c) _ f) (nil_left (cell_faults (laid_scope program) c) _ none) in
        let first = stmts-are 0 0 0 body (both_right (is_filled c) _ f) (nil_right (cell_faults (laid_scope program) c) _ none) in
        let x = element_of program c in
        rw (test, first) (behind-is (condition_words x + 2) (condition_depth x) 0 (0 + stmts_words program body) (max 0 (stmts_depth program depths body)) (max 0 (stmts_room program body)) ∙ same-taken (omega arith) (omega arith) (omega arith))
    form-is place (while_do c body) f none =
        let test = test-is program known ready c (both_left (is_filled c) _ f) (nil_left (cell_faults (laid_scope program) c) _ none) in
        let first = stmts-are 0 0 0 body (both_right (is_filled c) _ f) (nil_right (cell_faults (laid_scope program) c) _ none) in
        let x = element_of program c in
        rw (test, first)
        (ap (λ t. told.behind t (taken_of (0 + stmts_words program body) (max 0 (stmts_depth program depths body)) (max 0 (stmts_room program body)))) (longer-is (condition_words x + 2) (condition_depth x) 0 (jump_words program.project))
        ∙ behind-is (condition_words x + 2 + jump_words program.project) (condition_depth x) 0 (0 + stmts_words program body) (max 0 (stmts_depth program depths body)) (max 0 (stmts_room program body)) ∙ same-taken (omega arith) (omega arith) (omega arith))
    form-is place (for_do head body) f none =
        let rest = both_right (is_filled head.last) _ (both_right (is_filled head.first) _ f) in
        let top = head-is program known ready place (jump_words program.project) head (both_left (is_filled head.first) _ f) (both_left (is_filled head.last) _ (both_right (is_filled head.first) _ f)) (all_left (option_to_list head.step) _ rest)
        (nil_left (head_faults (laid_scope program) place head) _ none) in
        let first = stmts-are 0 0 0 body (all_right (option_to_list head.step) _ rest) (nil_right (head_faults (laid_scope program) place head) _ none) in
        behind-both _ _ _ _ top first
        ∙ (behind-is (number_words (constant program.project.consts head.first) + number_words (constant program.project.consts head.last) + number_words (step_of program.project.consts head.step) + 7 + jump_words program.project) 2 0
        (0 + stmts_words program body) (max 0 (stmts_depth program depths body)) (max 0 (stmts_room program body)) ∙ same-taken (omega arith) (omega arith) (omega arith))
    form-is place (emit name argument) f none = emit-is program known ready (global_event program.project name) argument f (nil_right (fault_if (not (is_some (global_event program.project name))) place unknown) _ none)
    form-is place (callsub name) f none = called-is name
    form-is place (call name es) f none = call-is program known ready place name es (list-filled es f) none
    form-is place return f none = refl

    pub stmts-are : (w d r : ℕ) (ss : Stmts) → list_all is_filled (stmts_exprs ss) ≡ true → stmts_faults (laid_world program called) ss ≡ []
        → told.stmts_taken known subs (jump_words program.project) (taken_of w d r) ss ≡ taken_of (w + stmts_words program ss) (max d (stmts_depth program depths ss)) (max r (stmts_room program ss))
    stmts-are w d r no_stmts f none = same-taken (omega arith) (omega arith) (omega arith)
    stmts-are w d r (stmts (stmt line place form) ss) f none =
        let own = form-is place form (all_left (form_exprs form) _ f) (nil_left (stmt_form_faults (laid_world program called) place form) _ none) in
        ap (λ t. told.stmts_taken known subs (jump_words program.project) (told.behind (taken_of w d r) t) ss) own
        ∙ ap (λ t. told.stmts_taken known subs (jump_words program.project) t ss) (behind-is w d r (form_words program form) (form_depth program depths form) (form_room program form))
        ∙ stmts-are (w + form_words program form) (max d (form_depth program depths form)) (max r (form_room program form)) ss (all_right (form_exprs form) _ f) (nil_right (stmt_form_faults (laid_world program called) place form) _ none)
        ∙ same-taken (omega arith) (omega arith) (omega arith)
