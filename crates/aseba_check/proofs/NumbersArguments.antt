-- What is counted of the arguments of a call is what the definitions say of them.
use Rattle.std.proofs.Common.{◌≡◌, refl, sym, ◌∙◌, ap, ℕ, suc, ◌+◌, ◌-◌, Bool, true, false, if◌then◌else◌, ℤ, pos, List, [], ◌∷◌, ◌++◌, length, map, Option, Some, None, arith, append_assoc, add_assoc, nat_lt, true≢false}
use Rattle.std.specs.Prelude.{not, ◌||◌, ◌&&◌, int_lt, is_some, slice_get, sum_by}
use Rattle.std.specs.List.{list_any}
use Rattle.std.specs.Ordering.{int_eq}
use Rattle.std.proofs.Math.Seq.{take-append_seam}
use Rattle.std.proofs.lemmas.Bool.{ltb-true, ltb-false, lt-ltb, le-ltb}
use Rattle.std.proofs.lemmas.Bool.Decides.{Decides-int_eq}
use Rattle.std.proofs.lemmas.List.{append-nil, length-append}
use Rattle.std.proofs.lemmas.List.Folds.{list_any-append}
use Rattle.std.proofs.lemmas.List.Sums.{sum_by-cons}
use Rattle.aseba_tree.specs.declared.description.Param.{Param}
use Rattle.aseba_tree.specs.Code.{Name, Expr, expr, number, whole, index, range, items, one, two, Exprs, no_exprs, exprs}
use Rattle.aseba_tree.specs.State.{Program}
use Rattle.aseba_tree.specs.CoreExpr.{CoreExpr}
use Rattle.aseba_tree.specs.Sizes.{Known, variable_of, constant_of}
use Rattle.aseba_tree.specs.Faults.{expr_faults, list_faults, argument_count}
use Rattle.aseba_tree.specs.Elements.{variable_place, elements_of}
use Rattle.aseba_tree.specs.Shape.{is_filled, are_filled}
use Rattle.aseba_tree.specs.Numbers.{number_words, is_own, fresh_elements, fresh_of_list, lengths}
use Rattle.aseba_tree.specs.Templates.{template_lengths}
use Rattle.aseba_tree.proofs.SizeLaws.{EachKnown, nil_left, nil_right, both_left, both_right}
use Rattle.aseba_tree.proofs.ElementLaws.{laid_scope}
use Rattle.aseba_check.specs.declared.facts.Meaning.{Meaning}
use Rattle.aseba_check.specs.declared.counting.calls.Given.{Given}
use Rattle.aseba_check.specs.Declarations.{is_variable}
use Rattle.aseba_check.specs.Places.{sum_up}
use Rattle.aseba_check.specs.Counted.{joined, counted_of}
use Rattle.aseba_check.specs.CountedStatements as told
use Rattle.aseba_check.proofs.ExprTies.{Describes, meaning_of}
use Rattle.aseba_check.proofs.NumbersHeld.{held, counted, joined-is}
use Rattle.aseba_check.proofs.NumbersExprs.{IsSame, same-place, counted-is}

-- Arguments that stand for cells of their own

variable-is : (k : Option Known) (p : Option (ℕ × ℕ)) (c : Option ℤ) → IsSame k p → is_variable (meaning_of k c) ≡ is_some p
variable-is (Some k) (Some p) c h = refl
variable-is (Some k) None c h = absurd h
variable-is None (Some p) c h = absurd h
variable-is None None (Some c) h = refl
variable-is None None None h = refl

pub own-is : (program : Program) (names : Name → Option Meaning) → Describes names (laid_scope program) → (e : Expr) → told.is_own names e ≡ is_own program e
own-is program names w (expr first place (number v)) = refl
own-is program names w (expr first place (whole name)) =
    ap is_variable (w.means name) ∙ variable-is (variable_of (laid_scope program) name) (variable_place program name) (constant_of (laid_scope program) name) (same-place program name)
own-is program names w (expr first place (index name e)) = refl
own-is program names w (expr first place (range name c d)) = refl
own-is program names w (expr first place (items es)) = refl
own-is program names w (expr first place (one op e)) = refl
own-is program names w (expr first place (two op l r)) = refl

fresh-choice : (b : Bool) (es : List CoreExpr) → told.fresh b (counted es) ≡ counted (if b then [] else es)
fresh-choice true es = refl
fresh-choice false es = refl

pub fresh-is : (program : Program) (names : Name → Option Meaning) → Describes names (laid_scope program) → EachKnown (laid_scope program).variables → (e : Expr) → is_filled e ≡ true → expr_faults (laid_scope program) e ≡ []
    → told.fresh (told.is_own names e) (counted_of names e) ≡ counted (fresh_elements program e)
fresh-is program names w h e f none =
    ap (λ b. told.fresh b (counted_of names e)) (own-is program names w e) ∙ ap (told.fresh (is_own program e)) (counted-is program names w h e f none) ∙ fresh-choice (is_own program e) (elements_of program e)

-- Templates

abbrev pub sizes : List Param → List ℤ
sizes ps = map (λ p. p.size) ps

-- the templates that stand before are those among the parameters before
abbrev pub Opened : List ℤ → List Param → Type 0
Opened before pre = (z : ℤ) → int_lt z (pos 0) ≡ true → list_any (int_eq z) before ≡ told.has_size pre z

or-false : (b : Bool) → (b || false) ≡ b
or-false true = refl
or-false false = refl

or-absorbed : (a b : Bool) → (b ≡ true → a ≡ true) → a ≡ (a || b)
or-absorbed true b h = refl
or-absorbed false true h = let e = h refl in cc
or-absorbed false false h = refl

or-swapped : (a b : Bool) → (b || a) ≡ (a || b)
or-swapped true true = refl
or-swapped true false = refl
or-swapped false true = refl
or-swapped false false = refl

more-has : (pre : List Param) (p : Param) (z : ℤ) → told.has_size (pre ++ p ∷ []) z ≡ (told.has_size pre z || int_eq z p.size)
more-has pre p z = list_any-append (λ (q : Param). int_eq z q.size) pre (p ∷ []) ∙ ap (λ b. told.has_size pre z || b) (or-false (int_eq z p.size))

not-both : (a b : ℤ) → int_lt a (pos 0) ≡ true → int_lt b (pos 0) ≡ false → int_eq a b ≡ true → ⊥
not-both a b p q e = let same = (Decides-int_eq a b).0 e in true≢false (sym p ∙ ap (λ z. int_lt z (pos 0)) same ∙ q)

-- a parameter that is no template, a template that stands before, and a new one
opened-plain : (before : List ℤ) (pre : List Param) (p : Param) → Opened before pre → int_lt p.size (pos 0) ≡ false → Opened before (pre ++ p ∷ [])
opened-plain before pre p o e z h = o z h ∙ or-absorbed (told.has_size pre z) (int_eq z p.size) (λ q. absurd (not-both z p.size h e q)) ∙ sym (more-has pre p z)

opened-again : (before : List ℤ) (pre : List Param) (p : Param) → Opened before pre → told.has_size pre p.size ≡ true → Opened before (pre ++ p ∷ [])
opened-again before pre p o e z h =
    o z h ∙ or-absorbed (told.has_size pre z) (int_eq z p.size) (λ q. ap (told.has_size pre) ((Decides-int_eq z p.size).0 q) ∙ e) ∙ sym (more-has pre p z)

opened-new : (before : List ℤ) (pre : List Param) (p : Param) → Opened before pre → Opened (p.size ∷ before) (pre ++ p ∷ [])
opened-new before pre p o z h = ap (λ b. int_eq z p.size || b) (o z h) ∙ or-swapped (told.has_size pre z) (int_eq z p.size) ∙ sym (more-has pre p z)

at-seam : (pre : List Param) (p : Param) (ps : List Param) → slice_get (pre ++ p ∷ ps) (length pre) ≡ Some p
at-seam [] p ps = refl
at-seam (q ∷ pre) p ps = at-seam pre p ps

abbrev opens : List Param → Param → Bool
opens pre p = int_lt p.size (pos 0) && not (told.has_size pre p.size)

opens-is : (pre : List Param) (p : Param) (ps : List Param) → told.opens_template (pre ++ p ∷ ps) (length pre) ≡ opens pre p
opens-is pre p ps = rw (at-seam pre p ps, take-append_seam pre (p ∷ ps)) refl

-- Calls

abbrev pub length_words : List ℕ → ℕ
length_words ns = sum_by (λ n. number_words (pos n)) ns

abbrev pub given_of : List CoreExpr → ℕ → ℕ → ℕ → Given
given_of es arguments templates words = record { fresh = counted es; arguments = held arguments; templates = held templates; template_words = held words }

pub same-given : {es fs : List CoreExpr} {a b t u v w : ℕ} → es ≡ fs → a ≡ b → t ≡ u → v ≡ w → given_of es a t v ≡ given_of fs b u w
same-given p q r s = λ i. given_of (p i) (q i) (r i) (s i)

-- a length that stops takes as many words
words-held : (n : ℕ) → number_words (pos (held n)) ≡ number_words (pos n)
words-held n = chosen (nat_lt 2047 n) refl
  where
    chosen : (b : Bool) → nat_lt 2047 n ≡ b → number_words (pos (held n)) ≡ number_words (pos n)
    chosen true e = let less = ltb-true 2047 n e in let also : nat_lt 2047 (held n) ≡ true = lt-ltb 2047 (held n) (omega arith) in rw (e, also) refl
    chosen false e = let less = ltb-false 2047 n e in let also : nat_lt 2047 (held n) ≡ false = le-ltb 2047 (held n) (omega arith) in rw (e, also) refl

-- one argument more
more-given : (own : Bool) (b : Bool) (es fs : List CoreExpr) (a t w : ℕ) → told.with_argument b own (counted fs) (given_of es a t w) ≡ given_of (es ++ (if own then [] else fs)) (a + 1) (t + (if b then 1 else 0)) (w + (if b then number_words (pos (length fs)) else 0))
more-given own b es fs a t w = λ i. record { fresh = first own i; arguments = one i; templates = more b i; template_words = longer b i }
  where
    first : (o : Bool) → joined (counted es) (told.fresh o (counted fs)) ≡ counted (es ++ (if o then [] else fs))
    first o = ap (joined (counted es)) (fresh-choice o fs) ∙ joined-is es (if o then [] else fs)

    one : sum_up (held a) 1 ≡ held (a + 1)
    one = omega arith

    more : (c : Bool) → sum_up (held t) (if c then 1 else 0) ≡ held (t + (if c then 1 else 0))
    more true = omega arith
    more false = omega arith

    longer : (c : Bool) → sum_up (held w) (if c then number_words (pos (held (length fs))) else 0) ≡ held (w + (if c then number_words (pos (length fs)) else 0))
    longer true = ap (sum_up (held w)) (words-held (length fs)) ∙ let e : sum_up (held w) (number_words (pos (length fs))) ≡ held (w + number_words (pos (length fs))) = omega arith in e
    longer false = omega arith

opens-plain : (pre : List Param) (p : Param) → int_lt p.size (pos 0) ≡ false → opens pre p ≡ false
opens-plain pre p e = ap (λ b. b && not (told.has_size pre p.size)) e

opens-negative : (pre : List Param) (p : Param) (b : Bool) → int_lt p.size (pos 0) ≡ true → told.has_size pre p.size ≡ b → opens pre p ≡ not b
opens-negative pre p b e h = ap (λ c. c && not (told.has_size pre p.size)) e ∙ ap not h

moved : (names : Name → Option Meaning) (pre : List Param) (p : Param) (ps : List Param) (g : Given) (es : Exprs) → told.given names (pre ++ p ∷ ps) (suc (length pre)) g es ≡ told.given names ((pre ++ p ∷ []) ++ ps) (length (pre ++ p ∷ [])) g es
moved names pre p ps g es =
    let long : suc (length pre) ≡ length (pre ++ p ∷ []) = let l = length-append pre (p ∷ []) in omega arith in
    ap (λ (qs : List Param). told.given names qs (suc (length pre)) g es) (sym (append_assoc pre (p ∷ []) ps)) ∙ ap (λ n. told.given names ((pre ++ p ∷ []) ++ ps) n g es) long

-- the lengths behind one parameter and its argument
abbrev tails : Bool → Bool → ℕ → List ℕ → List ℕ → List ℕ
tails negative seen n old new = if negative && not seen then n ∷ new else old

-- what is given behind the first argument, where what follows is known
after : (names : Name → Option Meaning) (before : List ℤ) (pre : List Param) (p : Param) (ps : List Param) (es : Exprs) (front fresh rest : List CoreExpr) (a t w n long : ℕ) (lens : List ℕ) → Opened before pre
    → ((old : List ℤ) → Opened old (pre ++ p ∷ []) → (fr : List CoreExpr) (b u v : ℕ) → told.given names ((pre ++ p ∷ []) ++ ps) (length (pre ++ p ∷ [])) (given_of fr b u v) es
    ≡ given_of (fr ++ rest) (b + long) (u + length (template_lengths old (sizes ps) lens)) (v + length_words (template_lengths old (sizes ps) lens)))
    → (negative seen : Bool) → int_lt p.size (pos 0) ≡ negative → list_any (int_eq p.size) before ≡ seen
    → told.given names (pre ++ p ∷ ps) (suc (length pre)) (given_of (front ++ fresh) (a + 1) (t + (if opens pre p then 1 else 0)) (w + (if opens pre p then number_words (pos n) else 0))) es
    ≡ given_of (front ++ (fresh ++ rest)) (a + suc long) (t + length (tails negative seen n (template_lengths before (sizes ps) lens) (template_lengths (p.size ∷ before) (sizes ps) lens)))
    (w + length_words (tails negative seen n (template_lengths before (sizes ps) lens) (template_lengths (p.size ∷ before) (sizes ps) lens)))
after names before pre p ps es front fresh rest a t w n long lens o next false seen e f =
    rw (opens-plain pre p e) (moved names pre p ps _ es ∙ next before (opened-plain before pre p o e) (front ++ fresh) (a + 1) (t + 0) (w + 0) ∙ same-given (append_assoc front fresh rest) (omega arith) (omega arith) (omega arith))
after names before pre p ps es front fresh rest a t w n long lens o next true true e f =
    let has : told.has_size pre p.size ≡ true = sym (o p.size e) ∙ f in
    rw (opens-negative pre p true e has) (moved names pre p ps _ es ∙ next before (opened-again before pre p o has) (front ++ fresh) (a + 1) (t + 0) (w + 0) ∙ same-given (append_assoc front fresh rest) (omega arith) (omega arith) (omega arith))
after names before pre p ps es front fresh rest a t w n long lens o next true false e f =
    let has : told.has_size pre p.size ≡ false = sym (o p.size e) ∙ f in
    let more = sum_by-cons (λ n. number_words (pos n)) n (template_lengths (p.size ∷ before) (sizes ps) lens) in
    rw (opens-negative pre p false e has)
    (moved names pre p ps _ es ∙ next (p.size ∷ before) (opened-new before pre p o) (front ++ fresh) (a + 1) (t + 1) (w + number_words (pos n))
    ∙ same-given (append_assoc front fresh rest) (omega arith) (omega arith) (add_assoc w (number_words (pos n)) _ ∙ ap (λ k. w + k) (sym more)))

first-given : (program : Program) (names : Name → Option Meaning) → Describes names (laid_scope program) → EachKnown (laid_scope program).variables → (pre : List Param) (p : Param) (ps : List Param) (e : Expr) → is_filled e ≡ true → expr_faults (laid_scope program) e ≡ []
    → (fr : List CoreExpr) (a t w : ℕ) → told.with_argument (told.opens_template (pre ++ p ∷ ps) (length pre)) (told.is_own names e) (counted_of names e) (given_of fr a t w)
    ≡ given_of (fr ++ fresh_elements program e) (a + 1) (t + (if opens pre p then 1 else 0)) (w + (if opens pre p then number_words (pos (length (elements_of program e))) else 0))
first-given program names d h pre p ps e f none fr a t w =
    ap (λ b. told.with_argument b (told.is_own names e) (counted_of names e) (given_of fr a t w)) (opens-is pre p ps) ∙ ap (λ b. told.with_argument (opens pre p) b (counted_of names e) (given_of fr a t w)) (own-is program names d e)
    ∙ ap (λ c. told.with_argument (opens pre p) (is_own program e) c (given_of fr a t w)) (counted-is program names d h e f none) ∙ more-given (is_own program e) (opens pre p) fr (elements_of program e) a t w

pub given-is : (program : Program) (names : Name → Option Meaning) → Describes names (laid_scope program) → EachKnown (laid_scope program).variables → (before : List ℤ) (pre ps : List Param) (es : Exprs) → length ps ≡ argument_count es → are_filled es ≡ true
    → list_faults (laid_scope program) es ≡ [] → Opened before pre → (fr : List CoreExpr) (a t w : ℕ) → told.given names (pre ++ ps) (length pre) (given_of fr a t w) es
    ≡ given_of (fr ++ fresh_of_list program es) (a + length (lengths program es)) (t + length (template_lengths before (sizes ps) (lengths program es))) (w + length_words (template_lengths before (sizes ps) (lengths program es)))
given-is program names d h before pre [] no_exprs n f e o fr a t w = same-given (sym (append-nil fr)) (omega arith) (omega arith) (omega arith)
given-is program names d h before pre (p ∷ ps) no_exprs n f e o fr a t w = absurd (omega arith)
given-is program names d h before pre [] (exprs i es) n f e o fr a t w = absurd (omega arith)
given-is program names d h before pre (p ∷ ps) (exprs i es) n f e o fr a t w =
    ap (λ g. told.given names (pre ++ p ∷ ps) (suc (length pre)) g es) (first-given program names d h pre p ps i (both_left (is_filled i) _ f) (nil_left (expr_faults (laid_scope program) i) _ e) fr a t w)
    ∙ after names before pre p ps es fr (fresh_elements program i) (fresh_of_list program es) a t w (length (elements_of program i)) (length (lengths program es)) (lengths program es) o
    (λ old opened gr b u v. given-is program names d h old (pre ++ p ∷ []) ps es (omega arith) (both_right (is_filled i) _ f) (nil_right (expr_faults (laid_scope program) i) _ e) opened gr b u v)
    (int_lt p.size (pos 0)) (list_any (int_eq p.size) before) refl refl
