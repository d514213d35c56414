-- The statements of a source without a fault are good.
use Rattle.std.proofs.Common.{nat_lt, pos, ◌≡◌, refl, sym, ◌∙◌, ap, subst, ℕ, ◌≤◌, Bool, true, false, not, List, [], ◌∷◌, ◌++◌, arith, Option, Some, None, is_some, length, ℤ, negsuc, map, if◌then◌else◌}
use Rattle.std.specs.Prelude.{flat_map, max, cond, bytes_eq, find, option_to_list, option_and_then, unwrap_or, All, nat_eq, IsSome, slice_get, option_map, if◌then◌else◌}
use Rattle.std.specs.List.{list_all, position_or_len}
use Rattle.std.proofs.Math.Nat.{le-max_left, le-max_right}
use Rattle.std.proofs.lemmas.List.{length-map}
use Rattle.std.proofs.lemmas.List.Folds.{find_at}
use Rattle.std.proofs.lemmas.Slice.Eq.{bytes_eq-Decides}
use Rattle.aseba_words.specs.declared.operators.Binary.{Binary}
use Rattle.aseba_tree.specs.Code.{Name, Place, Expr, all, Target, ForHead, Stmt, stmt, StmtForm, assign, change, bump, if_then, when_do, while_do, for_do, emit, callsub, call, return, Stmts, no_stmts, stmts, Handler, Sized, Exprs, no_exprs, exprs, Param, Native}
use Rattle.aseba_tree.specs.Line.{named}
use Rattle.aseba_tree.specs.State.{Program}
use Rattle.aseba_tree.specs.Step.{target_expr, native_place, native_sizes}
use Rattle.aseba_tree.specs.Sizes.{Known, variable_of, size_of, variable_size, target_size, Scope}
use Rattle.aseba_tree.specs.Faults.{fault_if, unknown, bad_size, not_scalar, sizes_differ, is_more_than_one, not_one_cell, unknown_variable, expr_faults, target_faults, assignment_faults, cell_faults, bound_faults, step_faults, head_faults, global_event, argument_faults, World, stmt_faults, stmt_form_faults, stmts_faults, part_name_faults, parts_faults, event_size, list_faults, native_faults, native_of, with_params, template_size, wanted_length, length_faults, argument_count, arg_count}
use Rattle.aseba_tree.specs.Shape.{is_filled, part_exprs, stmt_exprs, form_exprs, stmts_exprs, are_filled}
use Rattle.aseba_tree.specs.Elements.{variable_place, elements_of, target_elements, changed_elements, bumped_elements}
use Rattle.aseba_tree.specs.Numbers.{source_room, stmt_room, form_room, stmts_room, lengths}
use Rattle.aseba_tree.specs.SoundLaws.{HasCells}
use Rattle.aseba_tree.proofs.SizeLaws.{EachKnown, nil_left, nil_right, no_fault, not_false, both_left, both_right, one_cell, expr_is_good}
use Rattle.aseba_tree.proofs.SoundProofs.{all_left, all_right}
use Rattle.aseba_tree.proofs.ElementLaws.{laid_scope, expr_is_long}
use Rattle.aseba_expand.specs.Expands.{IsProject}
use Rattle.std.proofs.lemmas.List.Elements.{All-head, All-tail}
use Rattle.std.proofs.lemmas.Bool.{eqb-true}
use Rattle.aseba_tree.specs.Spells.{first_of}
use Rattle.aseba_expand.proofs.Faultless.{grounded, list-grounded}
use Rattle.aseba_expand.proofs.Targeted.{one-alone, part-ready}
use Rattle.aseba_expand.proofs.Ready.{IsSized, ReadyTest, ReadyHead, IsEvent, asked, first_length, Fit}
use Rattle.aseba_expand.proofs.Good.{GoodArgument, GoodStmt, GoodForm, GoodStmts, GoodParts, AreSome, GoodCall}
use Rattle.std.specs.Ordering.{int_eq}
use Rattle.std.proofs.lemmas.Bool.Decides.{Decides-int_eq}
use Rattle.aseba_expand.proofs.EventNumbers.{any-place, find-any}
use Rattle.aseba_check.proofs.NumbersHeld.{paired-length}
use Rattle.aseba_check.proofs.NumbersStatements.{list-filled, part-good, part-filled, part-size}
use Rattle.aseba_check.proofs.NumbersExprs.{IsSame, same-place, same-size, expr-many}

-- what statements may name, where all variables are known
abbrev pub laid_world : Program → List Name → World
laid_world program subs = record { scope = laid_scope program; project = program.project; subs = subs }

-- Assignments

target-length : (program : Program) → EachKnown (laid_scope program).variables → (place : Place) (target : Target) (e : Expr) → list_all is_filled (part_exprs target.part) ≡ true → is_filled e ≡ true → target_faults (laid_scope program) target ≡ []
    → expr_faults (laid_scope program) e ≡ [] → sizes_differ bad_size place (target_size (laid_scope program) target) (size_of (laid_scope program) e) ≡ [] → length (target_elements program target) ≡ length (elements_of program e)
target-length program h place target e ft fe tf ef differ =
    let scope = laid_scope program in
    let long_t = expr_is_long program h (target_expr target) (part-filled target.name target.part ft) (part-good scope target.place target.name target.part tf) in
    let long_e = expr_is_long program h e fe ef in
    let size = part-size scope target.place target.name target.part (nil_left (unknown_variable scope target.place target.name) _ tf) in
    same-size place (Some (length (target_elements program target))) (Some (length (elements_of program e))) (length (target_elements program target)) (length (elements_of program e)) refl refl
    (ap (λ s. sizes_differ bad_size place s (Some (length (elements_of program e)))) (sym (size ∙ long_t)) ∙ ap (sizes_differ bad_size place (target_size scope target)) (sym long_e) ∙ differ)

assign-good : (program : Program) → EachKnown (laid_scope program).variables → (place : Place) (target : Target) (e : Expr) → list_all is_filled (part_exprs target.part ++ e ∷ []) ≡ true
    → assignment_faults (laid_scope program) place target e ≡ [] → form_room program (assign target e) ≤ source_room program → GoodForm program (assign target e)
assign-good program h place target e f k room =
    let scope = laid_scope program in
    let front = nil_left (target_faults scope target ++ expr_faults scope e) _ k in
    let tf = nil_left (target_faults scope target) _ front in
    let ef = nil_right (target_faults scope target) _ front in
    let ft = all_left (part_exprs target.part) (e ∷ []) f in
    let fe = both_left (is_filled e) true (all_right (part_exprs target.part) (e ∷ []) f) in
    let same = target-length program h place target e ft fe tf ef (nil_right (target_faults scope target ++ expr_faults scope e) _ k) in
    (part-ready program h target.place target.name target.part (elements_of program e) ft tf (sym same) room, grounded program h e fe ef)

change-good : (program : Program) → EachKnown (laid_scope program).variables → (place : Place) (target : Target) (op : Binary) (e : Expr) → list_all is_filled (part_exprs target.part ++ e ∷ []) ≡ true
    → assignment_faults (laid_scope program) place target e ≡ [] → form_room program (change target op e) ≤ source_room program → GoodForm program (change target op e)
change-good program h place target op e f k room =
    let scope = laid_scope program in
    let front = nil_left (target_faults scope target ++ expr_faults scope e) _ k in
    let tf = nil_left (target_faults scope target) _ front in
    let ef = nil_right (target_faults scope target) _ front in
    let ft = all_left (part_exprs target.part) (e ∷ []) f in
    let fe = both_left (is_filled e) true (all_right (part_exprs target.part) (e ∷ []) f) in
    let same = target-length program h place target e ft fe tf ef (nil_right (target_faults scope target ++ expr_faults scope e) _ k) in (
      part-ready program h target.place target.name target.part (changed_elements program target op e) ft tf (paired-length op (target_elements program target) (elements_of program e) same) room,
      grounded program h (target_expr target) (part-filled target.name target.part ft) (part-good scope target.place target.name target.part tf),
      grounded program h e fe ef,
    )

bump-good : (program : Program) → EachKnown (laid_scope program).variables → (target : Target) (op : Binary) → list_all is_filled (part_exprs target.part) ≡ true
    → target_faults (laid_scope program) target ≡ [] → form_room program (bump target op) ≤ source_room program → GoodForm program (bump target op)
bump-good program h target op f k room = (
  part-ready program h target.place target.name target.part (bumped_elements program target op) f k (length-map (target_elements program target) _) room,
  grounded program h (target_expr target) (part-filled target.name target.part f) (part-good (laid_scope program) target.place target.name target.part k),
)

-- Conditions and heads

test-good : (program : Program) → EachKnown (laid_scope program).variables → (c : Expr) → is_filled c ≡ true → cell_faults (laid_scope program) c ≡ [] → ReadyTest program c
test-good program h c f k =
    let scope = laid_scope program in
    let own = nil_left (expr_faults scope c) (not_one_cell scope c) k in
    (grounded program h c f own, one-alone program h c f own (nil_right (expr_faults scope c) (not_one_cell scope c) k))

sized-one : (k : Option Known) (p : Option (ℕ × ℕ)) → IsSame k p → option_and_then (λ v. v.size) k ≡ Some 1 → IsSized p 1
sized-one None p h e = cc
sized-one (Some k) None h e = absurd h
sized-one (Some k) (Some p) h e = ap (λ o. unwrap_or o 0) (sym h ∙ e)

nil-more : {A : Type 0} (xs : List A) → xs ≡ [] → xs ++ [] ≡ []
nil-more xs e = rw e refl

-- the variable of a `for` has one cell
head-good : (program : Program) → EachKnown (laid_scope program).variables → (place : Place) (head : ForHead) → head_faults (laid_scope program) place head ≡ [] → ReadyHead program head
head-good program h place head k =
    let scope = laid_scope program in
    let to_last = nil_left _ (step_faults scope head.step) k in
    let to_first = nil_left _ (bound_faults scope head.last) to_last in
    let front = nil_left (unknown_variable scope place head.name ++ fault_if (is_more_than_one (variable_size scope head.name)) place not_scalar) _ to_first in
    let u = nil_left (unknown_variable scope place head.name) _ front in
    let one = no_fault (is_more_than_one (variable_size scope head.name)) place not_scalar (nil_right (unknown_variable scope place head.name) _ front) in
    let name_known = part-good scope place head.name all (nil-more (unknown_variable scope place head.name) u) in
    let cells = (expr_is_good scope h (target_expr (record { place = place; name = head.name; part = all })) refl name_known).has_cells in
    let size = part-size scope place head.name all u in
    sized-one (variable_of scope head.name) (variable_place program head.name) (same-place program head.name) (one_cell (variable_size scope head.name) (subst HasCells (sym size) cells) one)

-- Events

some-count : (a b : ℕ) → Some a ≡ Some b → a ≡ b
some-count a b e = ap (λ o. unwrap_or o 0) e

named-event : (events : List Sized) (name : Name) (d : Sized) → find (λ event. bytes_eq event.name name) events ≡ Some d → d.name ≡ name
named-event [] name d e = cc
named-event (v ∷ vs) name d e = pick (named-event vs name d) (bytes_eq v.name name) refl e
  where
    pick : (find (λ event. bytes_eq event.name name) vs ≡ Some d → d.name ≡ name) → (b : Bool) → bytes_eq v.name name ≡ b → cond b (Some v) (find (λ event. bytes_eq event.name name) vs) ≡ Some d → d.name ≡ name
    pick deeper true t f = let same : v ≡ d = cc in ap (λ x. x.name) (sym same) ∙ (bytes_eq-Decides v.name name).0 t
    pick deeper false t f = deeper f

event-good : (program : Program) (place : Place) (name : Name) → fault_if (not (is_some (global_event program.project name))) place unknown ≡ [] → IsEvent program name
event-good program place name k = by (global_event program.project name) refl (not_false (is_some (global_event program.project name)) (no_fault (not (is_some (global_event program.project name))) place unknown k))
  where
    has : Sized → Bool
    has event = bytes_eq event.name name

    by : (o : Option Sized) → global_event program.project name ≡ o → is_some o ≡ true → IsEvent program name
    by None e s = cc
    by (Some d) e s =
        let found = sym (find_at has program.project.events) ∙ e in
        let less : nat_lt (position_or_len has program.project.events) (length program.project.events) ≡ true = any-place has program.project.events (sym (find-any has program.project.events) ∙ ap is_some e) in
        rw (less, found) (ap named (named-event program.project.events name d e))

same-event : (place : Place) (a b : ℕ) → sizes_differ event_size place (Some a) (Some b) ≡ [] → a ≡ b
same-event place a b e = eqb-true a b (not_false (nat_eq a b) (no_fault (not (nat_eq a b)) place (event_size (pos a) (pos b)) e))

find-small : (events : List Sized) (name : Name) (d : Sized) → All (λ event. event.size ≤ 256) events → find (λ event. bytes_eq event.name name) events ≡ Some d → d.size ≤ 256
find-small [] name d h e = cc
find-small (v ∷ vs) name d h e = by (find-small vs name d (All-tail (λ event. event.size ≤ 256) v vs h)) (bytes_eq v.name name) e
  where
    by : (find (λ event. bytes_eq event.name name) vs ≡ Some d → d.size ≤ 256) → (b : Bool) → cond b (Some v) (find (λ event. bytes_eq event.name name) vs) ≡ Some d → d.size ≤ 256
    by deeper true e = let same : v ≡ d = cc in subst (λ w. w.size ≤ 256) same (All-head (λ event. event.size ≤ 256) v vs h)
    by deeper false e = deeper e

argument-good : (program : Program) → EachKnown (laid_scope program).variables → IsProject program.project → (event : Option Sized) (argument : Option Expr) → list_all is_filled (option_to_list argument) ≡ true → argument_faults (laid_scope program) event argument ≡ []
    → (name : Name) → global_event program.project name ≡ event → is_some event ≡ true → form_room program (emit name argument) ≤ source_room program → GoodArgument program argument
argument-good program h few event None f k name same known room = tt
argument-good program h few None (Some e) f k name same known room = cc
argument-good program h few (Some d) (Some e) f k name same known room =
    let filled = both_left (is_filled e) true f in
    let own = nil_left (expr_faults (laid_scope program) e) _ k in
    let long = expr_is_long program h e filled own in
    let size = same-event (first_of e) d.size (length (elements_of program e)) (ap (sizes_differ event_size (first_of e) (Some d.size)) (sym long) ∙ nil_right (expr_faults (laid_scope program) e) _ k) in
    let small = find-small program.project.events name d few.events same in
    ((grounded program h e filled own, room), omega (arith, size, small))

-- Natives

each-some : (program : Program) → EachKnown (laid_scope program).variables → (es : Exprs) → are_filled es ≡ true → list_faults (laid_scope program) es ≡ [] → AreSome program es
each-some program h no_exprs f k = tt
each-some program h (exprs e es) f k =
    (expr-many program h e (both_left (is_filled e) _ f) (nil_left (expr_faults (laid_scope program) e) _ k), each-some program h es (both_right (is_filled e) _ f) (nil_right (expr_faults (laid_scope program) e) _ k))

named-native : (natives : List Native) (name : Name) (n : Native) → find (λ native. bytes_eq native.name name) natives ≡ Some n → n.name ≡ name
named-native [] name n e = cc
named-native (v ∷ vs) name n e = pick (named-native vs name n) (bytes_eq v.name name) refl e
  where
    pick : (find (λ native. bytes_eq native.name name) vs ≡ Some n → n.name ≡ name) → (b : Bool) → bytes_eq v.name name ≡ b → cond b (Some v) (find (λ native. bytes_eq native.name name) vs) ≡ Some n → n.name ≡ name
    pick deeper true t f = let same : v ≡ n = cc in ap (λ x. x.name) (sym same) ∙ (bytes_eq-Decides v.name name).0 t
    pick deeper false t f = deeper f

abbrev sizes_of : List Param → List ℤ
sizes_of ps = map (λ (p : Param). p.size) ps

argument-lengths : (program : Program) (es : Exprs) → length (lengths program es) ≡ argument_count es
argument-lengths program no_exprs = refl
argument-lengths program (exprs e es) = let rest = argument-lengths program es in omega (arith, rest)

-- the first argument of a template
template-first : (program : Program) → EachKnown (laid_scope program).variables → (ps : List Param) (es : Exprs) (t : ℤ) (n : ℕ) → are_filled es ≡ true → list_faults (laid_scope program) es ≡ []
    → template_size (laid_scope program) (with_params ps es) t ≡ Some n → first_length (sizes_of ps) (lengths program es) t ≡ n
template-first program h [] es t n f k e = cc
template-first program h (p ∷ ps) no_exprs t n f k e = cc
template-first program h (p ∷ ps) (exprs e es) t n f k q =
    pick (int_eq p.size t) q (template-first program h ps es t n (both_right (is_filled e) _ f) (nil_right (expr_faults (laid_scope program) e) _ k))
  where
    scope : Scope
    scope = laid_scope program

    long : size_of scope e ≡ Some (length (elements_of program e))
    long = expr_is_long program h e (both_left (is_filled e) _ f) (nil_left (expr_faults scope e) _ k)

    pick : (b : Bool) → (if b then size_of scope e else template_size scope (with_params ps es) t) ≡ Some n → (template_size scope (with_params ps es) t ≡ Some n → first_length (sizes_of ps) (lengths program es) t ≡ n)
        → (if b then length (elements_of program e) else first_length (sizes_of ps) (lengths program es) t) ≡ n
    pick true q deeper = some-count (length (elements_of program e)) n (sym long ∙ q)
    pick false q deeper = deeper q

-- a parameter asks for what is wanted
wanted-asked : (program : Program) → EachKnown (laid_scope program).variables → (ps : List Param) (es : Exprs) (p : ℤ) (n : ℕ) → are_filled es ≡ true → list_faults (laid_scope program) es ≡ []
    → wanted_length (laid_scope program) (with_params ps es) p ≡ Some n → asked (sizes_of ps) (lengths program es) p ≡ n
wanted-asked program h ps es (pos m) n f k e = some-count m n e
wanted-asked program h ps es (negsuc m) n f k e = template-first program h ps es (negsuc m) n f k e

-- each parameter wants a length
abbrev Wanted : Program → List (ℤ × Expr) → List Param → Type 0
Wanted program arguments [] = Unit {0}
Wanted program arguments (q ∷ qs) = IsSome (wanted_length (laid_scope program) arguments q.size) × Wanted program arguments qs

wanted-first : (program : Program) (s : ℤ) (e : Expr) (arguments : List (ℤ × Expr)) → IsSome (size_of (laid_scope program) e) → IsSome (wanted_length (laid_scope program) ((s, e) ∷ arguments) s)
wanted-first program (pos m) e arguments k = refl
wanted-first program (negsuc m) e arguments k = rw ((Decides-int_eq (negsuc m) (negsuc m)).1 refl) k

wanted-later : (program : Program) (s : ℤ) (e : Expr) (arguments : List (ℤ × Expr)) (q : ℤ) → IsSome (size_of (laid_scope program) e) → IsSome (wanted_length (laid_scope program) arguments q) → IsSome (wanted_length (laid_scope program) ((s, e) ∷ arguments) q)
wanted-later program s e arguments (pos m) k w = refl
wanted-later program s e arguments (negsuc m) k w = pick (int_eq s (negsuc m))
  where
    pick : (b : Bool) → IsSome (if b then size_of (laid_scope program) e else template_size (laid_scope program) arguments (negsuc m))
    pick true = k
    pick false = w

wanted-more : (program : Program) (s : ℤ) (e : Expr) (arguments : List (ℤ × Expr)) (qs : List Param) → IsSome (size_of (laid_scope program) e) → Wanted program arguments qs → Wanted program ((s, e) ∷ arguments) qs
wanted-more program s e arguments [] k w = tt
wanted-more program s e arguments (q ∷ qs) k w = (wanted-later program s e arguments q.size k w.0, wanted-more program s e arguments qs k w.1)

all-wanted : (program : Program) → EachKnown (laid_scope program).variables → (ps : List Param) (es : Exprs) → are_filled es ≡ true → list_faults (laid_scope program) es ≡ [] → length ps ≡ argument_count es → Wanted program (with_params ps es) ps
all-wanted program h [] es f k n = tt
all-wanted program h (p ∷ ps) no_exprs f k n = absurd (omega (arith, n))
all-wanted program h (p ∷ ps) (exprs e es) f k n =
    let there : IsSome (size_of (laid_scope program) e) = ap is_some (expr_is_long program h e (both_left (is_filled e) _ f) (nil_left (expr_faults (laid_scope program) e) _ k)) in
    let rest = all-wanted program h ps es (both_right (is_filled e) _ f) (nil_right (expr_faults (laid_scope program) e) _ k) (omega (arith, n)) in
    (wanted-first program p.size e (with_params ps es) there, wanted-more program p.size e (with_params ps es) ps there rest)

-- the arguments of a native without a fault fit its parameters
all-fit : (program : Program) → EachKnown (laid_scope program).variables → (ps : List Param) (es : Exprs) → are_filled es ≡ true → list_faults (laid_scope program) es ≡ []
    → (qs : List Param) (fs : Exprs) → are_filled fs ≡ true → list_faults (laid_scope program) fs ≡ [] → length qs ≡ argument_count fs → Wanted program (with_params ps es) qs
    → length_faults (laid_scope program) (with_params ps es) (with_params qs fs) ≡ [] → Fit (sizes_of ps) (lengths program es) (sizes_of qs) (lengths program fs)
all-fit program h ps es f k [] no_exprs g l n w d = tt
all-fit program h ps es f k [] (exprs e fs) g l n w d = absurd (omega (arith, n))
all-fit program h ps es f k (q ∷ qs) no_exprs g l n w d = absurd (omega (arith, n))
all-fit program h ps es f k (q ∷ qs) (exprs e fs) g l n w d = (
  by (wanted_length scope arguments q.size) refl w.0 (nil_left (sizes_differ bad_size (first_of e) (wanted_length scope arguments q.size) (size_of scope e)) _ d),
  all-fit program h ps es f k qs fs (both_right (is_filled e) _ g) (nil_right (expr_faults scope e) _ l) (omega (arith, n)) w.1 (nil_right (sizes_differ bad_size (first_of e) (wanted_length scope arguments q.size) (size_of scope e)) _ d),
)
  where
    scope : Scope
    scope = laid_scope program

    arguments : List (ℤ × Expr)
    arguments = with_params ps es

    long : size_of scope e ≡ Some (length (elements_of program e))
    long = expr_is_long program h e (both_left (is_filled e) _ g) (nil_left (expr_faults scope e) _ l)

    by : (o : Option ℕ) → wanted_length scope arguments q.size ≡ o → IsSome o → sizes_differ bad_size (first_of e) o (size_of scope e) ≡ [] → asked (sizes_of ps) (lengths program es) q.size ≡ length (elements_of program e)
    by None t s d = cc
    by (Some m) t s d = wanted-asked program h ps es q.size m f k t ∙ same-size (first_of e) (Some m) (Some (length (elements_of program e))) m (length (elements_of program e)) refl refl (ap (sizes_differ bad_size (first_of e) (Some m)) (sym long) ∙ d)

call-good : (program : Program) → EachKnown (laid_scope program).variables → (place : Place) (name : Name) (es : Exprs) → are_filled es ≡ true → list_faults (laid_scope program) es ≡ []
    → native_faults (laid_scope program) place (native_of program.project name) es ≡ [] → form_room program (call name es) ≤ source_room program → GoodCall program name es
call-good program h place name es f k nf room = by (native_of program.project name) refl nf
  where
    has : Native → Bool
    has native = bytes_eq native.name name

    by : (o : Option Native) → native_of program.project name ≡ o → native_faults (laid_scope program) place o es ≡ [] → GoodCall program name es
    by None e d = cc
    by (Some native) e d =
        let ps = native.params in
        let counted = no_fault (not (nat_eq (length ps) (argument_count es))) place (arg_count (pos (length ps)) (pos (argument_count es))) (nil_left (fault_if (not (nat_eq (length ps) (argument_count es))) place (arg_count (pos (length ps)) (pos (argument_count es)))) _ d) in
        let count = eqb-true (length ps) (argument_count es) (not_false (nat_eq (length ps) (argument_count es)) counted) in
        let lengths_fit = nil_right (fault_if (not (nat_eq (length ps) (argument_count es))) place (arg_count (pos (length ps)) (pos (argument_count es)))) _ d in
        let found : slice_get program.project.node.natives (native_place program.project name) ≡ Some native = sym (find_at has program.project.node.natives) ∙ e in
        let sizes : native_sizes program.project name ≡ sizes_of ps = ap (λ o. unwrap_or (option_map (λ native. map (λ p. p.size) native.params) o) []) found in
        let fit = all-fit program h ps es f k ps es f k count (all-wanted program h ps es f k count) lengths_fit in
        record {
          ready = record {
            name_of = ap (λ o. unwrap_or (option_map (λ native. native.name) o) []) found ∙ named-native program.project.node.natives name native e;
            fits = subst (λ s. Fit s (lengths program es) s (lengths program es)) (sym sizes) fit;
            grounded = list-grounded program h es f k;
            room = room;
          };
          native = native;
          found = found;
          sizes = ap (λ o. unwrap_or (option_map (λ native. map (λ p. p.size) native.params) o) []) e;
          some = each-some program h es f k;
        }

-- Statements

under-left : (a b k : ℕ) → max a b ≤ k → a ≤ k
under-left a b k h = let up = le-max_left a b in omega (arith, up, h)

under-right : (a b k : ℕ) → max a b ≤ k → b ≤ k
under-right a b k h = let up = le-max_right a b in omega (arith, up, h)

mutual
  pub stmt-good : (program : Program) (subs : List Name) → IsProject program.project → EachKnown (laid_scope program).variables → (s : Stmt) → list_all is_filled (stmt_exprs s) ≡ true → stmt_faults (laid_world program subs) s ≡ []
      → stmt_room program s ≤ source_room program → GoodStmt program s
  stmt-good program subs few h (stmt line place form) f k room = form-good program subs few h place form f k room

  form-good : (program : Program) (subs : List Name) → IsProject program.project → EachKnown (laid_scope program).variables → (place : Place) (form : StmtForm) → list_all is_filled (form_exprs form) ≡ true → stmt_form_faults (laid_world program subs) place form ≡ []
      → form_room program form ≤ source_room program → GoodForm program form
  form-good program subs few h place (assign target e) f k room = assign-good program h place target e f k room
  form-good program subs few h place (change target op e) f k room = change-good program h place target op e f k room
  form-good program subs few h place (bump target op) f k room = bump-good program h target op f k room
  form-good program subs few h place (if_then c body other) f k room =
      let world = laid_world program subs in
      let front = nil_left (cell_faults world.scope c ++ stmts_faults world body) (stmts_faults world other) k in
      let rest = both_right (is_filled c) _ f in (
        test-good program h c (both_left (is_filled c) _ f) (nil_left (cell_faults world.scope c) _ front),
        stmts-good program subs few h body (all_left (stmts_exprs body) _ rest) (nil_right (cell_faults world.scope c) _ front) (under-left (stmts_room program body) (stmts_room program other) (source_room program) room),
        stmts-good program subs few h other (all_right (stmts_exprs body) _ rest) (nil_right (cell_faults world.scope c ++ stmts_faults world body) _ k) (under-right (stmts_room program body) (stmts_room program other) (source_room program) room),
      )
  form-good program subs few h place (when_do c body) f k room =
      let world = laid_world program subs in
      (test-good program h c (both_left (is_filled c) _ f) (nil_left (cell_faults world.scope c) _ k), stmts-good program subs few h body (both_right (is_filled c) _ f) (nil_right (cell_faults world.scope c) _ k) room)
  form-good program subs few h place (while_do c body) f k room =
      let world = laid_world program subs in
      (test-good program h c (both_left (is_filled c) _ f) (nil_left (cell_faults world.scope c) _ k), stmts-good program subs few h body (both_right (is_filled c) _ f) (nil_right (cell_faults world.scope c) _ k) room)
  form-good program subs few h place (for_do head body) f k room =
      let world = laid_world program subs in
      let rest = both_right (is_filled head.last) _ (both_right (is_filled head.first) _ f) in
      (head-good program h place head (nil_left (head_faults world.scope place head) _ k), stmts-good program subs few h body (all_right (option_to_list head.step) _ rest) (nil_right (head_faults world.scope place head) _ k) room)
  form-good program subs few h place (emit name argument) f k room =
      let known = fault_if (not (is_some (global_event program.project name))) place unknown in
      (event-good program place name (nil_left known _ k), argument-good program h few (global_event program.project name) argument f (nil_right known _ k) name refl (not_false (is_some (global_event program.project name)) (no_fault (not (is_some (global_event program.project name))) place unknown (nil_left known _ k))) room)
  form-good program subs few h place (callsub name) f k room = tt
  form-good program subs few h place (call name es) f k room =
      let scope = laid_scope program in
      call-good program h place name es (list-filled es f) (nil_left (list_faults scope es) _ k) (nil_right (list_faults scope es) _ k) room
  form-good program subs few h place return f k room = tt

  pub stmts-good : (program : Program) (subs : List Name) → IsProject program.project → EachKnown (laid_scope program).variables → (ss : Stmts) → list_all is_filled (stmts_exprs ss) ≡ true → stmts_faults (laid_world program subs) ss ≡ []
      → stmts_room program ss ≤ source_room program → GoodStmts program ss
  stmts-good program subs few h no_stmts f k room = tt
  stmts-good program subs few h (stmts s ss) f k room =
      let world = laid_world program subs in (
        stmt-good program subs few h s (all_left (stmt_exprs s) _ f) (nil_left (stmt_faults world s) _ k) (under-left (stmt_room program s) (stmts_room program ss) (source_room program) room),
        stmts-good program subs few h ss (all_right (stmt_exprs s) _ f) (nil_right (stmt_faults world s) _ k) (under-right (stmt_room program s) (stmts_room program ss) (source_room program) room),
      )

-- parts

abbrev pub RoomParts : Program → List Handler → Type 0
RoomParts program [] = Unit {0}
RoomParts program (p ∷ ps) = (stmts_room program p.body ≤ source_room program) × RoomParts program ps

pub parts-good : (program : Program) (subs : List Name) → IsProject program.project → EachKnown (laid_scope program).variables → (before ps : List Handler) → list_all is_filled (flat_map (λ h. stmts_exprs h.body) ps) ≡ true → parts_faults (laid_world program subs) before ps ≡ []
    → RoomParts program ps → GoodParts program ps
parts-good program subs few h before [] f k room = tt
parts-good program subs few h before (p ∷ ps) f k room =
    let world = laid_world program subs in
    let own = nil_left (part_name_faults program.project before p ++ stmts_faults world p.body) _ k in (
      stmts-good program subs few h p.body (all_left (stmts_exprs p.body) _ f) (nil_right (part_name_faults program.project before p) _ own) room.0,
      parts-good program subs few h (before ++ p ∷ []) ps (all_right (stmts_exprs p.body) _ f) (nil_right (part_name_faults program.project before p ++ stmts_faults world p.body) _ k) room.1,
    )
