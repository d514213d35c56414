-- The laws of sound sources.
use Rattle.std.proofs.Common.{◌≡◌, refl, ◌∙◌, ap, ℕ, ◌≤◌, Bool, true, false, not, ◌&&◌, if◌then◌else◌, ℤ, pos, negsuc, List, [], ◌∷◌, ◌++◌, arith, Option, Some, None, is_some, nat_lt}
use Rattle.std.specs.Prelude.{IsTrue, int_lt, option_map, option_to_list, flat_map, map, IsSome}
use Rattle.std.specs.List.{list_all}
use Rattle.std.proofs.lemmas.Bool.{ltb-false, ltb-true, le-ltb, lt-ltb}
use Rattle.aseba_tree.specs.Code.{Name, Place, Expr, expr, Form, number, whole, index, range, items, one, two, Exprs, no_exprs, exprs, Part, all, at, span, Target, ForHead, Stmt, stmt, StmtForm, assign, change, bump, if_then, when_do, while_do, for_do, emit, callsub, call, return, Stmts, no_stmts, stmts, Decl, Handler, Sized}
use Rattle.aseba_tree.specs.State.{Program}
use Rattle.aseba_tree.specs.Spells.{first_of}
use Rattle.aseba_tree.specs.Sizes.{Known, Scope, is_constant, constant_value, size_of}
use Rattle.aseba_tree.specs.Faults.{Fault, fault_if, unknown, duplicate, is_known, not_constant, bad_size, unknown_variable, bad_index, bad_range, zero_divisions, expr_faults, form_faults, list_faults, bad_operand, part_faults, target_faults, assignment_faults, cell_faults, bound_faults, head_faults, step_faults, argument_faults, global_event, World, stmt_faults, stmt_form_faults, stmts_faults, size_in_range, given_size, size_out_of_range, size_faults, value_faults, decl_faults, declaring, all_declaring, decls_faults, part_name_faults, parts_faults, recursion_faults, sub_calls, first_scope, world_of, faults, first_fault}
use Rattle.aseba_tree.specs.Shape.{is_filled, is_filled_form, are_filled, is_some_exprs, to_list, part_exprs, stmt_exprs, form_exprs, stmts_exprs, decl_exprs, IsTree}
use Rattle.aseba_tree.specs.Numbers.{is_large, Start}
use Rattle.aseba_tree.specs.Layout.{cells_of_variables}
use Rattle.aseba_tree.specs.Soundness.{Refusal, far_subroutine, refusal_without_fault, refusal_by, Sound}
use Rattle.aseba_tree.specs.SoundLaws.{SoundIsFaultless, HasCells, EachHasCells, EachInForm, EachInList, EachInDecls, SoundHasCells}
use Rattle.aseba_tree.specs.Each.{EachItem, EachOption, EachPart, EachHead, EachStmt, EachForm, EachStmts, EachPartOf}
use Rattle.aseba_tree.proofs.SizeLaws.{EachKnown, nil_left, nil_right, no_fault, both_left, both_right, place_value, expr_is_good}

-- Soundness without its order

by_no_fault : (program : Program) (fs : List Fault) → refusal_by program (first_fault fs) ≡ None → (fs ≡ []) × (refusal_without_fault program ≡ None)
by_no_fault program [] e = (refl, e)
by_no_fault program (f ∷ fs) e = cc

inside : (full large : Bool) (far : Option Start) (f : Refusal) (g : Start → Refusal) → (if full then Some f else (if large then option_map g far else None)) ≡ None → (full ≡ false) × (large ≡ true → far ≡ None)
inside true large far f g e = cc
inside false false far f g e = (refl, λ q. cc)
inside false true None f g e = (refl, λ q. refl)
inside false true (Some s) f g e = cc

outside : (full large : Bool) (far : Option Start) (f : Refusal) (g : Start → Refusal) → full ≡ false → (large ≡ true → far ≡ None) → (if full then Some f else (if large then option_map g far else None)) ≡ None
outside true large far f g e h = cc
outside false false far f g e h = refl
outside false true far f g e h = ap (option_map g) (h refl)

pub sound_is_faultless : (program : Program) → SoundIsFaultless program
sound_is_faultless program = (there, back)
  where
    there : Sound program → (faults program ≡ []) × (cells_of_variables program ≤ program.project.node.cells) × (IsTrue (is_large program.project) → far_subroutine program ≡ None)
    there sound =
        let parts = by_no_fault program (faults program) sound in
        let rest = inside (nat_lt program.project.node.cells (cells_of_variables program)) (is_large program.project) (far_subroutine program) _ _ parts.1 in
        (parts.0, ltb-false program.project.node.cells (cells_of_variables program) rest.0, rest.1)

    back : (faults program ≡ []) × (cells_of_variables program ≤ program.project.node.cells) × (IsTrue (is_large program.project) → far_subroutine program ≡ None) → Sound program
    back h = ap (λ fs. refusal_by program (first_fault fs)) h.0
        ∙ outside (nat_lt program.project.node.cells (cells_of_variables program)) (is_large program.project) (far_subroutine program) _ _ (le-ltb program.project.node.cells (cells_of_variables program) h.1) h.2

-- Lists of expressions

pub all_left : (es fs : List Expr) → list_all is_filled (es ++ fs) ≡ true → list_all is_filled es ≡ true
all_left [] fs h = refl
all_left (e ∷ es) fs h = joined (is_filled e) _ (both_left (is_filled e) _ h) (all_left es fs (both_right (is_filled e) _ h))
  where
    joined : (a b : Bool) → a ≡ true → b ≡ true → (a && b) ≡ true
    joined true b p q = q
    joined false b p q = p

pub all_right : (es fs : List Expr) → list_all is_filled (es ++ fs) ≡ true → list_all is_filled fs ≡ true
all_right [] fs h = h
all_right (e ∷ es) fs h = all_right es fs (both_right (is_filled e) _ h)

list_is_filled : (es : Exprs) → list_all is_filled (to_list es) ≡ true → are_filled es ≡ true
list_is_filled no_exprs h = refl
list_is_filled (exprs e es) h = joined (is_filled e) _ (both_left (is_filled e) _ h) (list_is_filled es (both_right (is_filled e) _ h))
  where
    joined : (a b : Bool) → a ≡ true → b ≡ true → (a && b) ≡ true
    joined true b p q = q
    joined false b p q = p

-- Expressions

mutual
  expr_each : (scope : Scope) → EachKnown scope.variables → (e : Expr) → is_filled e ≡ true → expr_faults scope e ≡ [] → EachHasCells scope e
  expr_each scope h (expr first place form) f e = ((expr_is_good scope h (expr first place form) f e).has_cells, form_each scope h place form f e)

  form_each : (scope : Scope) → EachKnown scope.variables → (place : Place) (form : Form) → is_filled_form form ≡ true → form_faults scope place form ≡ [] → EachInForm scope form
  form_each scope h place (number v) f e = tt
  form_each scope h place (whole name) f e = tt
  form_each scope h place (index name i) f e = expr_each scope h i f (nil_right (unknown_variable scope place name) _ (nil_left _ (bad_index scope place name i) e))
  form_each scope h place (range name c d) f e = (
    expr_each scope h c (both_left (is_filled c) (is_filled d) f) (nil_right (unknown_variable scope place name) _ (nil_left (unknown_variable scope place name ++ expr_faults scope c) _ (nil_left _ (bad_range scope place name c d) e))),
    expr_each scope h d (both_right (is_filled c) (is_filled d) f) (nil_right (unknown_variable scope place name ++ expr_faults scope c) _ (nil_left _ (bad_range scope place name c d) e)),
  )
  form_each scope h place (items es) f e = list_each scope h es (both_right (is_some_exprs es) _ f) e
  form_each scope h place (one op i) f e = expr_each scope h i f (nil_left _ (bad_operand scope op i) e)
  form_each scope h place (two op l r) f e = (
    expr_each scope h l (both_left (is_filled l) (is_filled r) f) (nil_left (expr_faults scope l) _ (nil_left (expr_faults scope l ++ expr_faults scope r) _ e)),
    expr_each scope h r (both_right (is_filled l) (is_filled r) f) (nil_right (expr_faults scope l) _ (nil_left (expr_faults scope l ++ expr_faults scope r) _ e)),
  )

  list_each : (scope : Scope) → EachKnown scope.variables → (es : Exprs) → are_filled es ≡ true → list_faults scope es ≡ [] → EachInList scope es
  list_each scope h no_exprs f e = tt
  list_each scope h (exprs i es) f e = (expr_each scope h i (both_left (is_filled i) _ f) (nil_left (expr_faults scope i) _ e), list_each scope h es (both_right (is_filled i) _ f) (nil_right (expr_faults scope i) _ e))

-- Statements

items_each : (scope : Scope) (es : Exprs) → EachInList scope es → EachItem (EachHasCells scope) es
items_each scope no_exprs h = tt
items_each scope (exprs e es) h = (h.0, items_each scope es h.1)

single : (e : Expr) → list_all is_filled (e ∷ []) ≡ true → is_filled e ≡ true
single e h = both_left (is_filled e) true h

part_each : (scope : Scope) → EachKnown scope.variables → (place : Place) (name : Name) (part : Part) → list_all is_filled (part_exprs part) ≡ true → part_faults scope place name part ≡ [] → EachPart (EachHasCells scope) part
part_each scope h place name all f e = tt
part_each scope h place name (at i) f e = expr_each scope h i (single i f) (nil_left (expr_faults scope i) _ e)
part_each scope h place name (span c d) f e = (
  expr_each scope h c (both_left (is_filled c) _ f) (nil_left (expr_faults scope c) _ (nil_left _ (bad_range scope place name c d) e)),
  expr_each scope h d (single d (both_right (is_filled c) _ f)) (nil_right (expr_faults scope c) _ (nil_left _ (bad_range scope place name c d) e)),
)

assignment_each : (scope : Scope) → EachKnown scope.variables → (place : Place) (target : Target) (i : Expr) → list_all is_filled (part_exprs target.part ++ i ∷ []) ≡ true → assignment_faults scope place target i ≡ []
    → EachPart (EachHasCells scope) target.part × EachHasCells scope i
assignment_each scope h place target i f e =
    let first = nil_left (target_faults scope target ++ expr_faults scope i) _ e in (
      part_each scope h target.place target.name target.part (all_left (part_exprs target.part) _ f) (nil_right (unknown_variable scope target.place target.name) _ (nil_left (target_faults scope target) _ first)),
      expr_each scope h i (single i (all_right (part_exprs target.part) _ f)) (nil_right (target_faults scope target) _ first),
    )

step_each : (scope : Scope) → EachKnown scope.variables → (step : Option Expr) → list_all is_filled (option_to_list step) ≡ true → step_faults scope step ≡ [] → EachOption (EachHasCells scope) step
step_each scope h None f e = tt
step_each scope h (Some i) f e = expr_each scope h i (single i f) (nil_left (expr_faults scope i) _ (nil_left (bound_faults scope i) _ e))

head_each : (scope : Scope) → EachKnown scope.variables → (place : Place) (head : ForHead) → is_filled head.first ≡ true → is_filled head.last ≡ true → list_all is_filled (option_to_list head.step) ≡ true → head_faults scope place head ≡ []
    → EachHead (EachHasCells scope) head
head_each scope h place head f g k e =
    let to_last = nil_left _ (step_faults scope head.step) e in
    let to_first = nil_left _ (bound_faults scope head.last) to_last in (
      expr_each scope h head.first f (nil_left (expr_faults scope head.first) _ (nil_right _ (bound_faults scope head.first) to_first)),
      expr_each scope h head.last g (nil_left (expr_faults scope head.last) _ (nil_right _ (bound_faults scope head.last) to_last)),
      step_each scope h head.step k (nil_right _ (step_faults scope head.step) e),
    )

argument_each : (scope : Scope) → EachKnown scope.variables → (event : Option Sized) (argument : Option Expr) → list_all is_filled (option_to_list argument) ≡ true → argument_faults scope event argument ≡ [] → EachOption (EachHasCells scope) argument
argument_each scope h event None f e = tt
argument_each scope h event (Some i) f e = expr_each scope h i (single i f) (nil_left (expr_faults scope i) _ e)

mutual
  stmt_each : (world : World) → EachKnown world.scope.variables → (s : Stmt) → list_all is_filled (stmt_exprs s) ≡ true → stmt_faults world s ≡ [] → EachStmt (EachHasCells world.scope) s
  stmt_each world h (stmt line place form) f e = stmt_form_each world h place form f e

  stmt_form_each : (world : World) → EachKnown world.scope.variables → (place : Place) (form : StmtForm) → list_all is_filled (form_exprs form) ≡ true → stmt_form_faults world place form ≡ [] → EachForm (EachHasCells world.scope) form
  stmt_form_each world h place (assign target i) f e = assignment_each world.scope h place target i f e
  stmt_form_each world h place (change target op i) f e = assignment_each world.scope h place target i f e
  stmt_form_each world h place (bump target op) f e = part_each world.scope h target.place target.name target.part f (nil_right (unknown_variable world.scope target.place target.name) _ e)
  stmt_form_each world h place (if_then c body other) f e = (
    expr_each world.scope h c (both_left (is_filled c) _ f) (nil_left (expr_faults world.scope c) _ (nil_left (cell_faults world.scope c) _ (nil_left (cell_faults world.scope c ++ stmts_faults world body) _ e))),
    stmts_each world h body (all_left (stmts_exprs body) _ (both_right (is_filled c) _ f)) (nil_right (cell_faults world.scope c) _ (nil_left (cell_faults world.scope c ++ stmts_faults world body) _ e)),
    stmts_each world h other (all_right (stmts_exprs body) _ (both_right (is_filled c) _ f)) (nil_right (cell_faults world.scope c ++ stmts_faults world body) _ e),
  )
  stmt_form_each world h place (when_do c body) f e =
      (expr_each world.scope h c (both_left (is_filled c) _ f) (nil_left (expr_faults world.scope c) _ (nil_left (cell_faults world.scope c) _ e)), stmts_each world h body (both_right (is_filled c) _ f) (nil_right (cell_faults world.scope c) _ e))
  stmt_form_each world h place (while_do c body) f e =
      (expr_each world.scope h c (both_left (is_filled c) _ f) (nil_left (expr_faults world.scope c) _ (nil_left (cell_faults world.scope c) _ e)), stmts_each world h body (both_right (is_filled c) _ f) (nil_right (cell_faults world.scope c) _ e))
  stmt_form_each world h place (for_do head body) f e =
      let rest = both_right (is_filled head.last) _ (both_right (is_filled head.first) _ f) in (
        head_each world.scope h place head (both_left (is_filled head.first) _ f) (both_left (is_filled head.last) _ (both_right (is_filled head.first) _ f)) (all_left (option_to_list head.step) _ rest) (nil_left (head_faults world.scope place head) _ e),
        stmts_each world h body (all_right (option_to_list head.step) _ rest) (nil_right (head_faults world.scope place head) _ e),
      )
  stmt_form_each world h place (emit name argument) f e = argument_each world.scope h (global_event world.project name) argument f (nil_right (fault_if (not (is_some (global_event world.project name))) place unknown) _ e)
  stmt_form_each world h place (callsub name) f e = tt
  stmt_form_each world h place (call name es) f e = items_each world.scope es (list_each world.scope h es (list_is_filled es f) (nil_left (list_faults world.scope es) _ e))
  stmt_form_each world h place return f e = tt

  stmts_each : (world : World) → EachKnown world.scope.variables → (ss : Stmts) → list_all is_filled (stmts_exprs ss) ≡ true → stmts_faults world ss ≡ [] → EachStmts (EachHasCells world.scope) ss
  stmts_each world h no_stmts f e = tt
  stmts_each world h (stmts s ss) f e = (stmt_each world h s (all_left (stmt_exprs s) _ f) (nil_left (stmt_faults world s) _ e), stmts_each world h ss (all_right (stmt_exprs s) _ f) (nil_right (stmt_faults world s) _ e))

parts_each : (world : World) → EachKnown world.scope.variables → (before hs : List Handler) → list_all is_filled (flat_map (λ h. stmts_exprs h.body) hs) ≡ true → parts_faults world before hs ≡ [] → EachPartOf (EachHasCells world.scope) hs
parts_each world h before [] f e = tt
parts_each world h before (p ∷ ps) f e =
    let own = nil_left (part_name_faults world.project before p ++ stmts_faults world p.body) _ e in (
      stmts_each world h p.body (all_left (stmts_exprs p.body) _ f) (nil_right (part_name_faults world.project before p) _ own),
      parts_each world h (before ++ p ∷ []) ps (all_right (stmts_exprs p.body) _ f) (nil_right (part_name_faults world.project before p ++ stmts_faults world p.body) _ e),
    )

-- Declarations

pub one_more : (vs : List Known) (v : Known) → EachKnown vs → HasCells v.size → EachKnown (vs ++ v ∷ [])
one_more [] v h k = (k, tt)
one_more (w ∷ vs) v h k = (h.0, one_more vs v h.1 k)

taken : (b : Bool) (n : ℕ) → b ≡ true → 1 ≤ n → HasCells (if b then Some n else None)
taken true n e h = h
taken false n e h = cc

both : (a b : Bool) → a ≡ true → b ≡ true → (a && b) ≡ true
both true b p q = q
both false b p q = p

in_range : (place : Place) (v : ℤ) → size_out_of_range place (Some v) ≡ [] → HasCells (size_in_range (Some v))
in_range place (negsuc n) e = let below = no_fault true place (bad_size (pos 1) (negsuc n)) (nil_left (fault_if true place (bad_size (pos 1) (negsuc n))) _ e) in cc
in_range place (pos n) e =
    let low = ltb-false n 1 (no_fault (int_lt (pos n) (pos 1)) place (bad_size (pos 1) (pos n)) (nil_left (fault_if (int_lt (pos n) (pos 1)) place (bad_size (pos 1) (pos n))) _ e)) in
    let high = ltb-false 4096 n (no_fault (int_lt (pos 4096) (pos n)) place (bad_size (pos 4096) (pos n)) (nil_right (fault_if (int_lt (pos n) (pos 1)) place (bad_size (pos 1) (pos n))) _ e)) in
    taken (nat_lt 0 n && nat_lt n 4097) n (both (nat_lt 0 n) (nat_lt n 4097) (lt-ltb 0 n low) (lt-ltb n 4097 (omega (arith, high)))) low

declared_has_cells : (scope : Scope) → EachKnown scope.variables → (place : Place) (size : Option Expr) → list_all is_filled (option_to_list size) ≡ true → size_faults scope place size ≡ [] → HasCells (given_size scope size)
declared_has_cells scope h place None f e = omega arith
declared_has_cells scope h place (Some i) f e = valued (constant_value scope i) value (nil_right (bound_faults scope i) _ e)
  where
    bound : bound_faults scope i ≡ []
    bound = nil_left (bound_faults scope i) _ e

    value : IsSome (constant_value scope i)
    value = place_value (is_constant scope i) (zero_divisions scope i) _ _ (constant_value scope i) (size_of scope i) (record { place = first_of i; rule = not_constant }) refl
        (expr_is_good scope h i (single i f) (nil_left (expr_faults scope i) _ bound)) refl (nil_right (expr_faults scope i) _ bound)

    valued : (v : Option ℤ) → IsSome v → size_out_of_range place v ≡ [] → HasCells (size_in_range v)
    valued None s q = cc
    valued (Some v) s q = in_range place v q

pub decl_has_cells : (scope : Scope) → EachKnown scope.variables → (d : Decl) → list_all is_filled (decl_exprs d) ≡ true → decl_faults scope d ≡ [] → HasCells (given_size scope d.size)
decl_has_cells scope h d f e = declared_has_cells scope h d.place d.size (all_left (option_to_list d.size) _ f)
    (nil_right (fault_if (is_known scope d.name) d.place duplicate) _ (nil_left _ (value_faults scope d.equals (given_size scope d.size) d.value) e))

size_each : (scope : Scope) → EachKnown scope.variables → (place : Place) (size : Option Expr) → list_all is_filled (option_to_list size) ≡ true → size_faults scope place size ≡ [] → EachOption (EachHasCells scope) size
size_each scope h place None f e = tt
size_each scope h place (Some i) f e = expr_each scope h i (single i f) (nil_left (expr_faults scope i) _ (nil_left (bound_faults scope i) _ e))

value_each : (scope : Scope) → EachKnown scope.variables → (place : Place) (size : Option ℕ) (value : Option Expr) → list_all is_filled (option_to_list value) ≡ true → value_faults scope place size value ≡ [] → EachOption (EachHasCells scope) value
value_each scope h place size None f e = tt
value_each scope h place size (Some i) f e = expr_each scope h i (single i f) (nil_left (expr_faults scope i) _ e)

decls_each : (scope : Scope) → EachKnown scope.variables → (ds : List Decl) → list_all is_filled (flat_map decl_exprs ds) ≡ true → decls_faults scope ds ≡ [] → EachInDecls scope ds × EachKnown (all_declaring scope ds).variables
decls_each scope h [] f e = (tt, h)
decls_each scope h (d ∷ ds) f e =
    let own = all_left (decl_exprs d) _ f in
    let of_d = nil_left (decl_faults scope d) _ e in
    let size = nil_right (fault_if (is_known scope d.name) d.place duplicate) _ (nil_left _ (value_faults scope d.equals (given_size scope d.size) d.value) of_d) in
    let filled = all_left (option_to_list d.size) _ own in
    let rest = decls_each (declaring scope d) (one_more scope.variables _ h (declared_has_cells scope h d.place d.size filled size)) ds (all_right (decl_exprs d) _ f) (nil_right (decl_faults scope d) _ e) in (
      (
        size_each scope h d.place d.size filled size,
        value_each scope h d.equals (given_size scope d.size) d.value (all_right (option_to_list d.size) _ own) (nil_right _ (value_faults scope d.equals (given_size scope d.size) d.value) of_d),
        rest.0,
      ),
      rest.1,
    )

pub node_has_cells : (vs : List Sized) → list_all (λ v. nat_lt 0 v.size) vs ≡ true → EachKnown (map (λ v. record { name = v.name; size = Some v.size }) vs)
node_has_cells [] h = tt
node_has_cells (v ∷ vs) h = (positive v.size (both_left (nat_lt 0 v.size) _ h), node_has_cells vs (both_right (nat_lt 0 v.size) _ h))
  where
    positive : (n : ℕ) → nat_lt 0 n ≡ true → 1 ≤ n
    positive n e = ltb-true 0 n e

-- each variable of a sound source has cells, as it is known behind the declarations
pub sound_variables : (program : Program) → IsTree program.source → IsTrue (list_all (λ v. nat_lt 0 v.size) program.project.node.variables) → Sound program
    → EachInDecls (first_scope program.project) program.source.vars × EachKnown (world_of program).scope.variables
sound_variables program tree node sound =
    let none = ((sound_is_faultless program).0 sound).0 in
    let source = program.source in
    let scope = first_scope program.project in
    let init = nil_left _ (parts_faults (world_of program) [] source.parts) (nil_left _ (recursion_faults [] (sub_calls source.parts)) none) in
    let filled = all_left (flat_map decl_exprs source.vars ++ stmts_exprs source.init) _ tree.is_filled in
    decls_each scope (node_has_cells program.project.node.variables node) source.vars (all_left (flat_map decl_exprs source.vars) _ filled) (nil_left (decls_faults scope source.vars) _ init)

pub sound_has_cells : (program : Program) → SoundHasCells program
sound_has_cells program tree node sound =
    let none = ((sound_is_faultless program).0 sound).0 in
    let source = program.source in
    let scope = first_scope program.project in
    let world = world_of program in
    let parts = nil_left _ (recursion_faults [] (sub_calls source.parts)) none in
    let init = nil_left _ (parts_faults world [] source.parts) parts in
    let filled = all_left (flat_map decl_exprs source.vars ++ stmts_exprs source.init) _ tree.is_filled in
    let vars = sound_variables program tree node sound in (
      vars.0,
      stmts_each world vars.1 source.init (all_right (flat_map decl_exprs source.vars) _ filled) (nil_right (decls_faults scope source.vars) _ init),
      parts_each world vars.1 [] source.parts (all_right (flat_map decl_exprs source.vars ++ stmts_exprs source.init) _ tree.is_filled) (nil_right _ (parts_faults world [] source.parts) parts),
    )
