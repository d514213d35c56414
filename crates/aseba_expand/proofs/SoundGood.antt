-- A sound source is good.
use Rattle.std.proofs.Common.{◌≡◌, refl, sym, ◌∙◌, ap, subst, ℕ, ◌≤◌, Bool, true, false, ◌&&◌, List, [], ◌∷◌, ◌++◌, arith, Option, Some, None, map}
use Rattle.std.specs.Prelude.{IsTrue, max, filter_map, flat_map, option_to_list, nat_lt, All}
use Rattle.std.specs.List.{list_all, fold}
use Rattle.std.proofs.Math.Nat.{le-max_left, le-max_right}
use Rattle.aseba_tree.specs.Code.{Expr, all, Stmts, Decl, Handler, Sized}
use Rattle.aseba_tree.specs.State.{Program, assignment, in_front, init_code}
use Rattle.aseba_tree.specs.Sizes.{Scope, variable_of}
use Rattle.aseba_tree.specs.Faults.{fault_if, is_known, expr_faults, assignment_faults, World, stmts_faults, given_size, declaring, all_declaring, decls_faults, decl_faults, value_faults, size_faults, duplicate, parts_faults, recursion_faults, sub_calls, first_scope, world_of}
use Rattle.aseba_tree.specs.Shape.{is_filled, decl_exprs, stmts_exprs, IsTree}
use Rattle.aseba_tree.specs.Numbers.{source_room, stmts_room, greatest}
use Rattle.aseba_tree.specs.Soundness.{Sound}
use Rattle.aseba_tree.specs.Layout.{variables}
use Rattle.aseba_tree.proofs.SizeLaws.{EachKnown, nil_left, nil_right}
use Rattle.aseba_tree.proofs.SoundProofs.{all_left, all_right, sound_is_faultless, sound_variables}
use Rattle.aseba_tree.proofs.ConstantLaws.{known, same_consts, sound_is_laid_out}
use Rattle.aseba_tree.proofs.ElementLaws.{laid_scope}
use Rattle.aseba_expand.specs.Expands.{IsProject}
use Rattle.aseba_check.proofs.NumbersValues.{Extends, extends-on, extends-declaring, all-extends, same}
use Rattle.aseba_expand.proofs.Extends.{declared-known, new-name}
use Rattle.aseba_expand.proofs.Sound.{RoomParts, stmts-good, parts-good}
use Rattle.aseba_expand.proofs.Good.{GoodSource}
use Rattle.std.proofs.lemmas.Bool.{lt-ltb}
use Rattle.std.proofs.lemmas.List.Elements.{All-head, All-tail}

-- The value of a declaration as the assignment that it is

value-faultless : (scope more : Scope) (d : Decl) (e : Expr) → decl_faults scope d ≡ [] → d.value ≡ Some e → Extends (declaring scope d) more
    → assignment_faults more d.equals (record { place = d.place; name = d.name; part = all }) e ≡ []
value-faultless scope more d e k v x =
    let new = new-name scope d k in
    let all_of = extends-on scope (declaring scope d) more (extends-declaring scope d new) x in
    let declared = declared-known scope d new in
    let known_there : is_known (declaring scope d) d.name ≡ true = rw declared refl in
    let there : variable_of more d.name ≡ Some (record { name = d.name; size = given_size scope d.size }) = x.variable d.name known_there ∙ declared in
    let value : value_faults scope d.equals (given_size scope d.size) (Some e) ≡ [] = ap (value_faults scope d.equals (given_size scope d.size)) (sym v) ∙ nil_right (fault_if (is_known scope d.name) d.place duplicate ++ size_faults scope d.place d.size) _ k in
    let own = nil_left (expr_faults scope e) _ value in
    let alike = same scope more all_of e own in
    rw (there, alike.faults, alike.size, own) (nil_right (expr_faults scope e) _ value)

init-faultless : (world : World) (scope : Scope) (ds : List Decl) (ss : Stmts) → decls_faults scope ds ≡ [] → world.scope ≡ all_declaring scope ds → stmts_faults world ss ≡ [] → stmts_faults world (in_front (filter_map assignment ds) ss) ≡ []
init-faultless world scope [] ss k e f = f
init-faultless world scope (d ∷ ds) ss k e f = by d.value refl (init-faultless world (declaring scope d) ds ss (nil_right (decl_faults scope d) _ k) e f)
  where
    by : (o : Option Expr) → d.value ≡ o → stmts_faults world (in_front (filter_map assignment ds) ss) ≡ [] → stmts_faults world (in_front (filter_map assignment (d ∷ ds)) ss) ≡ []
    by None v rest = rw v rest
    by (Some i) v rest =
        let own = value-faultless scope (all_declaring scope (d ∷ ds)) d i (nil_left (decl_faults scope d) _ k) v (all-extends (declaring scope d) ds (nil_right (decl_faults scope d) _ k)) in
        let here : assignment_faults world.scope d.equals (record { place = d.place; name = d.name; part = all }) i ≡ [] = ap (λ s. assignment_faults s d.equals (record { place = d.place; name = d.name; part = all }) i) e ∙ own in
        rw v (rw here rest)

init-filled : (ds : List Decl) (ss : Stmts) → list_all is_filled (flat_map decl_exprs ds) ≡ true → list_all is_filled (stmts_exprs ss) ≡ true → list_all is_filled (stmts_exprs (in_front (filter_map assignment ds) ss)) ≡ true
init-filled [] ss f g = g
init-filled (d ∷ ds) ss f g = by d.value refl (init-filled ds ss (all_right (decl_exprs d) _ f) g)
  where
    own : list_all is_filled (option_to_list d.value) ≡ true
    own = all_right (option_to_list d.size) _ (all_left (decl_exprs d) _ f)

    by : (o : Option Expr) → d.value ≡ o → list_all is_filled (stmts_exprs (in_front (filter_map assignment ds) ss)) ≡ true → list_all is_filled (stmts_exprs (in_front (filter_map assignment (d ∷ ds)) ss)) ≡ true
    by None v rest = rw v rest
    by (Some i) v rest =
        let filled : (is_filled i && true) ≡ true = subst (λ o. list_all is_filled (option_to_list o) ≡ true) v own in
        rw v (joined (is_filled i) _ filled rest)
      where
        joined : (a b : Bool) → (a && true) ≡ true → b ≡ true → (a && b) ≡ true
        joined true b p q = q
        joined false b p q = p

-- Temporaries

max-start : (a : ℕ) (ns : List ℕ) → a ≤ fold max a ns
max-start a [] = omega arith
max-start a (n ∷ ns) = let up = le-max_left a n in let rest = max-start (max a n) ns in omega (arith, up, rest)

parts-room : (program : Program) (a : ℕ) (hs : List Handler) → fold max a (map (λ h. stmts_room program h.body) hs) ≤ source_room program → RoomParts program hs
parts-room program a [] h = tt
parts-room program a (p ∷ ps) h =
    let own = stmts_room program p.body in
    let up = le-max_right a own in
    let rest = max-start (max a own) (map (λ h. stmts_room program h.body) ps) in
    (omega (arith, up, rest, h), parts-room program (max a own) ps h)

-- Sources

pub node-cells : (vs : List Sized) → All (λ v. 1 ≤ v.size) vs → IsTrue (list_all (λ v. nat_lt 0 v.size) vs)
node-cells [] h = refl
node-cells (v ∷ vs) h = rw (lt-ltb 0 v.size (All-head (λ v. 1 ≤ v.size) v vs h)) (node-cells vs (All-tail (λ v. 1 ≤ v.size) v vs h))

-- what a sound source knows behind its declarations is what is laid out
scope-laid : (program : Program) → (world_of program).scope.variables ≡ map known (variables program) → (world_of program).scope ≡ laid_scope program
scope-laid program e = λ i. record { consts = same_consts (first_scope program.project) program.source.vars i; variables = e i }

pub sound-good : (program : Program) → IsProject program.project → IsTree program.source → Sound program → GoodSource program
sound-good program few tree sound =
    let node = node-cells program.project.node.variables few.sizes in
    let none = ((sound_is_faultless program).0 sound).0 in
    let source = program.source in
    let scope = first_scope program.project in
    let world = world_of program in
    let laid = scope-laid program (sound_is_laid_out program tree node sound) in
    let known_cells : EachKnown (laid_scope program).variables = subst (λ s. EachKnown s.variables) laid (sound_variables program tree node sound).1 in
    let before_calls = nil_left _ (recursion_faults [] (sub_calls source.parts)) none in
    let before_parts = nil_left _ (parts_faults world [] source.parts) before_calls in
    let decls = nil_left (decls_faults scope source.vars) _ before_parts in
    let init = init-faultless world scope source.vars source.init decls refl (nil_right (decls_faults scope source.vars) _ before_parts) in
    let parts = nil_right _ (parts_faults world [] source.parts) before_calls in
    let filled_init = all_left (flat_map decl_exprs source.vars ++ stmts_exprs source.init) _ tree.is_filled in
    let filled = init-filled source.vars source.init (all_left (flat_map decl_exprs source.vars) _ filled_init) (all_right (flat_map decl_exprs source.vars) _ filled_init) in
    let left = le-max_left (stmts_room program (init_code source)) (greatest (map (λ h. stmts_room program h.body) source.parts)) in
    let right = le-max_right (stmts_room program (init_code source)) (greatest (map (λ h. stmts_room program h.body) source.parts)) in
    record {
      init = stmts-good program world.subs few known_cells (init_code source) filled (subst (λ s. stmts_faults (record { scope = s; project = program.project; subs = world.subs }) (init_code source) ≡ []) laid init) left;
      parts = parts-good program world.subs few known_cells [] source.parts (all_right (flat_map decl_exprs source.vars ++ stmts_exprs source.init) _ tree.is_filled)
          (subst (λ s. parts_faults (record { scope = s; project = program.project; subs = world.subs }) [] source.parts ≡ []) laid parts) (parts-room program 0 source.parts right);
    }
