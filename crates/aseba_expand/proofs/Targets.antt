-- Assignments to what a target names, on both sides.
use Rattle.std.proofs.Common.{◌≡◌, refl, sym, ◌∙◌, ap, subst, ℕ, zero, suc, ◌+◌, ◌-◌, ◌<◌, true, false, Bool, ℤ, List, [], ◌∷◌, arith, Option, Some, None, length, map}
use Rattle.std.specs.List.{range_with_len}
use Rattle.std.specs.Prelude.{nat_le}
use Rattle.std.proofs.lemmas.Bool.{leb-true, leb-false}
use Rattle.std.proofs.lemmas.List.FromFn.{length-range_with_len}
use Rattle.aseba_tree.specs.Code.{Name, Expr, Part, all, at, span, Target, Place}
use Rattle.aseba_tree.specs.CoreExpr.{CoreExpr, core_value}
use Rattle.aseba_tree.specs.CoreStep.{CoreTask, core_first_done}
use Rattle.aseba_tree.specs.Elements.{variable_place, elements_of, element_of}
use Rattle.aseba_tree.specs.State.{Program, State, Task}
use Rattle.aseba_tree.specs.Step.{assigned, part_places, places}
use Rattle.aseba_tree.specs.Value.{Element, first_stop, elements, one_element, variable_cells, from_to}
use Rattle.aseba_expand.specs.Plain.{bound, plain_program}
use Rattle.aseba_expand.proofs.Alike.{SteppedAlike}
use Rattle.aseba_expand.proofs.Assigned.{Below, range-below, cells-assigned, index-assigned}
use Rattle.aseba_expand.proofs.Ends.{twin, Sturdy}
use Rattle.aseba_expand.proofs.Ready.{IsThere, Reaches, Grounded, IsAlone, IsSized, ReadyPart, ReadyTasks}
use Rattle.aseba_expand.proofs.Tasks.{work_core, assigning_tasks, target_of}
use Rattle.aseba_expand.proofs.Values.{with_room, reading, values-alike}

pub range-moved : (a c count : ℕ) → range_with_len (a + c) count ≡ map (λ p. a + p) (range_with_len c count)
range-moved a c zero = refl
range-moved a c (suc count) = let e : a + c + 1 ≡ a + (c + 1) = omega arith in ap (λ l. (a + c) ∷ l) (ap (λ k. range_with_len k count) e ∙ range-moved a (c + 1) count)

-- the places from one to another lie in a variable that the last of them reaches
pub reaches-below : (n c d : ℕ) → d < n → Below n (from_to c d)
reaches-below n c d h = by (nat_le c d) refl
  where
    by : (b : Bool) → nat_le c d ≡ b → Below n (range_with_len c (d + 1 - c))
    by true t = range-below n c (d + 1 - c) (let up = leb-true c d t in omega (arith, h, up))
    by false t = let down = leb-false c d t in let none : d + 1 - c ≡ 0 = omega (arith, down) in subst (λ k. Below n (range_with_len c k)) (sym none) tt

one-element : (cells : List ℤ) (es : List CoreExpr) (vs : List Element) → IsAlone es → map (core_value cells) es ≡ vs → (e : CoreExpr) × (es ≡ e ∷ []) × (vs ≡ core_value cells e ∷ [])
one-element cells [] vs g k = absurd g
one-element cells (e ∷ []) vs g k = (e, refl, sym k)
one-element cells (e ∷ f ∷ es) vs g k = absurd g

index-element : (program : Program) (s : State) (temporaries : List ℤ) (i : Expr) → Sturdy program s temporaries → Grounded program i → IsAlone (elements_of program i)
    → one_element (elements program.project.consts s.cells i) ≡ core_value (with_room s.cells temporaries) (element_of program i)
index-element program s temporaries i h g k =
    let one = one-element (with_room s.cells temporaries) (elements_of program i) (elements program.project.consts s.cells i) k (values-alike program s.cells temporaries i h.laid g) in
    of one.0 one.1 one.2
  where
    of : (e : CoreExpr) → elements_of program i ≡ e ∷ [] → elements program.project.consts s.cells i ≡ core_value (with_room s.cells temporaries) e ∷ []
        → one_element (elements program.project.consts s.cells i) ≡ core_value (with_room s.cells temporaries) (element_of program i)
    of e he hv = rw (he, hv) refl

at-assigned : (program : Program) (s : State) (temporaries : List ℤ) (held_behind : _) (work : List CoreTask) (rest : List Task) (line before : ℕ) (place : Place) (name : Name) (a n : ℕ) (i : Expr) (e : CoreExpr) (es : List CoreExpr) (vs : List Element)
    → Sturdy program s temporaries → variable_place program name ≡ Some (a, n) → ReadyTasks program rest → Grounded program i → IsAlone (elements_of program i)
    → es ≡ e ∷ [] → vs ≡ core_value (with_room s.cells temporaries) e ∷ []
    → SteppedAlike program (assigned line (record s { work = rest }) name (first_stop vs) (part_places program.project.consts s.cells (length (variable_cells s.cells name)) (at i)))
    (core_first_done (plain_program program) (twin s temporaries held_behind work) (assigning_tasks program before line (target_of place name (at i)) es (work_core program rest)))
at-assigned program s temporaries held_behind work rest line before place name a n i e es vs h there k gi one he hv =
    let r = reading program s.cells temporaries name a n h.laid there in
    rw (there, r.found, r.size, he, hv, index-element program s temporaries i h gi one)
    (index-assigned program s temporaries held_behind work rest line before name a n (element_of program i) e (core_value (with_room s.cells temporaries) (element_of program i)) (core_value (with_room s.cells temporaries) e) h there k refl refl)

part-assigned : (program : Program) (s : State) (temporaries : List ℤ) (held_behind : _) (work : List CoreTask) (rest : List Task) (line before : ℕ) (here : Place) (name : Name) (part : Part) (place : Option (ℕ × ℕ)) (es : List CoreExpr) (vs : List Element)
    → Sturdy program s temporaries → variable_place program name ≡ place → ReadyPart program name part es → ReadyTasks program rest
    → ((t : List ℤ) → map (core_value (with_room s.cells t)) es ≡ vs)
    → SteppedAlike program (assigned line (record s { work = rest }) name (first_stop vs) (part_places program.project.consts s.cells (length (variable_cells s.cells name)) part))
    (core_first_done (plain_program program) (twin s temporaries held_behind work) (assigning_tasks program before line (target_of here name part) es (work_core program rest)))
part-assigned program s temporaries held_behind work rest line before here name all None es vs h e g k kv = absurd (subst (λ o. IsSized o (length es)) e g.0)
part-assigned program s temporaries held_behind work rest line before here name all (Some p) es vs h e g k kv =
    let size : p.1 ≡ length es = subst (λ o. IsSized o (length es)) e g.0 in
    let r = reading program s.cells temporaries name p.0 p.1 h.laid e in
    let long : length (range_with_len 0 p.1) ≡ length es = length-range_with_len 0 p.1 ∙ size in
    let a : p.0 + 0 ≡ p.0 = omega arith in
    rw (e, r.found, r.size, ← a, range-moved p.0 0 p.1) (cells-assigned program s temporaries held_behind work rest line before name p.0 p.1 (range_with_len 0 p.1) es vs h e (range-below p.1 0 p.1 (omega arith)) long g.1 k kv)
part-assigned program s temporaries held_behind work rest line before here name (at i) None es vs h e g k kv = absurd (subst IsThere e g.0)
part-assigned program s temporaries held_behind work rest line before here name (at i) (Some p) es vs h e g k kv =
    let one = one-element (with_room s.cells temporaries) es vs g.3 (kv temporaries) in
    at-assigned program s temporaries held_behind work rest line before here name p.0 p.1 i one.0 es vs h e k g.1 g.2 one.1 one.2
part-assigned program s temporaries held_behind work rest line before here name (span c d) None es vs h e g k kv = absurd (subst (λ o. Reaches o (bound program d)) e g.0)
part-assigned program s temporaries held_behind work rest line before here name (span c d) (Some p) es vs h e g k kv =
    let up : bound program d < p.1 = subst (λ o. Reaches o (bound program d)) e g.0 in
    rw e (cells-assigned program s temporaries held_behind work rest line before name p.0 p.1 (from_to (bound program c) (bound program d)) es vs h e (reaches-below p.1 (bound program c) (bound program d) up) g.1 g.2 k kv)

-- elements with these values that are assigned to what a target names
pub target-assigned : (program : Program) (s : State) (temporaries : List ℤ) (held_behind : _) (work : List CoreTask) (rest : List Task) (line before : ℕ) (target : Target) (es : List CoreExpr) (vs : List Element)
    → Sturdy program s temporaries → ReadyPart program target.name target.part es → ReadyTasks program rest
    → ((t : List ℤ) → map (core_value (with_room s.cells t)) es ≡ vs)
    → SteppedAlike program (assigned line (record s { work = rest }) target.name (first_stop vs) (places program.project.consts s.cells target))
    (core_first_done (plain_program program) (twin s temporaries held_behind work) (assigning_tasks program before line target es (work_core program rest)))
target-assigned program s temporaries held_behind work rest line before target es vs h g k kv =
    part-assigned program s temporaries held_behind work rest line before target.place target.name target.part (variable_place program target.name) es vs h refl g k kv
