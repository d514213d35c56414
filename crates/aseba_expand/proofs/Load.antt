-- The states after loading, on both sides.
use Rattle.std.proofs.Common.{◌≡◌, refl, sym, ◌∙◌, ap, subst, ℕ, zero, suc, ◌+◌, true, false, Bool, ℤ, pos, List, [], ◌∷◌, ◌++◌, arith, Option, Some, None, length, map, take, replicate}
use Rattle.std.specs.Prelude.{if◌then◌else◌, bytes_eq, slice_set, sum_by, codes}
use Rattle.std.proofs.lemmas.Grind.{common_steps}
use Rattle.std.proofs.lemmas.List.{map-append}
use Rattle.std.proofs.lemmas.List.Sums.{sum_by-cons}
use Rattle.aseba_words.specs.Cell.{wrapped}
use Rattle.aseba_tree.specs.Code.{Name, Sized, Handler}
use Rattle.aseba_tree.specs.Core.{CorePart, no_core}
use Rattle.aseba_tree.specs.CoreStep.{finish_core, core_tasks, core_list_whens, whens_before, core_loaded, put_into}
use Rattle.aseba_tree.specs.Layout.{address_from, address_of, variables, cells_of_variables}
use Rattle.aseba_tree.specs.Numbers.{source_room}
use Rattle.aseba_tree.specs.State.{Program, Task, finish, tasks, list_whens, all_whens, init_code, node_variables, declared, zeros, loaded}
use Rattle.aseba_tree.specs.Value.{Cells, put_cell}
use Rattle.aseba_expand.specs.Expands.{all_cells_of}
use Rattle.aseba_expand.specs.Plain.{plain_part, plain_core, all_plain, plain_program}
use Rattle.aseba_expand.proofs.Alike.{Alike, WorkAlike}
use Rattle.aseba_expand.proofs.Arrivals.{front-address}
use Rattle.aseba_expand.proofs.Cells.{Laid, laid-put}
use Rattle.aseba_expand.proofs.Ends.{nothing, none-flat, laid-none}
use Rattle.aseba_expand.proofs.Ready.{Ready}
use Rattle.aseba_expand.proofs.Rows.{ready-tasks}
use Rattle.aseba_expand.proofs.Steps.{settled, ready-append}
use Rattle.aseba_expand.proofs.Tasks.{work_core, work-append, body-onto, body-whens}
use Rattle.aseba_expand.proofs.Writes.{puts-alike, put-nowhere}

laid-zeros : (ds : List Sized) → Laid (zeros ds) ds
laid-zeros [] = tt
laid-zeros (d ∷ ds) = (refl, grind (arith, common_steps), laid-zeros ds)

laid-append : (xs ys : Cells) (ds es : List Sized) → Laid xs ds → Laid ys es → Laid (xs ++ ys) (ds ++ es)
laid-append [] ys [] es h k = k
laid-append [] ys (d ∷ ds) es h k = absurd h
laid-append (x ∷ xs) ys [] es h k = absurd h
laid-append (x ∷ xs) ys (d ∷ ds) es h k = (h.0, h.1, laid-append xs ys ds es h.2 k)

replicate-more : (m n : ℕ) → replicate m (pos 0) ++ replicate n (pos 0) ≡ replicate (m + n) (pos 0)
replicate-more zero n = rw (let e : 0 + n ≡ n = omega arith in e) refl
replicate-more (suc m) n = rw (let e : suc m + n ≡ suc (m + n) = omega arith in e) (ap (λ t. pos 0 ∷ t) (replicate-more m n))

flat-zeros : (ds : List Sized) → all_cells_of (zeros ds) ≡ replicate (sum_by (λ v. v.size) ds) (pos 0)
flat-zeros [] = refl
flat-zeros (d ∷ ds) =
    ap (λ t. replicate d.size (pos 0) ++ t) (flat-zeros ds) ∙ replicate-more d.size (sum_by (λ v. v.size) ds)
    ∙ ap (λ n. replicate n (pos 0)) (sym (sum_by-cons (λ v. v.size) d ds))

-- a variable among the first ones is put there
front-put : (xs ys : Cells) (ds : List Sized) (base : ℕ) (name : Name) (p : ℕ × ℕ) (v : ℤ) → Laid xs ds → address_from base ds name ≡ Some p → put_cell (xs ++ ys) name 0 v ≡ put_cell xs name 0 v ++ ys
front-put [] ys [] base name p v h e = cc
front-put [] ys (d ∷ ds) base name p v h e = absurd h
front-put (x ∷ xs) ys [] base name p v h e = absurd h
front-put (x ∷ xs) ys (d ∷ ds) base name p v h e = rw h.0 (pick (front-put xs ys ds (base + d.size) name p v h.2) (bytes_eq d.name name) e)
  where
    pick : (address_from (base + d.size) ds name ≡ Some p → put_cell (xs ++ ys) name 0 v ≡ put_cell xs name 0 v ++ ys) → (b : Bool) → (if b then Some (base, d.size) else address_from (base + d.size) ds name) ≡ Some p
        → (if b then (d.name, slice_set x.1 0 v) ∷ (xs ++ ys) else (d.name, x.1) ∷ put_cell (xs ++ ys) name 0 v) ≡ (if b then (d.name, slice_set x.1 0 v) ∷ xs else (d.name, x.1) ∷ put_cell xs name 0 v) ++ ys
    pick deeper true e = refl
    pick deeper false e = ap (λ l. (d.name, x.1) ∷ l) (deeper e)

-- a value in the first cell of a variable of the node
node-put : (program : Program) (tail : List ℤ) (name : Name) (v : ℤ)
    → put_into (address_of (node_variables program.project) name) 0 (v ∷ []) (all_cells_of (zeros (variables program)) ++ tail) ≡ all_cells_of (put_cell (zeros (node_variables program.project)) name 0 v ++ zeros (declared program)) ++ tail
node-put program tail name v = pick (address_of (node_variables program.project) name) refl
  where
    split : zeros (variables program) ≡ zeros (node_variables program.project) ++ zeros (declared program)
    split = map-append (λ (w : Sized). (w.name, replicate w.size (pos 0))) (node_variables program.project) (declared program)

    pick : (o : Option (ℕ × ℕ)) → address_of (node_variables program.project) name ≡ o
        → put_into o 0 (v ∷ []) (all_cells_of (zeros (variables program)) ++ tail) ≡ all_cells_of (put_cell (zeros (node_variables program.project)) name 0 v ++ zeros (declared program)) ++ tail
    pick None e = ap (λ c. all_cells_of c ++ tail) (split ∙ ap (λ c. c ++ zeros (declared program)) (sym (put-nowhere (zeros (node_variables program.project)) (node_variables program.project) 0 name 0 v (laid-zeros (node_variables program.project)) e)))
    pick (Some p) e =
        let whole : address_of (variables program) name ≡ Some p = front-address (node_variables program.project) (declared program) 0 name p e in
        ap (λ o. put_into o 0 (v ∷ []) (all_cells_of (zeros (variables program)) ++ tail)) (sym whole)
        ∙ puts-alike (zeros (variables program)) (variables program) tail name 0 (v ∷ []) (laid-zeros (variables program))
        ∙ ap (λ c. all_cells_of (put_cell c name 0 v) ++ tail) split
        ∙ ap (λ c. all_cells_of c ++ tail) (front-put (zeros (node_variables program.project)) (zeros (declared program)) (node_variables program.project) 0 name p v (laid-zeros (node_variables program.project)) e)

-- Bits

parts-whens : (program : Program) (hs : List Handler) → sum_by (λ p. core_list_whens p.body) (take (length (map (plain_part program) hs)) (map (plain_part program) hs)) ≡ sum_by (λ h. list_whens h.body) hs
parts-whens program [] = refl
parts-whens program (h ∷ hs) =
    sum_by-cons (λ (p : CorePart). core_list_whens p.body) (plain_part program h) (take (length (map (plain_part program) hs)) (map (plain_part program) hs))
    ∙ (let a = body-whens program h.body in let b = parts-whens program hs in let c = sum_by-cons (λ (h : Handler). list_whens h.body) h hs in omega (arith, a, b, c))

all-bits : (program : Program) → whens_before (plain_core program) (length (plain_core program).parts) ≡ all_whens program.source
all-bits program = let a = body-whens program (init_code program.source) in let b = parts-whens program program.source.parts in omega (arith, a, b)

-- the states after loading are alike
pub loaded-alike : (program : Program) → Ready program → Alike program (loaded program) (core_loaded (plain_program program))
unfolding loaded core_loaded
loaded-alike program all =
    let id = wrapped (pos program.project.id) in
    let ds = variables program in
    let tail = replicate (source_room program) (pos 0) in
    let cells : Cells = put_cell (zeros (node_variables program.project)) (codes "_id") 0 id ++ zeros (declared program) in
    let flat : put_into (address_of (node_variables program.project) (codes "_id")) 0 (id ∷ []) (replicate (cells_of_variables program + source_room program) (pos 0)) ≡ all_cells_of cells ++ tail =
    ap (put_into (address_of (node_variables program.project) (codes "_id")) 0 (id ∷ [])) (sym (ap (λ l. l ++ tail) (flat-zeros ds) ∙ replicate-more (cells_of_variables program) (source_room program))) ∙ node-put program tail (codes "_id") id in
    let laid : Laid cells ds = laid-append (put_cell (zeros (node_variables program.project)) (codes "_id") 0 id) (zeros (declared program)) (node_variables program.project) (declared program)
    (laid-put (zeros (node_variables program.project)) (node_variables program.project) (codes "_id") 0 id (laid-zeros (node_variables program.project))) (laid-zeros (declared program)) in
    let ts : List Task = tasks 0 (init_code program.source) ++ finish 1 ∷ [] in
    let work : core_tasks 0 (all_plain program (init_code program.source) no_core) ++ finish_core 1 ∷ [] ≡ work_core program ts =
    body-onto program 0 (init_code program.source) (finish_core 1 ∷ []) ∙ sym (work-append program (tasks 0 (init_code program.source)) (finish 1 ∷ []) []) in
    record {
      temporaries = tail;
      held_behind = map nothing tail;
      laid = laid;
      held_laid = laid-none cells ds laid;
      cells = flat;
      held = ap (map nothing) flat ∙ none-flat cells tail;
      room = grind (arith, common_steps);
      bits = ap (λ n. replicate n false) (all-bits program);
      active = refl;
      paused = refl;
      work = subst (λ w. WorkAlike program tail ts w) (sym work) (settled program tail ts (ready-append program (tasks 0 (init_code program.source)) (finish 1 ∷ []) (ready-tasks program 0 (init_code program.source) all.init) (tt, tt)));
    }
