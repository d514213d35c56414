-- Stores of single cells, on both sides.
use Rattle.std.proofs.Common.{◌≡◌, refl, sym, ◌∙◌, ap, ℕ, ◌+◌, ◌-◌, ◌≤◌, ◌<◌, false, ℤ, pos, List, ◌∷◌, ◌++◌, arith, Option, Some, None, length, append_assoc, length-append}
use Rattle.std.specs.Prelude.{Ok, nat_le, slice_index_or, slice_set}
use Rattle.std.proofs.lemmas.Bool.{lt-leb}
use Rattle.std.proofs.lemmas.List.{set-append_left, set-append_right, get_or-append-add}
use Rattle.aseba_tree.specs.Code.{Name}
use Rattle.aseba_tree.specs.Core.{core_stmt, store}
use Rattle.aseba_tree.specs.CoreExpr.{CoreExpr, cell, into, core_value}
use Rattle.aseba_tree.specs.CoreStep.{CoreTask, perform_core, core_first_done}
use Rattle.aseba_tree.specs.Elements.{variable_place}
use Rattle.aseba_tree.specs.Layout.{variables, cells_of_variables}
use Rattle.aseba_tree.specs.State.{Program, State, Task, put}
use Rattle.aseba_tree.specs.Step.{stored, done}
use Rattle.aseba_tree.specs.Value.{Cells, put_cell}
use Rattle.aseba_expand.specs.Expands.{all_cells_of}
use Rattle.aseba_expand.specs.Plain.{plain_program}
use Rattle.aseba_expand.proofs.Alike.{SteppedAlike, WorkAlike}
use Rattle.aseba_expand.proofs.Cells.{Laid, standing, laid-put}
use Rattle.aseba_expand.proofs.Ends.{twin, Sturdy, alike-twin, with-work}
use Rattle.aseba_expand.proofs.Kept.{laid-length}
use Rattle.aseba_expand.proofs.Values.{with_room}

set-between : (pre own post : List ℤ) (i : ℕ) (v : ℤ) → i < length own → slice_set (pre ++ (own ++ post)) (length pre + i) v ≡ pre ++ (slice_set own i v ++ post)
set-between pre own post i v h =
    let up : length pre ≤ length pre + i = omega arith in
    let back : length pre + i - length pre ≡ i = omega arith in
    set-append_right pre (own ++ post) (length pre) (length pre + i) v refl up ∙ ap (λ k. pre ++ slice_set (own ++ post) k v) back ∙ ap (λ l. pre ++ l) (set-append_left own post i v h)

-- A cell of a variable is below the temporaries, and what is stored there is stored in the variable.
pub record CellPlace (program : Program) (cells : Cells) (temporaries : List ℤ) (name : Name) (a i : ℕ) : Type 0 where
  pub below : nat_le (cells_of_variables program) (a + i) ≡ false
  pub sets : (v : ℤ) → slice_set (with_room cells temporaries) (a + i) v ≡ with_room (put_cell cells name i v) temporaries

pub place_of : (program : Program) (cells : Cells) (temporaries : List ℤ) (name : Name) (a n i : ℕ) → Laid cells (variables program) → variable_place program name ≡ Some (a, n) → i < n → CellPlace program cells temporaries name a i
place_of program cells temporaries name a n i h e less =
    let s = standing cells (variables program) 0 name a n h e in
    let at : a + i ≡ length s.pre + i = omega (arith, s.at) in
    let short : i < length s.own = omega (arith, s.size, less) in
    let long : length s.pre + (length s.own + length s.post) ≡ cells_of_variables program =
    sym (ap length s.whole ∙ length-append s.pre (s.own ++ s.post) ∙ ap (λ k. length s.pre + k) (length-append s.own s.post)) ∙ laid-length cells (variables program) h in
    let whole : with_room cells temporaries ≡ s.pre ++ (s.own ++ (s.post ++ temporaries)) =
    ap (λ l. l ++ temporaries) s.whole ∙ append_assoc s.pre (s.own ++ s.post) temporaries ∙ ap (λ l. s.pre ++ l) (append_assoc s.own s.post temporaries) in
    record {
      below = lt-leb (cells_of_variables program) (a + i) (let less : a + i < cells_of_variables program = omega (arith, at, short, long) in less);
      sets = λ v.
          ap (λ l. slice_set l (a + i) v) whole ∙ ap (λ k. slice_set (s.pre ++ (s.own ++ (s.post ++ temporaries))) k v) at ∙ set-between s.pre s.own (s.post ++ temporaries) i v short
          ∙ sym (ap (λ l. l ++ temporaries) (s.put i v) ∙ append_assoc s.pre (slice_set s.own i v ++ s.post) temporaries ∙ ap (λ l. s.pre ++ l) (append_assoc (slice_set s.own i v) s.post temporaries));
    }

pub stored-sturdy : (program : Program) (s : State) (temporaries : List ℤ) (name : Name) (i : ℕ) (v : ℤ) → Sturdy program s temporaries → Sturdy program (stored s name i v) temporaries
stored-sturdy program s temporaries name i v h = record { laid = laid-put s.cells (variables program) name i v h.laid; held_laid = h.held_laid; room = h.room }

-- a store in a cell of a variable is an effect of its own
pub core-store : (program : Program) (s : State) (temporaries : List ℤ) (held_behind : List (Option ℤ)) (work rest : List CoreTask) (name : Name) (a n i before line : ℕ) (e : CoreExpr) (v : ℤ)
    → Sturdy program s temporaries → variable_place program name ≡ Some (a, n) → i < n → core_value (with_room s.cells temporaries) e ≡ Ok v
    → core_first_done (plain_program program) (twin s temporaries held_behind work) (perform_core before (core_stmt line (store (into (a + i)) e)) ∷ rest)
    ≡ record { state = twin (stored s name i v) temporaries held_behind rest; report = None }
core-store program s temporaries held_behind work rest name a n i before line e v h at less k =
    let p = place_of program s.cells temporaries name a n i h.laid at less in
    rw (p.below, k, p.sets v) refl

-- a computed cell that is stored, on both sides
pub put-alike : (program : Program) (s : State) (temporaries : List ℤ) (held_behind : List (Option ℤ)) (work core_work : List CoreTask) (line : ℕ) (name : Name) (place : ℕ) (v : ℤ) (rest : List Task)
    → Sturdy program s temporaries → WorkAlike program temporaries (put line name place v ∷ rest) core_work
    → SteppedAlike program (done program (record s { work = rest }) (put line name place v)) (core_first_done (plain_program program) (twin s temporaries held_behind work) core_work)
put-alike program s temporaries held_behind work core_work line name place v rest h w =
    let value : core_value (with_room s.cells temporaries) (cell (cells_of_variables program + w.k)) ≡ Ok v =
    ap Ok (ap (λ n. slice_index_or (with_room s.cells temporaries) (n + w.k) (pos 0)) (sym (laid-length s.cells (variables program) h.laid)) ∙ get_or-append-add (all_cells_of s.cells) temporaries w.k (pos 0) ∙ w.value) in
    let after = core-store program s temporaries held_behind work w.rest name w.base w.size place w.before line (cell (cells_of_variables program + w.k)) v h w.at w.inside value in
    let t : State = stored (record s { work = rest }) name place v in
    rw (w.first, after) (record {
      states = alike-twin program t temporaries held_behind w.rest (stored-sturdy program (record s { work = rest }) temporaries name place v (with-work program s temporaries rest h)) w.behind;
      reports = refl;
    })
