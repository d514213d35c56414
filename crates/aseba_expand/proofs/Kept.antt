-- Elements that are put into temporaries, one after the other.
use Rattle.std.proofs.Common.{◌≡◌, refl, ◌∙◌, ap, subst, ℕ, suc, ◌+◌, ◌-◌, ◌≤◌, ℤ, pos, List, [], ◌∷◌, ◌++◌, arith, Some, length, map, length-append}
use Rattle.std.specs.Prelude.{Result, Ok, Err, slice_set, sum_by}
use Rattle.std.proofs.lemmas.Bool.{le-leb}
use Rattle.std.proofs.lemmas.List.{set-append_right, length-set}
use Rattle.std.proofs.lemmas.List.Sums.{sum_by-cons}
use Rattle.aseba_tree.specs.Code.{Sized}
use Rattle.aseba_tree.specs.Core.{core_stmt, store}
use Rattle.aseba_tree.specs.CoreExpr.{CoreExpr, into, core_value}
use Rattle.aseba_tree.specs.CoreStep.{CoreProgram, CoreState, CoreStepped, CoreTask, perform_core, core_stopped, temporary, core_first_done, put_from}
use Rattle.aseba_tree.specs.Layout.{variables, cells_of_variables}
use Rattle.aseba_tree.specs.State.{Program}
use Rattle.aseba_tree.specs.Value.{Named, Cells, Stop, Element, and_then, first_stop}
use Rattle.aseba_expand.specs.Expands.{all_cells_of}
use Rattle.aseba_expand.specs.Plain.{plain_program}
use Rattle.aseba_expand.proofs.Cells.{Laid}
use Rattle.aseba_expand.proofs.Tasks.{kept_tasks}
use Rattle.aseba_expand.proofs.Values.{with_room}

pub laid-length : {A : Type 0} (cells : Named A) (ds : List Sized) → Laid cells ds → length (all_cells_of cells) ≡ sum_by (λ v. v.size) ds
laid-length [] [] h = refl
laid-length [] (d ∷ ds) h = absurd h
laid-length (v ∷ vs) [] h = absurd h
laid-length (v ∷ vs) (d ∷ ds) h = let inner = laid-length vs ds h.2 in omega (arith, length-append v.1 (all_cells_of vs), inner, h.1, sum_by-cons (λ v. v.size) d ds)

-- a value stored in a temporary
pub set-room : (program : Program) (cells : Cells) (temporaries : List ℤ) (j : ℕ) (v : ℤ) → Laid cells (variables program)
    → slice_set (with_room cells temporaries) (cells_of_variables program + j) v ≡ with_room cells (slice_set temporaries j v)
set-room program cells temporaries j v h =
    let up : cells_of_variables program ≤ cells_of_variables program + j = omega arith in
    let back : cells_of_variables program + j - cells_of_variables program ≡ j = omega arith in
    set-append_right (all_cells_of cells) temporaries (cells_of_variables program) (cells_of_variables program + j) v (laid-length cells (variables program) h) up
    ∙ ap (λ i. all_cells_of cells ++ slice_set temporaries i v) back

-- the state with these temporaries
abbrev pub roomed : Cells → CoreState → List ℤ → CoreState
roomed cells s temporaries = record s { cells = with_room cells temporaries }

-- What comes of keeping elements: a stop, with some temporaries; or their values in temporaries, and what follows.
abbrev pub KeptRun : CoreProgram → (line : ℕ) → Cells → CoreState → (j : ℕ) → List ℤ → List CoreTask → CoreStepped → Result (List ℤ) Stop → Type 0
KeptRun program line cells s j temporaries after result (Err stop) =
    (more : List ℤ) × (length more ≡ length temporaries) × (result ≡ core_stopped line (roomed cells s more) stop)
KeptRun program line cells s j temporaries after result (Ok values) = result ≡ core_first_done program (roomed cells s (put_from temporaries j values)) after

pub is-temporary : (c j before line : ℕ) (e : CoreExpr) → temporary c (perform_core before (core_stmt line (store (into (c + j)) e))) ≡ Some (line, c + j, e)
is-temporary c j before line e = let up : c ≤ c + j = omega arith in rw (le-leb c (c + j) up) refl

abbrev pub first_element : List Element → Element
first_element [] = Ok (pos 0)
first_element (x ∷ xs) = x

abbrev pub other_elements : List Element → List Element
other_elements [] = []
other_elements (x ∷ xs) = xs

more-kept : (program : Program) (line : ℕ) (cells : Cells) (s : CoreState) (j : ℕ) (temporaries : List ℤ) (x : ℤ) (after : List CoreTask) (result : CoreStepped) (r : Result (List ℤ) Stop)
    → KeptRun (plain_program program) line cells s (suc j) (slice_set temporaries j x) after result r
    → KeptRun (plain_program program) line cells s j temporaries after result (and_then r (λ vs. Ok (x ∷ vs)))
more-kept program line cells s j temporaries x after result (Err stop) m = (m.0, m.1 ∙ length-set temporaries j x, m.2)
more-kept program line cells s j temporaries x after result (Ok values) m = m

pub kept-run : (program : Program) (cells : Cells) (line : ℕ) (es : List CoreExpr) (j before : ℕ) (after : List CoreTask) (s : CoreState) (temporaries : List ℤ) (vs : List Element)
    → Laid cells (variables program) → ((t : List ℤ) → map (core_value (with_room cells t)) es ≡ vs)
    → KeptRun (plain_program program) line cells s j temporaries after
    (core_first_done (plain_program program) (roomed cells s temporaries) (kept_tasks before line (cells_of_variables program + j) es after)) (first_stop vs)
kept-run program cells line [] j before after s temporaries vs h k = subst (λ vs. KeptRun (plain_program program) line cells s j temporaries after (core_first_done (plain_program program) (roomed cells s temporaries) after) (first_stop vs)) (k temporaries) refl
kept-run program cells line (e ∷ es) j before after s temporaries [] h k = let bad : core_value (with_room cells temporaries) e ∷ map (core_value (with_room cells temporaries)) es ≡ [] = k temporaries in cc
kept-run program cells line (e ∷ es) j before after s temporaries (v ∷ vs) h k = by v (ap first_element (k temporaries)) (λ x. kept-run program cells line es (suc j) before after s (slice_set temporaries j x) vs h (λ t. ap other_elements (k t)))
  where
    by : (v : Element) → core_value (with_room cells temporaries) e ≡ v
        → ((x : ℤ) → KeptRun (plain_program program) line cells s (suc j) (slice_set temporaries j x) after
        (core_first_done (plain_program program) (roomed cells s (slice_set temporaries j x)) (kept_tasks before line (cells_of_variables program + suc j) es after)) (first_stop vs))
        → KeptRun (plain_program program) line cells s j temporaries after
        (core_first_done (plain_program program) (roomed cells s temporaries) (kept_tasks before line (cells_of_variables program + j) (e ∷ es) after)) (first_stop (v ∷ vs))
    by (Err stop) e1 more = (temporaries, refl, rw (is-temporary (cells_of_variables program) j before line e, e1) refl)
    by (Ok x) e1 more =
        let room = set-room program cells temporaries j x h in
        let at : suc (cells_of_variables program + j) ≡ cells_of_variables program + suc j = omega arith in
        rw (is-temporary (cells_of_variables program) j before line e, e1, room, at) (more-kept program line cells s j temporaries x after _ (first_stop vs) (more x))
