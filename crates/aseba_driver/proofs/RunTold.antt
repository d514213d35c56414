-- The parts of what a run tells and leaves, one after the other.
use Rattle.std.proofs.Common.{◌≡◌, refl, ℕ, suc, ◌+◌, ◌<◌, ℤ, List, [], ◌∷◌, ◌++◌, length, get_or, drop, map, Option, ap, sym, ◌∙◌, subst, append_assoc, add-one, drop-cons}
use Rattle.aseba_edge.specs.Sink.{Took, TookFirst}
use Rattle.aseba_edge.proofs.Puts.{first_of_more, took_after, first_after}
use Rattle.aseba_tree.specs.Layout as tree
use Rattle.aseba_tree.specs.Line.{Line, lines_text, end}
use Rattle.aseba_tree.specs.Run.{begin, ticks, lines_from}
use Rattle.aseba_tree.specs.View.{placed_view}
use Rattle.aseba_tree.specs.declared.placed.Placed.{Placed}
use Rattle.aseba_vm.specs.State.{State}
use Rattle.aseba_driver.specs.declared.entry.Entry.{Entry}
use Rattle.aseba_driver.specs.declared.legend.Legend.{Legend}
use Rattle.aseba_driver.specs.declared.moment.Moment.{Moment}
use Rattle.aseba_driver.specs.Driven.{told_by, system_by, layout_by, after_script, script_text, script_of, run_text, var_lines, end_line, ending_text, IsAt}
use Rattle.aseba_driver.proofs.LineTexts.{lines_text-append, told_by-append, ending_told}

-- the lines of the ticks, and then what the run leaves
pub run_parts : (legend : Legend) (entries : List Entry) (n : ℕ) (first machine : State) (moment : Moment) → IsAt (after_script legend entries n first) moment machine
    → script_text legend entries n first ++ ending_text (layout_by legend).own machine.cells moment ≡ run_text legend entries n first
run_parts legend entries n first machine moment at =
    let own : List tree.Placed = (layout_by legend).own in
    let told : List Line = lines_from (system_by legend) (script_of (map placed_view legend.places.now) entries) (begin first) (ticks n) in
    ap (λ t. told_by legend told ++ t) (ending_told legend own machine.cells moment)
    ∙ sym (told_by-append legend told (var_lines machine.cells own ++ end_line moment))
    ∙ (λ i. told_by legend (told ++ (var_lines (sym at.machine_is i).cells own ++ end (sym at.ticks i) (sym at.effects i) ∷ [])))

-- the lines of the ticks begin what the run tells
pub run_begins : (legend : Legend) (entries : List Entry) (n : ℕ) (first : State)
    → let run = after_script legend entries n first in
    script_text legend entries n first ++ ending_text (layout_by legend).own run.state.cells (record { ticks = run.ticks; effects = run.effects }) ≡ run_text legend entries n first
run_begins legend entries n first =
    let run = after_script legend entries n first in
    run_parts legend entries n first run.state (record { ticks = run.ticks; effects = run.effects }) (record { ticks = refl; effects = refl; machine_is = refl })

-- Variables

-- the text of the variables from a place on
abbrev pub rest_text : List ℤ → List Placed → ℕ → List ℕ
rest_text cells vs i = lines_text (var_lines cells (map placed_view (drop i vs)))

-- the elements from one on
pub drop_item : {A : Type 0} (xs : List A) (i : ℕ) (x : A) → i < length xs → x ≡ get_or xs i x → drop i xs ≡ x ∷ drop (i + 1) xs
drop_item xs i x h e = rw (drop-cons xs i x h) (rw add-one (ap (λ y. y ∷ drop (suc i) xs) (sym e)))

-- it begins with the line of the variable at that place
next_line : (cells : List ℤ) (vs : List Placed) (i : ℕ) (v : Placed) → i < length vs → v ≡ get_or vs i v → rest_text cells vs i ≡ lines_text (var_lines cells (placed_view v ∷ [])) ++ rest_text cells vs (i + 1)
next_line cells vs i v h e =
    ap (λ xs. lines_text (var_lines cells (map placed_view xs))) (drop_item vs i v h e)
    ∙ lines_text-append (var_lines cells (placed_view v ∷ [])) (var_lines cells (map placed_view (drop (i + 1) vs)))

module _ (before mid after : Option (List ℕ)) (text whole : List ℕ) (cells : List ℤ) (vs : List Placed) (i : ℕ) (v : Placed) (h : i < length vs) (e : v ≡ get_or vs i v) (took : Took before text mid) (all : text ++ rest_text cells vs i ≡ whole) where
  -- the line and the lines behind it complete what was written
  completes : (text ++ lines_text (var_lines cells (placed_view v ∷ []))) ++ rest_text cells vs (i + 1) ≡ whole
  completes = append_assoc text _ _ ∙ ap (λ t. text ++ t) (sym (next_line cells vs i v h e)) ∙ all

  -- its line was written
  pub one_more_variable : Took mid (lines_text (var_lines cells (placed_view v ∷ []))) after → (t : List ℕ) × Took before t after × (t ++ rest_text cells vs (i + 1) ≡ whole)
  one_more_variable more =
      (text ++ lines_text (var_lines cells (placed_view v ∷ [])), took_after before mid after text (lines_text (var_lines cells (placed_view v ∷ []))) took more, completes)

  -- its line wasn't written whole
  pub variable_cut_short : TookFirst mid (lines_text (var_lines cells (placed_view v ∷ []))) after → TookFirst before whole after
  variable_cut_short part =
      subst (λ (t : List ℕ). TookFirst before t after) completes
      (first_of_more before (text ++ lines_text (var_lines cells (placed_view v ∷ []))) (rest_text cells vs (i + 1)) after
      (first_after before mid after text (lines_text (var_lines cells (placed_view v ∷ []))) took part))
