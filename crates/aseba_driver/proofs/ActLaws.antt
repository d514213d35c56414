-- What an entry does to a machine, and what comes of it.
use Rattle.std.proofs.Common.{◌≡◌, ℕ, ℤ, ◌+◌, ◌-◌, ◌≤◌, List, [], ◌∷◌, ◌++◌, map, length, Option, None, Some, ap, ◌∙◌, subst, arith}
use Rattle.std.specs.Prelude.{MatchOption}
use Rattle.std.proofs.lemmas.List.{take-append-drop}
use Rattle.aseba_tree.specs.Code.{Project}
use Rattle.aseba_tree.specs.Events.{event_number}
use Rattle.aseba_tree.specs.Layout.{Placed, placed_named}
use Rattle.aseba_tree.specs.Line.{named, was_set, told, lines_text}
use Rattle.aseba_tree.specs.Run.{Met, meeting_reports}
use Rattle.aseba_tree.specs.View.{placed_view, project_view}
use Rattle.aseba_vm.specs.State.{State}
use Rattle.aseba_vm.specs.Arrival.{arrived}
use Rattle.aseba_vm.specs.Control.{hold_written}
use Rattle.aseba_target.specs.MachineRun.{meeting_of, arriving, writing}
use Rattle.aseba_driver.specs.declared.entry.Act.TheVariants.{Event, Set}
use Rattle.aseba_driver.specs.declared.entry.Entry.{Entry}
use Rattle.aseba_driver.specs.declared.legend.Legend.{Legend}
use Rattle.aseba_driver.specs.declared.moment.Moment.{Moment}
use Rattle.aseba_driver.specs.Driven.{first_cell, IsNamed, IsKnown, layout_by, told_by, after_act, act_text}

-- the places of a legend
abbrev places_of : Legend → List Placed
places_of legend = map placed_view legend.places.now

abbrev project_of : Legend → Project
project_of legend = project_view legend.project.now

module _ (legend : Legend) (moment : Moment) (e : Entry) (m : State) (known : IsKnown (project_of legend) (places_of legend) e) where
  -- an event
  meets : (event source : ℕ) (args : List ℤ) → e.act ≡ Event event source args
      → arriving (event_number (project_of legend) (named e.name)) source args m ≡ record { state = (arrived event source args m).1; meeting = meeting_of (arrived event source args m).0 }
  meets event source args is =
      let number : event_number (project_of legend) (named e.name) ≡ Some event = subst (λ act. IsNamed (project_of legend) (places_of legend) e.name act) is known in
      ap (λ o. arriving o source args m) number

  pub event_state : (event source : ℕ) (args : List ℤ) → e.act ≡ Event event source args → after_act legend m e ≡ (arrived event source args m).1
  event_state event source args is =
      ap (λ act. after_act legend m (record e { act = act })) is ∙ ap (λ (met : Met State). met.state) (meets event source args is)

  pub event_told : (event source : ℕ) (args : List ℤ) → e.act ≡ Event event source args
      → act_text legend moment m e ≡ told_by legend (map (told moment.ticks moment.effects) (meeting_reports (named e.name) (meeting_of (arrived event source args m).0)))
  event_told event source args is =
      ap (λ act. act_text legend moment m (record e { act = act })) is
      ∙ ap (λ (met : Met State). told_by legend (map (told moment.ticks moment.effects) (meeting_reports (named e.name) met.meeting))) (meets event source args is)

  -- values
  wrote_at : (place : Option Placed) (start : ℕ) (values : List ℤ) → MatchOption place ⊥ (λ v. v.start ≤ start) → writing place (first_cell place start) values m ≡ (hold_written start values m).1
  wrote_at None start values h = absurd h
  wrote_at (Some v) start values h = let same : v.start + (start - v.start) ≡ start = omega (arith, h) in ap (λ n. (hold_written n values m).1) same

  pub set_state : (start : ℕ) (values : List ℤ) → e.act ≡ Set start values → after_act legend m e ≡ (hold_written start values m).1
  set_state start values is =
      let there : MatchOption (placed_named (places_of legend) e.name) ⊥ (λ v. v.start ≤ start) = subst (λ act. IsNamed (project_of legend) (places_of legend) e.name act) is known in
      let all : (layout_by legend).node ++ (layout_by legend).own ≡ places_of legend = take-append-drop (length legend.project.now.node.variables) (places_of legend) in
      ap (λ act. after_act legend m (record e { act = act })) is
      ∙ ap (λ places. writing (placed_named places e.name) (first_cell (placed_named (places_of legend) e.name) start) values m) all
      ∙ wrote_at (placed_named (places_of legend) e.name) start values there

  pub set_told : (start : ℕ) (values : List ℤ) → e.act ≡ Set start values → act_text legend moment m e ≡ lines_text (told moment.ticks moment.effects (was_set e.name) ∷ [])
  set_told start values is = ap (λ act. act_text legend moment m (record e { act = act })) is
