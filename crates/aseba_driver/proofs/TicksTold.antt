-- The ticks of a machine without an entry: what they have told was written, and what is left to do leads to the same end.
use Rattle.std.proofs.Common.{◌≡◌, Bool, true, false, not, ◌&&◌, ℕ, zero, suc, ◌+◌, ◌-◌, ◌≤◌, ◌<◌, List, [], ◌++◌, map, Option, None, refl, ap, sym, ◌∙◌, subst, append_assoc, append-nil, cond, arith}
use Rattle.std.specs.Prelude.{option_to_list}
use Rattle.aseba_edge.specs.Sink.{Took, TookFirst}
use Rattle.aseba_edge.proofs.Puts.{first_of_more, took_empty, took_after, first_after}
use Rattle.aseba_tree.specs.Code.{Project}
use Rattle.aseba_tree.specs.Line.{Line, told}
use Rattle.aseba_tree.specs.Run.{Ticked, System, Run, counted, ticks, tick_lines, all_ticking, lines_from}
use Rattle.aseba_tree.specs.View.{project_view}
use Rattle.aseba_vm.specs.declared.tick.Tick.{Tick}
use Rattle.aseba_vm.specs.declared.tick.Tick.TheVariants.{Idle, Paused}
use Rattle.aseba_vm.specs.State.{State}
use Rattle.aseba_vm.specs.Tick.{settled, stepped, ticked}
use Rattle.aseba_target.specs.Node.{Layout}
use Rattle.aseba_target.specs.MachineRun.{is_effect, is_error, tick_report, machine_tick, machine_system}
use Rattle.aseba_driver.specs.declared.legend.Legend.{Legend}
use Rattle.aseba_driver.specs.declared.moment.Moment.{Moment}
use Rattle.aseba_driver.specs.Driven.{told_by, system_by, layout_by, at_moment, after_tick, after_ticks, tick_text, ticks_text, IsAt}
use Rattle.aseba_driver.proofs.Led.{at, front, from}
use Rattle.aseba_driver.proofs.LineTexts.{told_by-append}

-- A machine that doesn't run

abbrev ticked_by : Bool → Bool → State → Tick × State
ticked_by active paused m = cond active (cond paused (Paused, m) (let outcome = stepped m in settled outcome.0 outcome.1)) (Idle, m)

ticked_is : (m : State) → ticked m ≡ ticked_by m.active m.paused m
unfolding ticked
ticked_is m = refl

-- a tick that does nothing
abbrev still : State → Ticked State
still m = record { state = m; counts = false; fails = false; report = None }

abbrev with_tick : Project → ℕ → Tick × State → Ticked State
with_tick project cells after = record { state = after.1; counts = is_effect cells after.0; fails = is_error after.0; report = tick_report project (after.1).cells after.0 }

pub stands_still : (project : Project) (layout : Layout) (m : State) → (m.active && not m.paused) ≡ false → machine_tick project layout.cells false m ≡ still m
stands_still project layout m h = by m.active m.paused refl refl h
  where
    by : (a p : Bool) → m.active ≡ a → m.paused ≡ p → (a && not p) ≡ false → machine_tick project layout.cells false m ≡ still m
    by true true e f g = ap (with_tick project layout.cells) (ticked_is m ∙ (λ i. ticked_by (e i) (f i) m))
    by true false e f g = absurd cc
    by false p e f g = ap (with_tick project layout.cells) (ticked_is m ∙ (λ i. ticked_by (e i) (f i) m))

abbrev front_tick : Project → Layout → ℕ → ℕ → ℕ → Ticked State → List Line × Run State
front_tick project layout n t k after = front (map (told t (counted after.counts k)) (option_to_list after.report)) (from (machine_system project layout) [] n (at (suc t) (counted after.counts k) after.state))

pub rests : (project : Project) (layout : Layout) (n t k : ℕ) (m : State) → (m.active && not m.paused) ≡ false → from (machine_system project layout) [] n (at t k m) ≡ ([], at (t + n) k m)
rests project layout zero t k m h = let none : t ≡ t + 0 = omega arith in ap (λ j. ([], at j k m)) none
rests project layout (suc n) t k m h =
    let next : suc t + n ≡ t + suc n = omega arith in
    ap (front_tick project layout n t k) (stands_still project layout m h)
    ∙ rests project layout n (suc t) k m h
    ∙ ap (λ j. ([], at j k m)) next

-- In the middle

-- Some ticks are done: some lines were written, with those of the ticks that are left they are all, and these ticks end the run.
pub record InTicks (legend : Legend) (start : Moment) (first : State) (before : Option (List ℕ)) (until done : ℕ) (now : Moment) (machine : State) (taken : Option (List ℕ)) : Type 0 where
  pub lines : List Line
  pub written : Took before (told_by legend lines) taken
  pub tells_on : lines ++ lines_from (system_by legend) [] (at_moment now machine) (ticks (until - now.ticks)) ≡ lines_from (system_by legend) [] (at_moment start first) (ticks (until - start.ticks))
  pub goes_on : all_ticking (system_by legend) [] (at_moment now machine) (ticks (until - now.ticks)) ≡ after_ticks legend until start first
  pub is : now.ticks ≡ done
  pub few : now.effects ≤ now.ticks

-- before the first of them
pub ticks_begin : (legend : Legend) (start : Moment) (first : State) (before : Option (List ℕ)) (until : ℕ) → start.effects ≤ start.ticks → InTicks legend start first before until start.ticks start first before
ticks_begin legend start first before until few = record { lines = []; written = took_empty before; tells_on = refl; goes_on = refl; is = refl; few = few }

few_more : (b : Bool) (k : ℕ) → counted b k ≤ k + 1
few_more true k = omega arith
few_more false k = omega arith

module _ (legend : Legend) (start : Moment) (first : State) (before : Option (List ℕ)) (until done : ℕ) (now : Moment) (machine : State) (mid : Option (List ℕ)) where
  abbrev system : System State
  system = system_by legend

  -- a tick is done, and its lines are told
  abbrev new : List Line
  new = tick_lines system [] (at_moment now machine) false

  abbrev one : Run State
  one = after_tick legend now machine

  one_less : done < until → now.ticks ≡ done → until - now.ticks ≡ suc (until - one.ticks)
  one_less h e = omega (arith, e)

  all-told : done < until → (in_ticks : InTicks legend start first before until done now machine mid)
      → (in_ticks.lines ++ new) ++ lines_from system [] one (ticks (until - one.ticks)) ≡ lines_from system [] (at_moment start first) (ticks (until - start.ticks))
  all-told h in_ticks =
      append_assoc in_ticks.lines new (lines_from system [] one (ticks (until - one.ticks)))
      ∙ ap (λ k. in_ticks.lines ++ lines_from system [] (at_moment now machine) (ticks k)) (sym (one_less h in_ticks.is))
      ∙ in_ticks.tells_on

  -- one more tick
  pub one_more : (next : Moment) (machine' : State) (after : Option (List ℕ)) → done < until → InTicks legend start first before until done now machine mid → IsAt one next machine'
      → Took mid (tick_text legend now machine) after → InTicks legend start first before until (done + 1) next machine' after
  one_more next machine' after h in_ticks at_next took =
      let there : at_moment next machine' ≡ one = λ i. record { ticks = sym at_next.ticks i; effects = sym at_next.effects i; state = sym at_next.machine_is i } in
      record {
        lines = in_ticks.lines ++ new;
        written = subst (λ (t : List ℕ). Took before t after) (sym (told_by-append legend in_ticks.lines new)) (took_after before mid after (told_by legend in_ticks.lines) (told_by legend new) in_ticks.written took);
        tells_on = ap (λ (r : Run State). (in_ticks.lines ++ new) ++ lines_from system [] r (ticks (until - r.ticks))) there ∙ all-told h in_ticks;
        goes_on =
            ap (λ (r : Run State). all_ticking system [] r (ticks (until - r.ticks))) there
            ∙ ap (λ k. all_ticking system [] (at_moment now machine) (ticks k)) (sym (one_less h in_ticks.is))
            ∙ in_ticks.goes_on;
        is = omega (arith, at_next.ticks, in_ticks.is);
        few = omega (arith, at_next.ticks, at_next.effects, in_ticks.few, few_more (is_effect (layout_by legend).cells (ticked machine).0) now.effects);
      }

  -- a tick whose lines weren't all written: what was written begins the lines of all ticks
  pub cut_short : (after : Option (List ℕ)) → done < until → InTicks legend start first before until done now machine mid → TookFirst mid (tick_text legend now machine) after
      → TookFirst before (ticks_text legend until start first) after
  cut_short after h in_ticks part =
      let rest : List Line = lines_from system [] one (ticks (until - one.ticks)) in
      let text : ticks_text legend until start first ≡ (told_by legend in_ticks.lines ++ told_by legend new) ++ told_by legend rest =
      ap (told_by legend) (sym (all-told h in_ticks)) ∙ told_by-append legend (in_ticks.lines ++ new) rest ∙ ap (λ t. t ++ told_by legend rest) (told_by-append legend in_ticks.lines new) in
      subst (λ (t : List ℕ). TookFirst before t after) (sym text)
      (first_of_more before (told_by legend in_ticks.lines ++ told_by legend new) (told_by legend rest) after
      (first_after before mid after (told_by legend in_ticks.lines) (told_by legend new) in_ticks.written part))

  -- the ticks that are left tell nothing, and lead there
  ends_at : (end : Run State) → from system [] (until - now.ticks) (at_moment now machine) ≡ ([], end) → InTicks legend start first before until done now machine mid
      → (end ≡ after_ticks legend until start first) × Took before (ticks_text legend until start first) mid
  ends_at end none in_ticks =
      let told : in_ticks.lines ≡ lines_from system [] (at_moment start first) (ticks (until - start.ticks)) =
      sym (append-nil in_ticks.lines) ∙ ap (λ (p : List Line × Run State). in_ticks.lines ++ p.0) (sym none) ∙ in_ticks.tells_on in
      (ap (λ (p : List Line × Run State). p.1) (sym none) ∙ in_ticks.goes_on, subst (λ (l : List Line). Took before (told_by legend l) mid) told in_ticks.written)

  is_there : (moment : Moment) (end : Run State) → end ≡ after_ticks legend until start first → moment.ticks ≡ end.ticks → moment.effects ≡ end.effects → machine ≡ end.state
      → IsAt (after_ticks legend until start first) moment machine
  is_there moment end same t k m = record {
    ticks = sym (ap (λ (r : Run State). r.ticks) same) ∙ sym t;
    effects = sym (ap (λ (r : Run State). r.effects) same) ∙ sym k;
    machine_is = sym (ap (λ (r : Run State). r.state) same) ∙ sym m;
  }

  -- all ticks are done
  pub all_done : until ≤ done → InTicks legend start first before until done now machine mid
      → IsAt (after_ticks legend until start first) now machine × Took before (ticks_text legend until start first) mid
  all_done h in_ticks =
      let none : until - now.ticks ≡ 0 = omega (arith, in_ticks.is) in
      let e = ends_at (at_moment now machine) (ap (λ n. from system [] n (at_moment now machine)) none) in_ticks in
      (is_there now (at_moment now machine) e.0 refl refl refl, e.1)

  -- the machine doesn't run: the ticks that are left are only counted
  pub all_counted : done < until → (machine.active && not machine.paused) ≡ false → InTicks legend start first before until done now machine mid
      → IsAt (after_ticks legend until start first) (record { ticks = until; effects = now.effects }) machine × Took before (ticks_text legend until start first) mid
  all_counted h idle in_ticks =
      let end : Run State = at (now.ticks + (until - now.ticks)) now.effects machine in
      let sum : until ≡ now.ticks + (until - now.ticks) = omega (arith, in_ticks.is) in
      let e = ends_at end (rests (project_view legend.project.now) (layout_by legend) (until - now.ticks) now.ticks now.effects machine idle) in_ticks in
      (is_there (record { ticks = until; effects = now.effects }) end e.0 sum refl refl, e.1)
