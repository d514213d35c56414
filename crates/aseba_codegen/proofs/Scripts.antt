-- Machine and core are tied at every tick, within the weight: ticks, events and writes keep it, and under it both show the same.
use Rattle.std.proofs.Common.{◌≡◌, ℕ, zero, suc, ◌+◌, ◌-◌, ◌<◌, ◌≤◌, ◌&&◌, ◌⊎◌, inl, inr, Bool, true, false, nat_lt, ℤ, pos, List, ◌++◌, length, take, drop, Option, Some, None, refl, sym, ap, ◌∙◌, subst, arith, true≢false, ltb-true}
use Rattle.std.proofs.lemmas.List.{drop-map}
use Rattle.std.proofs.lemmas.Option.{same_Some}
use Rattle.std.specs.List.{list_all}
use Rattle.std.specs.Prelude.{option_map, sum_by, slice_get}
use Rattle.aseba_words.specs.Natives.{native_params}
use Rattle.aseba_tree.specs.Code.{Name}
use Rattle.aseba_tree.specs.Line.{Event, report_by}
use Rattle.aseba_tree.specs.Script.{Action, arrives}
use Rattle.aseba_tree.specs.GoodScript.{is_good_event, is_good_action, is_inside}
use Rattle.aseba_tree.specs.Layout.{Placed, placed_from, cells_at, address_of, HasPlaces}
use Rattle.aseba_tree.specs.NativeName.{native_named}
use Rattle.aseba_tree.specs.Step.{IsKnown, native_place}
use Rattle.aseba_tree.specs.Value.{is_cell}
use Rattle.aseba_tree.specs.CoreShape.{sizes_of_native}
use Rattle.aseba_tree.specs.CoreStep.{CoreProgram, CoreState, core_step, core_handler_of, core_arrived}
use Rattle.aseba_tree.specs.CoreRun.{core_tick, core_next_native, core_system, own_places}
use Rattle.aseba_tree.specs.Run as one_run
use Rattle.aseba_tree.specs.Run.{Met, Knows, reached}
use Rattle.aseba_tree.specs.Tied.{MetWithin, TickedWithin, TiedWithin}
use Rattle.aseba_vm.specs.declared.tick.Tick.{Tick}
use Rattle.aseba_vm.specs.declared.tick.Tick.TheVariants.{Idle, Paused}
use Rattle.aseba_vm.specs.State.{State}
use Rattle.aseba_vm.specs.Tick.{ticked}
use Rattle.aseba_vm.specs.Words.{native_word}
use Rattle.aseba_target.specs.Node.{Layout}
use Rattle.aseba_target.specs.MachineRun.{is_effect, is_error, tick_report, is_running, next_call, arriving, machine_system}
use Rattle.aseba_codegen.specs.Agrees.{line_at, IsLaidOut, Seen}
use Rattle.aseba_codegen.specs.CodeRuns.{CallsAlike}
use Rattle.aseba_codegen.proofs.NativeNames.{Sizes, sizes-of}
use Rattle.aseba_codegen.proofs.GoodEntries.{HasNumber, good-number}
use Rattle.aseba_codegen.proofs.Outside.{Handled, Handling, Answers, standing-write, standing-arrive}
use Rattle.aseba_codegen.proofs.Placed.{Plan, Base, Aligned, Lands, Meets}
use Rattle.aseba_codegen.proofs.Shown.{silent-report, silent-sound, shown-alike, taken-alike}
use Rattle.aseba_codegen.proofs.Standing.{Standing, Reaching, OnLine, standing-start, standing-line, standing-runs, Waits, Rests, NextTick, next-tick}
use Rattle.aseba_codegen.proofs.Values.{and-left, and-right}

module _ (plan : Plan) (layout : Layout) (Known : Name → Type 0) where
  abbrev program : CoreProgram
  program = plan.program

  abbrev cells : ℕ
  cells = plan.program.core.cells

  -- what the code and the node have to be
  pub record Ready : Type 0 where
    pub reach : Reaching plan
    pub on_line : OnLine plan
    pub handling : Handling plan
    pub heavy : 3 ≤ plan.weight
    pub events : length program.project.events ≤ 4096
    pub laid : IsLaidOut program layout
    pub placed : HasPlaces program.project program.variables cells (layout.node ++ layout.own)
    pub rows : (id : ℕ) (params : List ℤ) → sizes_of_native program.project id ≡ Some params → Known (native_named program.project id) → native_params id ≡ sizes_of_native program.project id

  -- Machine and core at a moment, with the next effect at most so many ticks away.
  pub record Near (b : ℕ) (m : State) (s : CoreState) : Type 0 where
    pub done : ℕ
    pub standing : Standing plan done m s
    pub total : b + done + 1 ≡ plan.weight

  abbrev pub f : ℕ → ℕ
  f = line_at plan.code

  abbrev pub one : one_run.System State
  one = machine_system program.project layout

  abbrev pub two : one_run.System CoreState
  two = core_system program

  abbrev pub Good : Action → Type 0
  Good action = is_good_action program.project program.variables action ≡ true

  pub near-start : 3 ≤ plan.weight → (m : State) (s : CoreState) → Aligned plan m s → Near (plan.weight - 1) m s
  near-start heavy m s aligned = record { done = zero; standing = standing-start plan m s aligned; total = omega arith }

  -- Events

  meets-as : (b event source : ℕ) (args : List ℤ) (m : State) (s : CoreState) (r : Near b m s) → Answers plan r.done (arriving (Some event) source args m) (core_arrived program s source args (core_handler_of program (Some event)))
      → MetWithin Good Known f one two Near b (arriving (Some event) source args m) (core_arrived program s source args (core_handler_of program (Some event)))
  meets-as b event source args m s r answer = record {
    meeting = answer.meeting;
    left = plan.weight - (answer.done + 1);
    tied = record { done = answer.done; standing = answer.tied; total = let few = answer.few in let all = r.total in omega arith };
    kept = λ none. let same : answer.done ≡ r.done = answer.kept none in let all = r.total in omega arith;
  }

  meets-so : Ready → (b : ℕ) (event : Event) (source : ℕ) (args : List ℤ) (m : State) (s : CoreState) → Good (arrives event source args) → Near b m s
      → MetWithin Good Known f one two Near b (one.arrive event source args m) (two.arrive event source args s)
  meets-so h b event source args m s good r =
      let front : (is_good_event program.project event && nat_lt source 65536) ≡ true = and-left (is_good_event program.project event && nat_lt source 65536) (list_all is_cell args) good in
      let known : is_good_event program.project event ≡ true = and-left (is_good_event program.project event) (nat_lt source 65536) front in
      let low : source < 65536 = ltb-true _ _ (and-right (is_good_event program.project event) (nat_lt source 65536) front) in
      let number : HasNumber program.project event = good-number program.project event h.events known in
      let handled : Handled plan number.0 m.code (core_handler_of program (Some number.0)) = h.handling number.0 m.code number.2 ((r.standing).base).holds in
      let answer : Answers plan r.done (arriving (Some number.0) source args m) (core_arrived program s source args (core_handler_of program (Some number.0))) =
      standing-arrive plan (layout.node ++ layout.own) h.placed h.on_line number.0 source args low r.done m s r.standing (core_handler_of program (Some number.0)) handled in
      subst (λ (o : Option ℕ). MetWithin Good Known f one two Near b (arriving o source args m) (core_arrived program s source args (core_handler_of program o))) (sym number.1) (meets-as b number.0 source args m s r answer)

  -- Ticks

  -- a tick, where it is known whether it is an effect
  abbrev Ticks : ℕ → State → CoreState → Bool → Type 0
  Ticks b m s x = TickedWithin Good Known f one two Near b (is_running m)
      (record { state = (ticked m).1; counts = x; fails = is_error (ticked m).0; report = tick_report program.project ((ticked m).1).cells (ticked m).0 }) (core_tick program x s)

  runs-now : (m : State) (s : CoreState) (b : ℕ) → Near b m s → s.active ≡ true → s.paused ≡ false → is_running m ≡ true
  runs-now m s b r active unpaused = standing-runs plan r.done m s r.standing ∙ rw (active, unpaused) refl

  counted : 3 ≤ plan.weight → (b : ℕ) (m : State) (s : CoreState) → Near b m s → s.active ≡ true → s.paused ≡ false → Lands plan (core_step program s) (core_next_native program s) m → Ticks b m s true
  counted heavy b m s r active unpaused lands = record {
    counts = refl;
    fails = lands.sound;
    report = lands.told;
    rests = λ h. runs-now m s b r active unpaused;
    left = plan.weight - 1;
    tied = near-start heavy (ticked m).1 (core_step program s).state lands.next;
    sooner = λ none. absurd (true≢false none);
  }

  waited : (b : ℕ) (m : State) (s : CoreState) → (r : Near b m s) → Waits plan r.done m s → Ticks b m s false
  waited b m s r w = record {
    counts = refl;
    fails = silent-sound cells (ticked m).0 (w.hidden).silent;
    report = ap (option_map (report_by f)) (silent-report program.project ((ticked m).1).cells cells (ticked m).0 (w.hidden).silent);
    rests = λ h. absurd (true≢false (sym h));
    left = b - 1;
    tied = record { done = suc r.done; standing = w.next; total = let few = w.light in let all = r.total in omega arith };
    sooner = λ none runs. let few = w.light in let all = r.total in omega arith;
  }

  -- a tick of a machine in which no handler runs
  at-rest : (tick : Tick) → (tick ≡ Idle) ⊎ (tick ≡ Paused) → (is_effect cells tick ≡ false) × (is_error tick ≡ false)
  at-rest tick (inl e) = rw e (refl, refl)
  at-rest tick (inr e) = rw e (refl, refl)

  rested : (b : ℕ) (m : State) (s : CoreState) → Near b m s → Rests plan m s → Ticks b m s false
  rested b m s r w =
      let silent = at-rest w.tick w.is_rest in
      record {
        counts = refl;
        fails = ap (λ (x : Tick × State). is_error x.0) w.same ∙ silent.1;
        report = ap (λ (x : Tick × State). option_map (report_by f) (tick_report program.project (x.1).cells x.0)) w.same ∙ ap (option_map (report_by f)) (silent-report program.project m.cells cells w.tick silent.0);
        rests = λ h. absurd (true≢false (sym h));
        left = b;
        tied = subst (λ (x : Tick × State). Near b x.1 s) (sym w.same) r;
        sooner = λ none runs. absurd (true≢false (sym runs ∙ standing-runs plan r.done m s r.standing ∙ w.rests));
      }

  -- a call of a native that isn't known is none that is known
  unknown-call : Ready → (m : State) (s : CoreState) → Meets plan (core_next_native program s) m → Knows Known (core_next_native program s) → ⊥
  unknown-call h m s meets knows =
      meets.unknown (h.rows meets.id (meets.sized).0 (meets.sized).1 (knows (native_named program.project meets.id) meets.named))

  ticks-so : Ready → (b : ℕ) (m : State) (s : CoreState) → Near b m s → Knows Known (reached two (core_tick program (is_effect layout.cells (ticked m).0) s).counts s) → Ticks b m s (is_effect layout.cells (ticked m).0)
  ticks-so h b m s r known = elim (next-tick plan h.reach h.heavy r.done m s r.standing) [
    | inl steps ↦ elim steps.ends [
      | inl lands ↦ is true lands.counts (counted h.heavy b m s r steps.active steps.unpaused lands)
      | inr meets ↦
          let counts : is_effect layout.cells (ticked m).0 ≡ true = ap (λ n. is_effect n (ticked m).0) (h.laid).cells ∙ meets.counts in
          absurd (unknown-call h m s meets (subst (λ x. Knows Known (reached two (core_tick program x s).counts s)) counts known))
    ]
    | inr others ↦ elim others [
      | inl waits ↦ is false ((waits.hidden).silent) (waited b m s r waits)
      | inr rests ↦ is false (ap (λ (x : Tick × State). is_effect cells x.0) rests.same ∙ (at-rest rests.tick rests.is_rest).0) (rested b m s r rests)
    ]
  ]
    where
      is : (x : Bool) → is_effect cells (ticked m).0 ≡ x → Ticks b m s x → Ticks b m s (is_effect layout.cells (ticked m).0)
      is x e t = subst (Ticks b m s) (sym (ap (λ n. is_effect n (ticked m).0) (h.laid).cells ∙ e)) t

  -- where a tick is an effect, machine and core call the same native or none
  pub calls-so : Ready → (b : ℕ) (m : State) (s : CoreState) → Near b m s → is_effect layout.cells (ticked m).0 ≡ true → next_call program.project m ≡ core_next_native program s
  calls-so h b m s r counts = elim (next-tick plan h.reach h.heavy r.done m s r.standing) [
    | inl steps ↦ elim steps.ends [ inl lands ↦ lands.called | inr meets ↦ meets.called ∙ sym meets.named ]
    | inr others ↦ elim others [
      | inl waits ↦ absurd (true≢false (sym here ∙ (waits.hidden).silent))
      | inr rests ↦ absurd (true≢false (sym here ∙ ap (λ (x : Tick × State). is_effect cells x.0) rests.same ∙ (at-rest rests.tick rests.is_rest).0))
    ]
  ]
    where
      here : is_effect cells (ticked m).0 ≡ true
      here = ap (λ n. is_effect n (ticked m).0) (sym (h.laid).cells) ∙ counts

  -- and a native that isn't known is called by the word of its place
  unknown-word : (m : State) (s : CoreState) (name : Name) → Meets plan (core_next_native program s) m → core_next_native program s ≡ Some name → slice_get m.code m.pc ≡ Some (native_word (native_place program.project name))
  unknown-word m s name meets e =
      let sizes : Sizes program.project meets.id (meets.sized).0 = sizes-of program.project meets.id (meets.sized).0 (meets.sized).1 in
      let same : native_named program.project meets.id ≡ name = same_Some (native_named program.project meets.id) name (sym meets.named ∙ e) in
      let place : native_place program.project name ≡ meets.id = ap (native_place program.project) (sym same) ∙ sizes.first in
      meets.word ∙ ap (λ id. Some (native_word id)) (sym place)

  pub calls-alike : Ready → (b : ℕ) (m : State) (s : CoreState) → Near b m s → is_effect layout.cells (ticked m).0 ≡ true → CallsAlike program m s
  calls-alike h b m s r counts = record { same = calls-so h b m s r counts; unknown = λ name e strange. by name e strange (next-tick plan h.reach h.heavy r.done m s r.standing) }
    where
      here : is_effect cells (ticked m).0 ≡ true
      here = ap (λ n. is_effect n (ticked m).0) (sym (h.laid).cells) ∙ counts

      by : (name : Name) → core_next_native program s ≡ Some name → (IsKnown program.project name → ⊥) → NextTick plan r.done m s → slice_get m.code m.pc ≡ Some (native_word (native_place program.project name))
      by name e strange (inl steps) = elim steps.ends [ inl lands ↦ absurd (strange (lands.known name e)) | inr meets ↦ unknown-word m s name meets e ]
      by name e strange (inr (inl waits)) = absurd (true≢false (sym here ∙ (waits.hidden).silent))
      by name e strange (inr (inr rests)) = absurd (true≢false (sym here ∙ ap (λ (x : Tick × State). is_effect cells x.0) rests.same ∙ (at-rest rests.tick rests.is_rest).0))

  -- What is shown

  cells-alike : (m : State) (s : CoreState) → Base plan m s → take cells m.cells ≡ take cells s.cells
  cells-alike m s base =
      let long : cells ≤ length m.cells = let l = base.long in omega arith in
      let core_long : cells ≤ length s.cells = let l = base.core_long in omega arith in
      taken-alike (pos 0) cells m.cells s.cells long core_long base.same_cells

  shows : IsLaidOut program layout → (m : State) (s : CoreState) → Base plan m s → cells_at m.cells layout.own ≡ cells_at s.cells (own_places program)
  shows laid m s base =
      let shown : List ℤ → Placed → Name × List ℤ = λ memory v. (v.name, take v.size (drop v.start memory)) in
      let node : ℕ = length program.project.node.variables in
      let all : List Placed = placed_from 0 program.variables in
      let inside : 0 + sum_by (λ v. v.size) program.variables ≤ cells = let together = laid.together in omega arith in
      ap (cells_at m.cells) laid.own ∙ sym (drop-map (shown m.cells) node all)
      ∙ ap (drop node) (shown-alike m.cells s.cells cells 0 program.variables (cells-alike m s base) inside) ∙ drop-map (shown s.cells) node all

  -- Machine and core are tied, within the weight.
  pub code-tied : Ready → TiedWithin Good Known f one two plan.weight Near
  code-tied h = record {
    small = λ b m s r. let all = r.total in omega arith;
    meets = meets-so h;
    writes = λ b name first values m s good r. record {
      done = r.done;
      standing = standing-write plan (layout.node ++ layout.own) h.placed name first values (and-left (is_inside (address_of program.variables name) first (length values)) (list_all is_cell values) good) r.done m s r.standing;
      total = r.total;
    };
    ticks = λ b beat m s r known. ticks-so h b m s r known;
    runs = λ b m s r. standing-runs plan r.done m s r.standing;
    calls = λ b beat m s r counts. calls-so h b m s r counts;
    shows = λ b m s r. shows h.laid m s (r.standing).base;
  }

  -- what is seen of both
  pub seen : OnLine plan → (b : ℕ) (m : State) (s : CoreState) → Near b m s → Seen plan.code plan.places cells m s
  seen on_line b m s r =
      let base : Base plan m s = (r.standing).base in
      let held_long : cells ≤ length m.held = let l = base.held_long in let k = base.long in omega arith in
      let core_held_long : cells ≤ length s.held = let l = base.core_held_long in let k = base.core_long in omega arith in
      record {
        cells_alike = cells-alike m s base;
        bits_alike = base.same_bits;
        held_alike = taken-alike None cells m.held s.held held_long core_held_long base.same_held;
        active_alike = base.same_active;
        paused_alike = base.same_paused;
        line_alike = λ active. standing-line plan on_line r.done m s r.standing active;
      }
