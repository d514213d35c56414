-- A source and its element form are tied: good actions and ticks keep them alike, and so their runs go alike.
use Rattle.std.proofs.Common.{◌≡◌, refl, sym, ◌∙◌, ap, subst, ℕ, zero, suc, ◌&&◌, Bool, true, false, ℤ, List, [], ◌∷◌, ◌++◌, arith, Option, Some, None, take, All, IsTrue, option_map, nat_lt, cond, map, filter, ◌==◌}
use Rattle.std.proofs.Math.Seq.{take-append_seam}
use Rattle.aseba_tree.specs.Arrival.{write, arrive}
use Rattle.aseba_tree.specs.CoreRun.{core_tick, core_system, core_run, core_lines}
use Rattle.aseba_tree.specs.CoreStep.{CoreState, core_loaded, core_is_running, core_arrive, core_write}
use Rattle.aseba_tree.specs.GoodScript.{is_good_action, is_good_script, is_good_event}
use Rattle.aseba_tree.specs.Layout.{variables, cells_of_variables}
use Rattle.aseba_tree.specs.Line.{Event, Report, report_by}
use Rattle.aseba_tree.specs.Lines.{source_tick, source_system, source_run, source_lines, source_moments, SourceCallsKnown}
use Rattle.aseba_tree.specs.Run.{Meeting, unheard, refused, kills, begins, all_acting, acted, beats_of, Knows, CallsKnown, reached}
use Rattle.aseba_tree.specs.Script.{Action, arrives, sets, Entry, Script, actions_at}
use Rattle.aseba_tree.specs.State.{Program, State, loaded}
use Rattle.aseba_tree.specs.Step.{is_running, IsKnown}
use Rattle.aseba_tree.specs.Tied.{meeting_by, MetAlike, TickedAlike, Tied}
use Rattle.aseba_tree.proofs.MeantLaws.{report-left, lines-left, beats-told}
use Rattle.aseba_tree.proofs.RunLaws.{runs_alike}
use Rattle.aseba_tree.proofs.SizeLaws.{both_right, both_left}
use Rattle.aseba_expand.specs.Expands.{all_cells_of, ShowsSame, RunsSame}
use Rattle.aseba_expand.specs.Plain.{plain_core, plain_program}
use Rattle.aseba_expand.proofs.Alike.{Alike}
use Rattle.aseba_expand.proofs.Arrivals.{arrive-alike, write-alike, next-line}
use Rattle.aseba_expand.proofs.EventNumbers.{KnownParts, AreFew}
use Rattle.aseba_expand.proofs.Handlers.{event-found}
use Rattle.aseba_expand.proofs.Kept.{laid-length}
use Rattle.aseba_expand.proofs.Load.{loaded-alike}
use Rattle.aseba_expand.proofs.Reached.{native-reached}
use Rattle.aseba_expand.proofs.Ready.{Ready}
use Rattle.aseba_expand.proofs.Shown.{shown-alike, HasNewNames}
use Rattle.aseba_expand.proofs.StepLaws.{step-alike}
use Rattle.aseba_tree.specs.Tied as tie

-- what is asked of a source and its project beside its statements
pub record IsSettled (program : Program) : Type 0 where
  pub ready : Ready program
  pub few : AreFew program.project
  pub known_parts : KnownParts program program.source.parts
  pub new : HasNewNames program

abbrev pub Good : Program → Action → Type 0
Good program action = IsTrue (is_good_action program.project (variables program) action)

abbrev pub Plain : Program → CoreState → State → Type 0
Plain program c s = Alike program s c

meeting-left : (m : Meeting) → meeting_by (λ line. line) m ≡ m
meeting-left unheard = refl
meeting-left refused = refl
meeting-left (kills line) = refl
meeting-left begins = refl

option-left : (report : Option Report) → option_map (report_by (λ line. line)) report ≡ report
option-left None = refl
option-left (Some report) = ap Some (report-left report)

meets : (program : Program) → IsSettled program → (event : Event) (source : ℕ) (args : List ℤ) (c : CoreState) (s : State) → Good program (arrives event source args) → Alike program s c
    → MetAlike (λ line. line) (Plain program) (core_arrive (plain_program program) c event source args) (arrive program s event source args)
meets program h event source args c s good alike =
    let given : is_good_event program.project event ≡ true = both_left (is_good_event program.project event) (nat_lt source 65536) (both_left (is_good_event program.project event && nat_lt source 65536) _ good) in
    let after = arrive-alike program s c event source args (event-found program event h.few h.known_parts h.ready given) alike in
    record { meeting = meeting-left _ ∙ after.meeting; tied = after.states }

ticks-alike : (program : Program) → IsSettled program → (beat : Bool) (c : CoreState) (s : State) → Alike program s c
    → Knows (IsKnown program.project) (reached (source_system program) (source_tick program (core_tick (plain_program program) beat c).counts s).counts s)
    → TickedAlike (λ line. line) (Plain program) (core_tick (plain_program program) beat c) (source_tick program (core_tick (plain_program program) beat c).counts s)
ticks-alike program h true c s alike known =
    let after = step-alike program s c h.ready alike known in record { counts = refl; fails = refl; report = option-left _ ∙ sym after.reports; tied = after.states }
ticks-alike program h false c s alike known = record { counts = refl; fails = refl; report = refl; tied = alike }

run-alike : (program : Program) (s : State) (c : CoreState) → Alike program s c → core_is_running c ≡ is_running s
run-alike program s c a = rw (a.active, a.paused) refl

shows : (program : Program) → HasNewNames program → (s : State) (c : CoreState) → Alike program s c → (core_system (plain_program program)).shown c ≡ (source_system program).shown s
shows program new s c a = rw a.cells (shown-alike program s a.temporaries new a.laid)

pub plain-tied : (program : Program) → IsSettled program → Tied (Good program) (IsKnown program.project) (λ line. line) (core_system (plain_program program)) (source_system program) (Plain program)
plain-tied program h = record {
  meets = λ event source args c s good alike. meets program h event source args c s good alike;
  writes = λ name first values c s good alike. write-alike program s c name first values alike;
  ticks = λ beat c s alike known. ticks-alike program h beat c s alike known;
  runs = λ c s alike. run-alike program s c alike;
  calls = λ beat c s alike counts. native-reached program s c alike;
  shows = λ c s alike. shows program h.new s c alike;
}

-- Actions

all-cons : (P : Action → Type 0) (x : Action) (xs : List Action) → P x → All P xs → All P (x ∷ xs)
all-cons P x xs h k zero d below = h
all-cons P x xs h k (suc i) d below = k i d (omega (arith, below))

good-actions : (program : Program) (script : Script) → is_good_script program.project (variables program) script ≡ true → (n : ℕ) → All (Good program) (actions_at script n)
good-actions program [] h n = λ k d below. absurd (omega (arith, below))
good-actions program (entry ∷ script) h n = by (entry.time == n) (good-actions program script (both_right (is_good_action program.project (variables program) entry.action) _ h) n)
  where
    by : (b : Bool) → All (Good program) (actions_at script n) → All (Good program) (map (λ (e : Entry). e.action) (cond b (entry ∷ filter (λ e. e.time == n) script) (filter (λ e. e.time == n) script)))
    by true rest = all-cons (Good program) entry.action (actions_at script n) (both_left (is_good_action program.project (variables program) entry.action) _ h) rest
    by false rest = rest

-- good actions keep both alike
acts-alike : (program : Program) → IsSettled program → (actions : List Action) (c : CoreState) (s : State) → All (Good program) actions → Alike program s c
    → Alike program (all_acting (source_system program) s actions) (all_acting (core_system (plain_program program)) c actions)
acts-alike program h [] c s good alike = alike
acts-alike program h (arrives event source args ∷ actions) c s good alike =
    acts-alike program h actions (core_arrive (plain_program program) c event source args).state (arrive program s event source args).state (λ k d below. good (suc k) d (omega (arith, below)))
    (meets program h event source args c s (good 0 (arrives event source args) (omega arith)) alike).tied
acts-alike program h (sets name first values ∷ actions) c s good alike =
    acts-alike program h actions (core_write (plain_program program) c name first values) (write s name first values) (λ k d below. good (suc k) d (omega (arith, below)))
    (write-alike program s c name first values alike)

-- Runs

shows-same : (program : Program) (s : State) (c : CoreState) → Alike program s c → ShowsSame program c s
shows-same program s c a = record {
  cells = ap (take (cells_of_variables program)) a.cells ∙ ap (λ n. take n (all_cells_of s.cells ++ a.temporaries)) (sym (laid-length s.cells (variables program) a.laid)) ∙ take-append_seam (all_cells_of s.cells) a.temporaries;
  held = ap (take (cells_of_variables program)) a.held ∙ ap (λ n. take n (all_cells_of s.held ++ a.held_behind)) (sym (laid-length s.held (variables program) a.held_laid)) ∙ take-append_seam (all_cells_of s.held) a.held_behind;
  bits = a.bits;
  active = a.active;
  paused = a.paused;
  line = λ active. next-line program a.temporaries s.work c.work a.work;
}

core-obeys : (program : Program) (beat : Bool) (c : CoreState) → (core_tick (plain_program program) beat c).counts ≡ beat
core-obeys program true c = refl
core-obeys program false c = refl

-- The element form does what the source does.
pub runs-same : (program : Program) → IsSettled program → (script : Script) (beats : List Bool) → IsTrue (is_good_script program.project (variables program) script) → SourceCallsKnown program script beats
    → RunsSame program (plain_core program) script beats
runs-same program h script beats good known =
    let core = plain_program program in
    let goods = good-actions program script good in
    let same : beats_of (core_system core) (core_loaded core) script beats ≡ beats = beats-told (core_system core) (core-obeys program) (core_loaded core) script beats in
    let calls : CallsKnown (IsKnown program.project) (source_moments program script (beats_of (core_system core) (core_loaded core) script beats)) =
    subst (λ bs. CallsKnown (IsKnown program.project) (source_moments program script bs)) (sym same) known in
    let both : tie.RunsAlike (λ line. line) (core_system core) (source_system program) (Plain program) (core_loaded core) (loaded program) script beats =
    runs_alike (Good program) (IsKnown program.project) (λ line. line) (core_system core) (source_system program) (Plain program) (plain-tied program h) script goods (core_loaded core) (loaded program) beats
    (loaded-alike program h.ready) calls in
    let ends : Alike program (source_run program script beats).state (core_run core script beats).state =
    subst (λ bs. Alike program (source_run program script bs).state (core_run core script beats).state) same both.tied in
    let ticks : (core_run core script beats).ticks ≡ (source_run program script beats).ticks = both.ticks ∙ ap (λ bs. (source_run program script bs).ticks) same in
    let behind : Alike program (acted (source_system program) script (source_run program script beats)) (acted (core_system core) script (core_run core script beats)) =
    subst (λ n. Alike program (acted (source_system program) script (source_run program script beats)) (all_acting (core_system core) (core_run core script beats).state (actions_at script n))) (sym ticks)
    (acts-alike program h (actions_at script (source_run program script beats).ticks) (core_run core script beats).state (source_run program script beats).state (goods (source_run program script beats).ticks) ends) in
    record {
      lines = sym (lines-left (core_lines core script beats)) ∙ both.lines ∙ ap (source_lines program script) same;
      same_moments = both.same_moments ∙ ap (source_moments program script) same;
      shows = shows-same program (source_run program script beats).state (core_run core script beats).state ends;
      calls = native-reached program (acted (source_system program) script (source_run program script beats)) (acted (core_system core) script (core_run core script beats)) behind;
    }
