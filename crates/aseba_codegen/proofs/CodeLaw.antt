-- The whole run of generated code, whatever arrives.
use Rattle.std.proofs.Common.{◌≡◌, ℕ, suc, ◌-◌, true, List, [], ◌∷◌, sym, ◌∙◌, subst, arith, All}
use Rattle.aseba_tree.specs.Code.{Name}
use Rattle.aseba_tree.specs.Script.{Action, arrives, sets, Script, actions_at}
use Rattle.aseba_tree.specs.Step.{IsKnown}
use Rattle.aseba_tree.specs.CoreStep.{CoreProgram, CoreState, core_loaded}
use Rattle.aseba_tree.specs.CoreRun.{core_system, core_run}
use Rattle.aseba_tree.specs.Run as one_run
use Rattle.aseba_tree.specs.Run.{Run, begin, all_acting, ticks, HasNoError}
use Rattle.aseba_tree.specs.Tied as tie
use Rattle.aseba_tree.specs.Tied.{MetWithin, TiedWithin, Somehow}
use Rattle.aseba_tree.proofs.RunLaws.{runs_alike}
use Rattle.aseba_tree.proofs.PaceLaws.{tied_somehow, paced}
use Rattle.aseba_vm.specs.State.{State}
use Rattle.aseba_vm.specs.Tick.{ticked}
use Rattle.aseba_target.specs.Node.{Layout}
use Rattle.aseba_target.specs.MachineRun.{is_effect, machine_system, machine_run, machine_moments, machine_beats}
use Rattle.aseba_codegen.specs.Agrees.{line_at, RunsAlike}
use Rattle.aseba_codegen.specs.CodeRuns.{IsRun, CoreCallsKnown, CallsAlike, CodeRuns, CodeCalls, machine_before, core_before}
use Rattle.aseba_codegen.proofs.FirstState.{first-aligned}
use Rattle.aseba_codegen.proofs.Flow.{reach}
use Rattle.aseba_codegen.proofs.GoodEntries.{good-actions}
use Rattle.aseba_codegen.proofs.LaidOut.{plan_of, laid, handled}
use Rattle.aseba_codegen.proofs.NativeNames.{row-known}
use Rattle.aseba_codegen.proofs.Placed.{Plan, Laid}
use Rattle.aseba_codegen.proofs.PlacedLaws.{does-line}
use Rattle.aseba_codegen.proofs.Scripts.{Ready, Near, Good, near-start, code-tied, calls-alike, seen}
use Rattle.aseba_codegen.proofs.Shown.{core-sound}
use Rattle.aseba_codegen.proofs.Standing.{Reaching}

module _ (program : CoreProgram) (layout : Layout) (m : State) (script : Script) (h : IsRun program layout m script) where
  abbrev plan : Plan
  plan = plan_of program

  abbrev Known : Name → Type 0
  Known = IsKnown program.project

  -- the code does what it has to
  ready : Ready plan layout Known
  ready =
      let all : Laid plan = laid program h.room in
      let reaches : Reaching plan =
      λ n s base working active unpaused. reach plan all n s base working (sym base.same_active ∙ active) (sym base.same_paused ∙ unpaused) in
      record {
        reach = reaches;
        on_line = does-line plan;
        handling = handled program h.room;
        heavy = all.heavy;
        events = ((h.room).node).events;
        laid = h.laid;
        placed = h.places;
        rows = row-known program.project;
      }

  abbrev f : ℕ → ℕ
  f = line_at plan.code

  abbrev one : one_run.System State
  one = machine_system program.project layout

  abbrev two : one_run.System CoreState
  two = core_system program

  abbrev loaded : CoreState
  loaded = core_loaded program

  abbrev R : ℕ → State → CoreState → Type 0
  R = Near plan layout Known

  tied : TiedWithin (Good plan layout Known) Known f one two plan.weight R
  tied = code-tied plan layout Known ready

  start : R (plan.weight - 1) m loaded
  start = near-start plan layout Known ready.heavy m loaded (first-aligned program h.room m h.started)

  good : (k : ℕ) → All (Good plan layout Known) (actions_at script k)
  good = good-actions program.project program.variables script h.good

  alike : (n : ℕ) → CoreCallsKnown program layout m script n → tie.RunsAlike f one two (Somehow R) m loaded script (ticks n)
  alike n known =
      runs_alike (Good plan layout Known) Known f one two (Somehow R) (tied_somehow (Good plan layout Known) Known f one two plan.weight R tied) script good m loaded (ticks n) (plan.weight - 1, start) known

  pub runs : (n : ℕ) → CoreCallsKnown program layout m script n → RunsAlike program layout m script n
  runs n known =
      let all : tie.RunsAlike f one two (Somehow R) m loaded script (ticks n) = alike n known in
      let pace : one_run.Paced plan.weight (machine_moments program.project layout m script n) =
      paced (Good plan layout Known) Known f one two plan.weight R tied script good (plan.weight - 1) m loaded (ticks n) start known in
      record {
        ticks = all.ticks;
        effects = all.effects;
        lines = all.lines;
        same_moments = all.same_moments;
        seen = seen plan layout Known ready.on_line (all.tied).0 (machine_run program.project layout m script n).state (core_run program script (machine_beats program.project layout m script n)).state (all.tied).1;
        paced = subst (one_run.Paced plan.weight) all.same_moments pace;
        no_error = subst HasNoError (sym all.same_moments) (core-sound program script (machine_beats program.project layout m script n) (begin loaded));
      }

  -- what a script has for a tick keeps machine and core tied
  acted-near : (actions : List Action) (b : ℕ) (n : State) (s : CoreState) → All (Good plan layout Known) actions → R b n s → Somehow R (all_acting one n actions) (all_acting two s actions)
  acted-near [] b n s all r = (b, r)
  acted-near (arrives event source args ∷ actions) b n s all r =
      let met : MetWithin (Good plan layout Known) Known f one two R b (one.arrive event source args n) (two.arrive event source args s) = tied.meets b event source args n s (all 0 (arrives event source args) (omega arith)) r in
      acted-near actions met.left (one.arrive event source args n).state (two.arrive event source args s).state (λ k d below. all (suc k) d (omega arith)) met.tied
  acted-near (sets name first values ∷ actions) b n s all r =
      acted-near actions b (one.write name first values n) (two.write name first values s) (λ k d below. all (suc k) d (omega arith)) (tied.writes b name first values n s (all 0 (sets name first values) (omega arith)) r)

  pub calls : (n : ℕ) → CoreCallsKnown program layout m script n → is_effect layout.cells (ticked (machine_before program layout m script n)).0 ≡ true
      → CallsAlike program (machine_before program layout m script n) (core_before program layout m script n)
  calls n known counts =
      let all : tie.RunsAlike f one two (Somehow R) m loaded script (ticks n) = alike n known in
      let run : Run State = machine_run program.project layout m script n in
      let core : Run CoreState = core_run program script (machine_beats program.project layout m script n) in
      let near : Somehow R (all_acting one run.state (actions_at script run.ticks)) (all_acting two core.state (actions_at script run.ticks)) =
      acted-near (actions_at script run.ticks) (all.tied).0 run.state core.state (good run.ticks) (all.tied).1 in
      let now : Somehow R (machine_before program layout m script n) (core_before program layout m script n) =
      subst (λ t. Somehow R (machine_before program layout m script n) (all_acting two core.state (actions_at script t))) all.ticks near in
      calls-alike plan layout Known ready now.0 (machine_before program layout m script n) (core_before program layout m script n) now.1 counts

pub code_calls : CodeCalls
code_calls program layout m script n h known counts = calls program layout m script h n known counts

pub code_runs : CodeRuns
code_runs program layout m script n h known = runs program layout m script h n known
