-- Machine and core at every tick: the machine is some ticks without an effect behind the start of a statement, at which it stood at the core's state.
use Rattle.std.proofs.Common.{◌≡◌, ℕ, zero, suc, ◌+◌, ◌-◌, ◌<◌, ◌≤◌, ◌⊎◌, inl, inr, Bool, true, false, not, ◌&&◌, List, [], length, slice_index_or, Option, None, refl, sym, ap, ◌∙◌, subst, arith, true≢false}
use Rattle.aseba_tree.specs.Code.{Name}
use Rattle.aseba_tree.specs.CoreStep.{CoreTask, CoreState, CoreStepped, core_step, core_next_line, core_is_running, core_work_line}
use Rattle.aseba_tree.specs.CoreRun.{core_next_native}
use Rattle.aseba_vm.specs.declared.tick.Tick.{Tick}
use Rattle.aseba_vm.specs.declared.tick.Tick.TheVariants.{Idle, Paused}
use Rattle.aseba_vm.specs.State.{State}
use Rattle.aseba_vm.specs.Tick.{ticked}
use Rattle.aseba_vm.proofs.Ticks.{ticked-idle, ticked-paused}
use Rattle.aseba_target.specs.MachineRun.{is_effect, is_running}
use Rattle.aseba_codegen.specs.Agrees.{line_at}
use Rattle.aseba_codegen.specs.Places.{HasBits}
use Rattle.aseba_codegen.proofs.Reach.{Holds, Same, Hidden, Reaches}
use Rattle.aseba_codegen.proofs.Placed.{Frame, Plan, Does, Base, Working, Aligned, Ends}
use Rattle.aseba_codegen.proofs.Silences.{Silent, silent-same, silent-more, Left, silent-left}

-- a machine that isn't paused
abbrev pub lifted : State → State
lifted m = record m { paused = false }

pub lifted-is : (m : State) → m.paused ≡ false → lifted m ≡ m
lifted-is m h = λ i. record m { paused = sym h i }

module _ (plan : Plan) where
  -- A machine that has done so many ticks of a statement, at whose start it stood at this state of the core. Ticks are counted where the machine isn't paused.
  pub record Behind (k : ℕ) (m : State) (s : CoreState) : Type 0 where
    pub start : State
    pub working : Working plan start s
    pub silent : Silent plan.code plan.program.core.cells k (lifted start) (lifted m)

  -- machine and core at a moment
  pub record Standing (k : ℕ) (m : State) (s : CoreState) : Type 0 where
    pub base : Base plan m s
    pub behind : s.active ≡ true → Behind k m s
    pub spent : s.active ≡ false → m.stack ≡ []

  -- from the start of a statement on, the step is at most so many ticks away that the weight is kept
  abbrev pub Reaching : Type 0
  Reaching =
      (m : State) (s : CoreState) → Base plan m s → Working plan m s → m.active ≡ true → m.paused ≡ false
      → Reaches plan.code plan.program.core.cells (Ends plan (core_step plan.program s) (core_next_native plan.program s)) (plan.weight - 1) m

  -- the line of a place is that of the work which is done there
  abbrev pub OnLine : Type 0
  OnLine = (work : List CoreTask) (at : ℕ) (kept : List ℕ) (weighs : ℕ) (frames : List Frame) → Does plan work at kept weighs frames → line_at plan.code at ≡ core_work_line work

  -- Ticks without an effect keep what both have in common, and it was so before them.
  pub base-on : (m n : State) (s : CoreState) → Base plan m s → Same plan.code plan.program.core.cells m n → Base plan n s
  base-on m n s h k = record {
    shape = k.shape ∙ h.shape;
    same_cells = λ a below. k.each a below ∙ h.same_cells a below;
    same_held = λ a below. ap (λ held. slice_index_or held a None) k.held ∙ h.same_held a below;
    many = k.many ∙ h.many;
    long = let l = h.long in let e = k.many in omega arith;
    few = let l = h.few in let e = k.many in omega arith;
    held_long = ap length k.held ∙ h.held_long ∙ sym k.many;
    core_long = h.core_long;
    core_held_long = h.core_held_long;
    memory = let l = h.memory in let e = ap length k.memory in omega arith;
    same_bits = subst (λ memory. HasBits plan.code memory plan.places s.bits) (sym k.memory) h.same_bits;
    holds = subst (λ memory. Holds plan.code memory) (sym k.memory) h.holds;
    same_active = k.active ∙ h.same_active;
    same_paused = k.paused ∙ h.same_paused;
  }

  base-back : (m n : State) (s : CoreState) → Base plan n s → Same plan.code plan.program.core.cells m n → Base plan m s
  base-back m n s h k = record {
    shape = sym k.shape ∙ h.shape;
    same_cells = λ a below. sym (k.each a below) ∙ h.same_cells a below;
    same_held = λ a below. sym (ap (λ held. slice_index_or held a None) k.held) ∙ h.same_held a below;
    many = sym k.many ∙ h.many;
    long = let l = h.long in let e = k.many in omega arith;
    few = let l = h.few in let e = k.many in omega arith;
    held_long = sym (ap length k.held) ∙ h.held_long ∙ k.many;
    core_long = h.core_long;
    core_held_long = h.core_held_long;
    memory = let l = h.memory in let e = ap length k.memory in omega arith;
    same_bits = subst (λ memory. HasBits plan.code memory plan.places s.bits) k.memory h.same_bits;
    holds = subst (λ memory. Holds plan.code memory) k.memory h.holds;
    same_active = sym k.active ∙ h.same_active;
    same_paused = sym k.paused ∙ h.same_paused;
  }

  working-lifted : (m : State) (s : CoreState) → Working plan m s → Working plan (lifted m) s
  working-lifted m s w = record { kept = w.kept; frames = w.frames; nested = w.nested; reads = w.reads; placed = w.placed; empty = w.empty }

  -- at the start of a statement, or without a handler
  pub standing-start : (m : State) (s : CoreState) → Aligned plan m s → Standing zero m s
  standing-start m s h = record {
    base = h.base;
    behind = λ active. record { start = m; working = h.works active; silent = refl };
    spent = h.spent;
  }

  -- the line of the counter
  pub standing-line : OnLine → (k : ℕ) (m : State) (s : CoreState) → Standing k m s → s.active ≡ true → line_at plan.code m.pc ≡ core_next_line s
  standing-line on_line k m s h active =
      let b : Behind k m s = h.behind active in
      let w : Working plan b.start s = b.working in
      let same : Same plan.code plan.program.core.cells (lifted b.start) (lifted m) = silent-same plan.code plan.program.core.cells k (lifted b.start) (lifted m) b.silent in
      same.line ∙ on_line s.work b.start.pc w.kept 0 w.frames w.placed

  pub standing-runs : (k : ℕ) (m : State) (s : CoreState) → Standing k m s → is_running m ≡ core_is_running s
  standing-runs k m s h = λ i. (h.base).same_active i && not ((h.base).same_paused i)

  -- a pause, or its end, changes nothing else
  pub standing-paused : (pause : Bool) (k : ℕ) (m : State) (s : CoreState) → Standing k m s → Standing k (record m { paused = pause }) (record s { paused = pause })
  standing-paused pause k m s h =
      let base : Base plan m s = h.base in
      record {
        base = record {
          shape = base.shape;
          same_cells = base.same_cells;
          same_held = base.same_held;
          many = base.many;
          long = base.long;
          few = base.few;
          held_long = base.held_long;
          core_long = base.core_long;
          core_held_long = base.core_held_long;
          memory = base.memory;
          same_bits = base.same_bits;
          holds = base.holds;
          same_active = base.same_active;
          same_paused = refl;
        };
        behind = λ active. let b : Behind k m s = h.behind active in let w : Working plan b.start s = b.working in
            record {
              start = b.start;
              working = record { kept = w.kept; frames = w.frames; nested = w.nested; reads = w.reads; placed = w.placed; empty = w.empty };
              silent = b.silent;
            };
        spent = h.spent;
      }

  loud : (after : CoreStepped) (call : Option Name) (x : State) → Ends plan after call x → is_effect plan.program.core.cells (ticked x).0 ≡ true
  loud after call x ends = elim ends [ inl lands ↦ lands.counts | inr meets ↦ meets.counts ]

  -- Where a handler runs, the ticks that are done count among the weight, and the step is reached behind those that are left.
  pub standing-reach : Reaching → (k : ℕ) (m : State) (s : CoreState) → Standing k m s → s.active ≡ true → s.paused ≡ false
      → Left plan.code plan.program.core.cells (Ends plan (core_step plan.program s) (core_next_native plan.program s)) k (plan.weight - 1) m
  standing-reach reach k m s h active unpaused =
      let cells : ℕ = plan.program.core.cells in
      let b : Behind k m s = h.behind active in
      let running : m.paused ≡ false = (h.base).same_paused ∙ unpaused in
      let here : lifted m ≡ m = lifted-is m running in
      let same : Same plan.code cells (lifted b.start) (lifted m) = silent-same plan.code cells k (lifted b.start) (lifted m) b.silent in
      let base : Base plan (lifted b.start) s = base-back (lifted b.start) (lifted m) s (subst (λ n. Base plan n s) (sym here) h.base) same in
      let on : (lifted b.start).active ≡ true = base.same_active ∙ active in
      subst (λ n. Left plan.code cells (Ends plan (core_step plan.program s) (core_next_native plan.program s)) k (plan.weight - 1) n) here
      (silent-left plan.code cells (Ends plan (core_step plan.program s) (core_next_native plan.program s)) (loud (core_step plan.program s) (core_next_native plan.program s)) k (plan.weight - 1) (lifted b.start) (lifted m) b.silent
      (reach (lifted b.start) s base (working-lifted b.start s b.working) on refl))

  -- one more tick without an effect
  pub standing-more : (k : ℕ) (m : State) (s : CoreState) → Standing k m s → s.active ≡ true → s.paused ≡ false → Hidden plan.code plan.program.core.cells m → Standing (suc k) (ticked m).1 s
  standing-more k m s h active unpaused hidden =
      let cells : ℕ = plan.program.core.cells in
      let b : Behind k m s = h.behind active in
      let running : m.paused ≡ false = (h.base).same_paused ∙ unpaused in
      let here : lifted m ≡ m = lifted-is m running in
      let there : lifted (ticked m).1 ≡ (ticked m).1 = lifted-is (ticked m).1 ((hidden.same).paused ∙ running) in
      let up : Silent plan.code cells (suc k) (lifted b.start) (ticked m).1 =
      silent-more plan.code cells k (lifted b.start) m (subst (λ n. Silent plan.code cells k (lifted b.start) n) here b.silent) hidden in
      record {
        base = base-on m (ticked m).1 s h.base hidden.same;
        behind = λ on. record { start = b.start; working = b.working; silent = subst (λ n. Silent plan.code cells (suc k) (lifted b.start) n) (sym there) up };
        spent = λ rests. absurd (true≢false (sym active ∙ rests));
      }

  -- What the next tick is: the step, or the call of a native that isn't known; a tick without an effect; or none, where no handler runs.
  pub record Steps (m : State) (s : CoreState) : Type 0 where
    pub active : s.active ≡ true
    pub unpaused : s.paused ≡ false
    pub ends : Ends plan (core_step plan.program s) (core_next_native plan.program s) m

  pub record Waits (k : ℕ) (m : State) (s : CoreState) : Type 0 where
    pub active : s.active ≡ true
    pub light : suc k < plan.weight
    pub hidden : Hidden plan.code plan.program.core.cells m
    pub next : Standing (suc k) (ticked m).1 s

  pub record Rests (m : State) (s : CoreState) : Type 0 where
    pub rests : core_is_running s ≡ false
    pub tick : Tick
    pub is_rest : (tick ≡ Idle) ⊎ (tick ≡ Paused)
    pub same : ticked m ≡ (tick, m)

  abbrev pub NextTick : ℕ → State → CoreState → Type 0
  NextTick k m s = Steps m s ⊎ (Waits k m s ⊎ Rests m s)

  pub next-tick : Reaching → 3 ≤ plan.weight → (k : ℕ) (m : State) (s : CoreState) → Standing k m s → NextTick k m s
  next-tick reach heavy k m s h = by_active s.active refl
    where
      by_left : s.active ≡ true → s.paused ≡ false → (left : ℕ) → plan.weight - 1 ≡ k + left
          → Reaches plan.code plan.program.core.cells (Ends plan (core_step plan.program s) (core_next_native plan.program s)) left m → NextTick k m s
      by_left active unpaused zero e ends = inl (record { active = active; unpaused = unpaused; ends = ends })
      by_left active unpaused (suc left) e reaches = elim reaches [
        | inl ends ↦ inl (record { active = active; unpaused = unpaused; ends = ends })
        | inr later ↦ inr (inl (record { active = active; light = omega arith; hidden = later.0; next = standing-more k m s h active unpaused later.0 }))
      ]

      by_paused : (b : Bool) → s.active ≡ true → s.paused ≡ b → NextTick k m s
      by_paused true active paused =
          let on : m.active ≡ true = (h.base).same_active ∙ active in
          let held : m.paused ≡ true = (h.base).same_paused ∙ paused in
          inr (inr (record { rests = rw (active, paused) refl; tick = Paused; is_rest = inr refl; same = ticked-paused m on held }))
      by_paused false active unpaused =
          let l = standing-reach reach k m s h active unpaused in by_left active unpaused l.0 l.1 l.2

      by_active : (b : Bool) → s.active ≡ b → NextTick k m s
      by_active true active = by_paused s.paused active refl
      by_active false rests =
          inr (inr (record { rests = rw rests refl; tick = Idle; is_rest = inl refl; same = ticked-idle m ((h.base).same_active ∙ rests) }))
