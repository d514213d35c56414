-- From the start of any statement on, up to the first effect: the machine makes the core's step, or meets a native that isn't known.
use Rattle.std.proofs.Common.{◌≡◌, ℕ, suc, ◌+◌, ◌-◌, ◌<◌, ◌≤◌, inl, ◌&&◌, max, Bool, true, false, if◌then◌else◌, nat_le, ℤ, List, [], ◌∷◌, ◌++◌, length, slice_get, Some, None, refl, sym, ap, ◌∙◌, subst, subst₂, arith}
use Rattle.std.specs.Prelude.{option_to_list, slice_index}
use Rattle.aseba_tree.specs.CoreCells.{has_cells, list_has_cells}
use Rattle.aseba_tree.specs.CoreExpr.{CoreExpr, into, into_index}
use Rattle.aseba_tree.specs.Core.{core_stmt, store, branch, on_edge, loop, send, enter, use_native, go_back, CoreStmts}
use Rattle.aseba_tree.specs.CoreNumbers.{core_list_depth}
use Rattle.aseba_tree.specs.CoreRun.{core_next_native, work_call}
use Rattle.aseba_tree.specs.CoreShape.{is_good_expr, is_good_list}
use Rattle.aseba_tree.specs.CoreStep.{CoreTask, perform_core, leave_core, turn_core, back_core, finish_core, CoreState, CoreStepped, core_ended, core_returned, behind_back_core, entered, core_first_done, core_step, core_task_line, core_tasks, core_leaving, core_list_whens}
use Rattle.aseba_tree.specs.Numbers.{nodes, condition_depth}
use Rattle.aseba_vm.specs.declared.opcode.Opcode.TheVariants as opcode
use Rattle.aseba_vm.specs.declared.tick.Tick.TheVariants.{Effect}
use Rattle.aseba_vm.specs.State.{State, ended}
use Rattle.aseba_vm.specs.Tick.{ticked}
use Rattle.aseba_vm.specs.Words.{end_word, sub_return_word, sub_call_word}
use Rattle.aseba_codegen.specs.Words.{store_code, on_line}
use Rattle.aseba_codegen.proofs.Lengths.{on_line-long}
use Rattle.aseba_codegen.proofs.TickRows.{put, Ready, no-call, end-tick}
use Rattle.aseba_codegen.proofs.JumpRows.{call-tick, return-tick}
use Rattle.aseba_codegen.proofs.Reach.{Lined, stands-lined, Reaches, reached}
use Rattle.aseba_codegen.proofs.Values.{and-left}
use Rattle.aseba_codegen.proofs.Monotone.{within-all, readable-more}
use Rattle.aseba_codegen.proofs.Placed.{Frame, stack_of, heavier, Plan, limit, Whole, Back, Does, Returned, Laid, Base, Working, Aligned, Ends, Going, RunsUp}
use Rattle.aseba_codegen.proofs.PlacedLaws.{does-inside, returned, loop-tests, edge-tests, branch-tests, enter-sub}
use Rattle.aseba_codegen.proofs.Bases.{ended-base, put-base, lands-by, no-native, idle, onward, ready, is-active, stack-room}
use Rattle.aseba_codegen.proofs.Stores.{stack-long, cell-run, index-run, send-run}
use Rattle.aseba_codegen.proofs.NativeRuns.{native-runs}
use Rattle.aseba_codegen.proofs.Branches.{test-run, when-run, jump-run}

module _ (plan : Plan) where
  abbrev cells : ℕ
  cells = plan.program.core.cells

  -- The handler ends

  finish-run : (line : ℕ) (rest : List CoreTask) (m : State) (t : CoreState) (at : ℕ) (kept : List ℕ) (stack : List ℤ) (n : ℕ) (frames : List Frame) → Lined plan.code line at (end_word ∷ []) → Going plan m t kept frames
      → Reaches plan.code cells (Ends plan (record { state = core_ended (record t { work = rest }); report = None }) None) n (put m stack at)
  finish-run line rest m t at kept stack n frames lined g =
      let r : CoreState = record t { work = rest } in
      let base : Base plan (ended (put m stack at)) (core_ended r) = ended-base plan (put m stack at) r (put-base plan m t stack at rest g.base) in
      let at_end : Ready (put m stack at) end_word = ready plan m t kept frames stack at line end_word g lined.0 in
      let tick : ticked (put m stack at) ≡ (Effect, ended (put m stack at)) = end-tick (put m stack at) at_end in
      let after : CoreStepped = record { state = core_ended r; report = None } in
      reached plan.code cells (Ends plan after None) n (put m stack at)
      (inl (lands-by plan after None (no-native plan) (put m stack at) (ended (put m stack at)) Effect tick refl refl refl
      (no-call (put m stack at) opcode.End 0 (omega arith) at_end (λ project id. refl) plan.program.project) (idle plan (ended (put m stack at)) (core_ended r) base refl refl)))

  -- A subroutine ends

  -- the address on top of the stack is gone to
  pop-run : (line : ℕ) (rest : List CoreTask) (m : State) (t : CoreState) (at : ℕ) (kept : List ℕ) (n : ℕ) (f : Frame) (frames : List Frame) → Lined plan.code line at (sub_return_word ∷ []) → f.address < 32768
      → Does plan rest f.address f.kept 0 frames → Going plan m t kept (f ∷ frames)
      → Reaches plan.code cells (Ends plan (record { state = record t { work = rest }; report = None }) None) n (put m (stack_of (f ∷ frames)) at)
  pop-run line rest m t at kept n f frames lined low placed g =
      let stack : List ℤ = stack_of (f ∷ frames) in
      let at_return : Ready (put m stack at) sub_return_word = ready plan m t kept (f ∷ frames) stack at line sub_return_word g lined.0 in
      let tick : ticked (put m stack at) ≡ (Effect, put m (stack_of frames) f.address) = return-tick (put m stack at) f.address (stack_of frames) low refl at_return in
      let after : CoreStepped = record { state = record t { work = rest }; report = None } in
      let next : Aligned plan (put m (stack_of frames) f.address) (record t { work = rest }) =
      onward plan (put m (stack_of frames) f.address) (record t { work = rest }) (put-base plan m t (stack_of frames) f.address rest g.base) (is-active plan m t kept (f ∷ frames) g) (record {
        kept = f.kept;
        frames = frames;
        nested = (g.nested).1;
        reads = λ a readable. g.reads a (readable-more plan.program.core f.kept kept (g.nested).0 a readable);
        placed = placed;
        empty = refl;
      }) in
      reached plan.code cells (Ends plan after None) n (put m stack at)
      (inl (lands-by plan after None (no-native plan) (put m stack at) (put m (stack_of frames) f.address) Effect tick refl refl refl
      (no-call (put m stack at) opcode.SubReturn 0 (omega arith) at_return (λ project id. refl) plan.program.project) next))

  back-run : (line : ℕ) (rest : List CoreTask) (m : State) (t : CoreState) (at : ℕ) (kept : List ℕ) (n : ℕ) (frames : List Frame) → Lined plan.code line at (sub_return_word ∷ []) → Back plan (Does plan rest) frames
      → Going plan m t kept frames → Reaches plan.code cells (Ends plan (record { state = record t { work = rest }; report = None }) None) n (put m (stack_of frames) at)
  back-run line rest m t at kept n [] lined back g = absurd back
  back-run line rest m t at kept n (f ∷ frames) lined back g = pop-run line rest m t at kept n f frames lined back.0 back.1 g

  -- a `return` in the middle, of a handler or of a subroutine
  return-run : (before line : ℕ) (rest : List CoreTask) (m : State) (t : CoreState) (at : ℕ) (kept : List ℕ) (weighs n : ℕ) (frames : List Frame) → Whole plan before line go_back at kept weighs frames
      → Returned plan rest frames → Going plan m t kept frames
      → Reaches plan.code cells (Ends plan (core_returned (record t { work = rest }) (behind_back_core rest)) None) n (put m (stack_of frames) at)
  return-run before line rest m t at kept weighs n [] fits found g =
      let lined : Lined plan.code line at (end_word ∷ []) = stands-lined plan.code line at (end_word ∷ []) fits.stands in
      subst (λ o. Reaches plan.code cells (Ends plan (core_returned (record t { work = rest }) o) None) n (put m [] at)) (sym found)
      (finish-run line rest m t at kept [] n [] lined g)
  return-run before line rest m t at kept weighs n (f ∷ frames) fits found g =
      let lined : Lined plan.code line at (sub_return_word ∷ []) = stands-lined plan.code line at (sub_return_word ∷ []) fits.stands in
      subst (λ o. Reaches plan.code cells (Ends plan (core_returned (record t { work = rest }) o) None) n (put m (stack_of (f ∷ frames)) at)) (sym found.1)
      (pop-run line found.0 m t at kept n f frames lined found.2 found.3 g)

  -- A subroutine begins

  enter-run : Laid plan → (which before line : ℕ) (rest : List CoreTask) (m : State) (t : CoreState) (at : ℕ) (kept : List ℕ) (weighs n : ℕ) (frames : List Frame) → Whole plan before line (enter which) at kept weighs frames
      → Does plan rest (at + 1) kept 0 frames → Going plan m t kept frames
      → Reaches plan.code cells (Ends plan (record { state = record t { work = entered plan.program.core which (slice_get plan.program.core.parts which) ++ rest }; report = None }) None) n (put m (stack_of frames) at)
  enter-run laid which before line rest m t at kept weighs n frames fits behind g =
      let start : ℕ = slice_index plan.starts which in
      let work : List CoreTask = entered plan.program.core which (slice_get plan.program.core.parts which) ++ rest in
      let f : Frame = record { address = at + 1; kept = kept } in
      let stack : List ℤ = stack_of frames in
      let lined : Lined plan.code line at (sub_call_word start ∷ []) = stands-lined plan.code line at (sub_call_word start ∷ []) fits.stands in
      let inside : at + 1 < length plan.code = does-inside plan rest (at + 1) kept 0 frames behind in
      let short = laid.short in
      let sub = enter-sub plan laid which before line rest at kept weighs frames fits (omega arith) behind in
      let there : start < length plan.code = does-inside plan work start kept 0 (f ∷ frames) sub.1 in
      let memory = g.base.memory in
      let deep : length frames + (1 + plan.subs which) ≤ limit plan = fits.room in
      let high : length stack < m.shape.stack = let r = stack-room plan m t g.base in omega (arith, stack-long frames) in
      let at_call : Ready (put m stack at) (sub_call_word start) = ready plan m t kept frames stack at line (sub_call_word start) g lined.0 in
      let tick : ticked (put m stack at) ≡ (Effect, put m (stack_of (f ∷ frames)) start) = call-tick (put m stack at) start sub.0 at_call high (omega arith) in
      let after : CoreStepped = record { state = record t { work = work }; report = None } in
      let next : Aligned plan (put m (stack_of (f ∷ frames)) start) (record t { work = work }) =
      onward plan (put m (stack_of (f ∷ frames)) start) (record t { work = work }) (put-base plan m t (stack_of (f ∷ frames)) start work g.base) (is-active plan m t kept frames g)
      (record { kept = kept; frames = f ∷ frames; nested = (within-all kept, g.nested); reads = g.reads; placed = sub.1; empty = refl }) in
      reached plan.code cells (Ends plan after None) n (put m stack at)
      (inl (lands-by plan after None (no-native plan) (put m stack at) (put m (stack_of (f ∷ frames)) start) Effect tick refl refl refl
      (no-call (put m stack at) opcode.SubCall start sub.0 at_call (λ project id. refl) plan.program.project) next))

  -- All forms

  loop-run : Laid plan → (before line : ℕ) (c : CoreExpr) (body : CoreStmts) (rest : List CoreTask) → RunsUp plan (perform_core before (core_stmt line (loop c body)) ∷ rest)
  loop-run laid before line c body rest m t at kept weighs n frames placed total g =
      let fits = placed.0 in
      let tests = loop-tests plan before line c body rest at kept weighs frames fits placed.2 in
      let good : is_good_expr plan.program.core kept c ≡ true = and-left (is_good_expr plan.program.core kept c) (is_good_list plan.program.project plan.program.core [] body) fits.good in
      let numbers : has_cells c ≡ true = and-left (has_cells c) (list_has_cells body) fits.numbers in
      let room : length frames + max (condition_depth c) (core_list_depth plan.subs body) ≤ limit plan = fits.room in
      test-run plan laid line c (core_tasks before body ++ turn_core (perform_core before (core_stmt line (loop c body))) ∷ []) [] rest m t at kept weighs n frames tests good numbers (omega arith) fits.light total g

  edge-run : Laid plan → (before line : ℕ) (c : CoreExpr) (body : CoreStmts) (rest : List CoreTask) → RunsUp plan (perform_core before (core_stmt line (on_edge c body)) ∷ rest)
  edge-run laid before line c body rest m t at kept weighs n frames placed total g =
      let fits = placed.0 in
      let tests = edge-tests plan before line c body rest at kept weighs frames fits placed.2 in
      let good : is_good_expr plan.program.core kept c ≡ true = and-left (is_good_expr plan.program.core kept c) (is_good_list plan.program.project plan.program.core [] body) fits.good in
      let numbers : has_cells c ≡ true = and-left (has_cells c) (list_has_cells body) fits.numbers in
      let room : length frames + max (condition_depth c) (core_list_depth plan.subs body) ≤ limit plan = fits.room in
      when-run plan laid before line c (core_tasks (suc before) body) rest m t at kept weighs n frames tests.0 tests.1 good numbers (omega arith) fits.light total g

  branch-run : Laid plan → (before line : ℕ) (c : CoreExpr) (body other : CoreStmts) (rest : List CoreTask) → RunsUp plan (perform_core before (core_stmt line (branch c body other)) ∷ rest)
  branch-run laid before line c body other rest m t at kept weighs n frames placed total g =
      let fits = placed.0 in
      let tests = branch-tests plan before line c body other rest at kept weighs frames fits placed.2 in
      let a : Bool = is_good_expr plan.program.core kept c in
      let b : Bool = is_good_list plan.program.project plan.program.core [] body in
      let good : a ≡ true = and-left a b (and-left (a && b) (is_good_list plan.program.project plan.program.core [] other) fits.good) in
      let numbers : has_cells c ≡ true = and-left (has_cells c) (list_has_cells body) (and-left (has_cells c && list_has_cells body) (list_has_cells other) fits.numbers) in
      let room : length frames + max (condition_depth c) (max (core_list_depth plan.subs body) (core_list_depth plan.subs other)) ≤ limit plan = fits.room in
      test-run plan laid line c (core_tasks before body ++ core_leaving line other) (core_tasks (before + core_list_whens body) other) rest m t at kept weighs n frames tests good numbers (omega arith) fits.light total g

  -- Every work that is placed is run up to its next effect.
  pub flow-run : Laid plan → (work : List CoreTask) → RunsUp plan work
  flow-run laid [] m t at kept weighs n frames placed total g = absurd placed
  flow-run laid (perform_core before (core_stmt line (store (into a) e)) ∷ rest) m t at kept weighs n frames placed total g =
      let long : length (on_line line (store_code (into a) e)) ≡ length (store_code (into a) e) = on_line-long line (store_code (into a) e) in
      let kept_too : List ℕ = option_to_list (if nat_le cells a then Some a else None) ++ kept in
      let weighs_too : ℕ = heavier (if nat_le cells a then Some (nodes e + 1) else None) weighs in
      cell-run plan (nat_le cells a) before line a e rest refl (flow-run laid rest) m t at kept weighs n frames placed.0 placed.1 (subst (λ k. Does plan rest (at + k) kept_too weighs_too frames) long placed.2) total g
  flow-run laid (perform_core before (core_stmt line (store (into_index base size i) e)) ∷ rest) m t at kept weighs n frames placed total g =
      let long : length (on_line line (store_code (into_index base size i) e)) ≡ length (store_code (into_index base size i) e) = on_line-long line (store_code (into_index base size i) e) in
      index-run plan before line base size i e rest m t at kept weighs n frames placed.0 (subst (λ k. Does plan rest (at + k) kept 0 frames) long placed.2) total g
  flow-run laid (perform_core before (core_stmt line (send event address count)) ∷ rest) m t at kept weighs n frames placed total g =
      send-run plan before line event address count rest m t at kept weighs n frames laid.few_events placed.0 placed.2 g
  flow-run laid (perform_core before (core_stmt line (branch c body other)) ∷ rest) m t at kept weighs n frames placed total g =
      branch-run laid before line c body other rest m t at kept weighs n frames placed total g
  flow-run laid (perform_core before (core_stmt line (on_edge c body)) ∷ rest) m t at kept weighs n frames placed total g =
      edge-run laid before line c body rest m t at kept weighs n frames placed total g
  flow-run laid (perform_core before (core_stmt line (loop c body)) ∷ rest) m t at kept weighs n frames placed total g =
      loop-run laid before line c body rest m t at kept weighs n frames placed total g
  flow-run laid (perform_core before (core_stmt line (enter which)) ∷ rest) m t at kept weighs n frames placed total g =
      enter-run laid which before line rest m t at kept weighs n frames placed.0 placed.2 g
  flow-run laid (perform_core before (core_stmt line (use_native id values)) ∷ rest) m t at kept weighs n frames placed total g =
      native-runs plan laid before line id values rest m t at kept weighs n frames placed total g
  flow-run laid (perform_core before (core_stmt line go_back) ∷ rest) m t at kept weighs n frames placed total g =
      return-run before line rest m t at kept weighs n frames placed.0 (returned plan rest _ _ _ frames placed.2) g
  flow-run laid (leave_core line ∷ rest) m t at kept weighs n frames placed total g =
      jump-run plan laid line placed.0 rest m t at kept weighs n frames placed.1 (does-inside plan (leave_core line ∷ rest) at kept weighs frames placed) placed.2 total g
  flow-run laid (turn_core again ∷ rest) m t at kept weighs n frames placed total g =
      jump-run plan laid (core_task_line again) placed.0 (again ∷ rest) m t at kept weighs n frames placed.1 (does-inside plan (turn_core again ∷ rest) at kept weighs frames placed) placed.3 total g
  flow-run laid (back_core line ∷ rest) m t at kept weighs n frames placed total g = back-run line rest m t at kept n frames placed.0 placed.2 g
  flow-run laid (finish_core line ∷ rest) m t at kept weighs n frames placed total g = finish-run line rest m t at kept (stack_of frames) n frames placed.0 g

  step-is : (s : CoreState) → s.active ≡ true → s.paused ≡ false → core_step plan.program s ≡ core_first_done plan.program s s.work
  unfolding core_step
  step-is s active unpaused = rw (active, unpaused) refl

  call-is : (s : CoreState) → s.active ≡ true → s.paused ≡ false → core_next_native plan.program s ≡ work_call plan.program s.work s.cells
  call-is s active unpaused = rw (active, unpaused) refl

  -- A machine that works, and isn't paused, makes the core's step within the weight of the code.
  pub reach : Laid plan → (m : State) (s : CoreState) → Base plan m s → Working plan m s → s.active ≡ true → s.paused ≡ false
      → Reaches plan.code cells (Ends plan (core_step plan.program s) (core_next_native plan.program s)) (plan.weight - 1) m
  reach laid m s base works active unpaused =
      let G : State → Type 0 = Ends plan (core_first_done plan.program s s.work) (work_call plan.program s.work s.cells) in
      let heavy = laid.heavy in
      let going : Going plan m s works.kept works.frames = record {
        base = base;
        nested = works.nested;
        reads = works.reads;
        active = base.same_active ∙ active;
        unpaused = base.same_paused ∙ unpaused;
      } in
      let run : Reaches plan.code cells G (plan.weight - 1) (put m (stack_of works.frames) m.pc) =
      flow-run laid s.work m s m.pc works.kept 0 (plan.weight - 1) works.frames works.placed (omega arith) going in
      let same : put m m.stack m.pc ≡ put m (stack_of works.frames) m.pc = ap (λ stack. put m stack m.pc) works.empty in
      let here : Reaches plan.code cells G (plan.weight - 1) m = subst (λ n. Reaches plan.code cells G (plan.weight - 1) n) (sym same) run in
      subst₂ (λ after call. Reaches plan.code cells (Ends plan after call) (plan.weight - 1) m) (sym (step-is s active unpaused)) (sym (call-is s active unpaused)) here
