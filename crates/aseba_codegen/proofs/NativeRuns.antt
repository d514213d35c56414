-- The code of a call of a native: it pushes the values and then does in the machine what it does in the core, or it meets a native that isn't known.
use Rattle.std.proofs.Common.{◌≡◌, ℕ, zero, suc, ◌+◌, ◌-◌, ◌<◌, ◌≤◌, ◌≢◌, ◌⊎◌, inl, inr, Bool, true, false, ℤ, List, [], ◌∷◌, length, map, slice_get, Option, Some, None, refl, sym, ap, ◌∙◌, subst, arith, true≢false}
use Rattle.std.proofs.lemmas.List.{length-map}
use Rattle.std.specs.Cmp.Rules.{signed_items}
use Rattle.std.specs.Cmp.Lexicographic.{pointwise}
use Rattle.std.specs.Prelude.{option_map}
use Rattle.std.specs.Int.{cast_signed, w16}
use Rattle.std.specs.Ordering.{int_eq}
use Rattle.aseba_words.specs.Natives.{native_params}
use Rattle.aseba_natives.specs.Call.{called, end_of}
use Rattle.std.proofs.lemmas.Option.{same_Some}
use Rattle.aseba_tree.specs.Code.{Native}
use Rattle.aseba_tree.specs.Line.{division}
use Rattle.aseba_tree.specs.NativeName.{native_named}
use Rattle.aseba_tree.specs.Core.{core_stmt, use_native}
use Rattle.aseba_tree.specs.CoreShape.{sizes_of_native, is_good_call}
use Rattle.aseba_tree.specs.Run.{Knows}
use Rattle.aseba_tree.specs.Step.{IsKnown}
use Rattle.aseba_tree.specs.CoreStep.{CoreTask, perform_core, CoreState, CoreStepped, core_ended, core_native, core_after_native}
use Rattle.aseba_vm.specs.declared.tick.Notice.TheVariants.{Division}
use Rattle.aseba_vm.specs.declared.tick.Tick.TheVariants.{Effect, Sent}
use Rattle.aseba_vm.specs.State.{State}
use Rattle.aseba_vm.specs.Rows.{native_ended}
use Rattle.aseba_vm.specs.Tick.{ticked, settled}
use Rattle.aseba_vm.specs.Words.{native_word}
use Rattle.aseba_target.specs.MachineRun.{next_call}
use Rattle.aseba_codegen.specs.Words.{native_code}
use Rattle.aseba_codegen.specs.Agrees.{line_at}
use Rattle.aseba_codegen.proofs.TickRows.{put, halted, Ready}
use Rattle.aseba_codegen.proofs.Reach.{Lined, stands-lined, line-of, reached}
use Rattle.aseba_codegen.proofs.Exprs.{Runs}
use Rattle.aseba_codegen.proofs.Lengths.{on_line-long}
use Rattle.aseba_codegen.proofs.Values.{readable-below}
use Rattle.aseba_codegen.proofs.Bases.{halted-base, lands-by, idle, onward, runs-of, ready, is-active, stack-room}
use Rattle.aseba_codegen.proofs.Placed.{Frame, stack_of, Plan, limit, placed_code, Whole, Does, Laid, Base, Lands, Meets, Ends, Going, RunsUp}
use Rattle.aseba_codegen.proofs.NativeValues.{onto, values-run}
use Rattle.aseba_codegen.proofs.NativeNames.{sizes-of, named-known}
use Rattle.aseba_codegen.proofs.NativeCalls.{Shares, CalledAlike, call-alike}
use Rattle.aseba_codegen.proofs.NativeTicks.{call-named, call-counts, after_call, called-tick, done-tick, divided-tick}

absent : (o : Option (List ℤ)) (params : List ℤ) → o ≡ None → o ≡ Some params → ⊥
absent o params none some = cc

-- whether a native has these parameters
known-or : (o : Option (List ℤ)) (params : List ℤ) → (o ≡ Some params) ⊎ (o ≢ Some params)
known-or None params = inr (absent None params refl)
known-or (Some ps) params = by_test (pointwise int_eq ps params) refl
  where
    by_test : (b : Bool) → pointwise int_eq ps params ≡ b → (Some ps ≡ Some params) ⊎ (Some ps ≢ Some params)
    by_test true e = inl (ap Some ((signed_items ps params).0 e))
    by_test false e = inr (λ both. let same : ps ≡ params = cc in true≢false (sym ((signed_items ps params).1 same) ∙ e))

-- a native of the project
is-among : (natives : List Native) (id : ℕ) (params : List ℤ) → option_map (λ (native : Native). map (λ p. p.size) native.params) (slice_get natives id) ≡ Some params → id < length natives
is-among [] id params e = absurd (absent None params refl e)
is-among (native ∷ natives) zero params e = omega arith
is-among (native ∷ natives) (suc id) params e = let rest : id < length natives = is-among natives id params e in omega arith

stack-long : (frames : List Frame) → length (stack_of frames) ≡ length frames
stack-long frames = length-map frames (λ f. cast_signed w16 f.address)

module _ (plan : Plan) where
  -- a good call is of a native that the project has
  record Sized (id : ℕ) (values : List ℕ) (kept : List ℕ) : Type 0 where
    params : List ℤ
    has : sizes_of_native plan.program.project id ≡ Some params
    good : is_good_call plan.program.core kept (Some params) values ≡ true

  sized : (id : ℕ) (values : List ℕ) (kept : List ℕ) → is_good_call plan.program.core kept (sizes_of_native plan.program.project id) values ≡ true → Sized id values kept
  sized id values kept good = by_sizes (sizes_of_native plan.program.project id) refl good
    where
      by_sizes : (o : Option (List ℤ)) → sizes_of_native plan.program.project id ≡ o → is_good_call plan.program.core kept o values ≡ true → Sized id values kept
      by_sizes None e good = absurd (true≢false (sym good))
      by_sizes (Some params) e good = record { params = params; has = e; good = good }

  -- Behind a call

  -- the cells are others, on both sides, and alike
  called-base : (m : State) (t : CoreState) (kept : List ℕ) (xs ys : List ℤ) (stack : List ℤ) (pc : ℕ) (work : List CoreTask) → Base plan m t → Shares plan.program.core kept (length m.cells) (length t.cells) xs ys
      → Base plan (record m { cells = xs; stack = stack; pc = pc }) (record t { cells = ys; work = work })
  called-base m t kept xs ys stack pc work h s = record {
    shape = h.shape;
    same_cells = λ a below. s.alike a (readable-below plan.program.core kept a below);
    same_held = h.same_held;
    many = s.long ∙ h.many;
    long = let l = h.long in let e = s.long in omega arith;
    few = let l = h.few in let e = s.long in omega arith;
    held_long = h.held_long ∙ sym s.long;
    core_long = s.core_long ∙ h.core_long;
    core_held_long = h.core_held_long ∙ sym s.core_long;
    memory = h.memory;
    same_bits = h.same_bits;
    holds = h.holds;
    same_active = h.same_active;
    same_paused = h.same_paused;
  }

  -- At the word of the call

  -- a machine with the values of a call on its stack, at the call's word
  module _ (id line at : ℕ) (values kept : List ℕ) (rest : List CoreTask) (frames : List Frame) (m : State) (t : CoreState) (going : Going plan m t kept frames) (low : id < 4096)
      (lined : Lined plan.code line at (native_word id ∷ [])) (placed : Does plan rest (at + 1) kept 0 frames) where
    abbrev here : State
    here = put m (onto values (stack_of frames)) at

    -- what the core comes to, with what the native does
    abbrev behind : Bool × List ℤ → CoreStepped
    behind result = core_after_native line (record t { work = rest }) result

    is_ready : Ready here (native_word id)
    is_ready = ready plan m t kept frames (onto values (stack_of frames)) at line (native_word id) going lined.0

    named : next_call plan.program.project here ≡ Some (native_named plan.program.project id)
    named = call-named plan.program.project here id low is_ready

    lands-done : Knows (IsKnown plan.program.project) (Some (native_named plan.program.project id)) → (ys : List ℤ) → Shares plan.program.core kept (length m.cells) (length t.cells) (called id values m.cells).1 ys
        → ticked here ≡ (Effect, record (after_call here id values (stack_of frames)) { pc = at + 1 })
        → Lands plan (behind (false, ys)) (Some (native_named plan.program.project id)) here
    lands-done known ys shares tick =
        let xs : List ℤ = (called id values m.cells).1 in
        let base = called-base m t kept xs ys (stack_of frames) (at + 1) rest going.base shares in
        lands-by plan (behind (false, ys)) (Some (native_named plan.program.project id)) known here (record (after_call here id values (stack_of frames)) { pc = at + 1 }) Effect tick refl refl refl named
        (onward plan (record (after_call here id values (stack_of frames)) { pc = at + 1 }) (record t { cells = ys; work = rest }) base (is-active plan m t kept frames going)
        (record { kept = kept; frames = frames; nested = going.nested; reads = shares.alike; placed = placed; empty = refl }))

    lands-divided : Knows (IsKnown plan.program.project) (Some (native_named plan.program.project id)) → (ys : List ℤ) → Shares plan.program.core kept (length m.cells) (length t.cells) (called id values m.cells).1 ys
        → ticked here ≡ (Sent (Division at), halted (after_call here id values (stack_of frames)))
        → Lands plan (behind (true, ys)) (Some (native_named plan.program.project id)) here
    lands-divided known ys shares tick =
        let on : line_at plan.code at ≡ line = line-of plan.code at _ lined.0 in
        let xs : List ℤ = (called id values m.cells).1 in
        let after : State = after_call here id values (stack_of frames) in
        let base = called-base m t kept xs ys (stack_of frames) at rest going.base shares in
        lands-by plan (behind (true, ys)) (Some (native_named plan.program.project id)) known here (halted after) (Sent (Division at)) tick refl refl (ap (λ n. Some (division n)) on) named
        (idle plan (halted after) (record (core_ended (record t { cells = ys; work = rest })) { paused = true }) (halted-base plan after (record t { cells = ys; work = rest }) base) refl refl)

    -- a known native
    lands-known : Knows (IsKnown plan.program.project) (Some (native_named plan.program.project id)) → CalledAlike plan.program.core kept (length m.cells) (length t.cells) id values m.cells t.cells
        → Lands plan (behind (core_native id values t.cells)) (Some (native_named plan.program.project id)) here
    lands-known known alike = by_result (core_native id values t.cells) refl
      where
        tick : ticked here ≡ settled (native_ended (end_of (called id values m.cells).0) (after_call here id values (stack_of frames))).0 (native_ended (end_of (called id values m.cells).0) (after_call here id values (stack_of frames))).1
        tick = called-tick here id values (stack_of frames) low refl is_ready alike.count alike.short alike.fits

        by_result : (result : Bool × List ℤ) → core_native id values t.cells ≡ result → Lands plan (behind result) (Some (native_named plan.program.project id)) here
        by_result (false, ys) e =
            lands-done known ys (subst (λ (r : Bool × List ℤ). Shares plan.program.core kept (length m.cells) (length t.cells) (called id values m.cells).1 r.1) e alike.shares)
            (done-tick here id values (stack_of frames) tick (alike.stops ∙ ap (λ (r : Bool × List ℤ). r.0) e))
        by_result (true, ys) e =
            lands-divided known ys (subst (λ (r : Bool × List ℤ). Shares plan.program.core kept (length m.cells) (length t.cells) (called id values m.cells).1 r.1) e alike.shares)
            (divided-tick here id values (stack_of frames) tick (alike.stops ∙ ap (λ (r : Bool × List ℤ). r.0) e))

    -- one that isn't known
    meets : Sized id values kept → native_params id ≢ sizes_of_native plan.program.project id → Meets plan (Some (native_named plan.program.project id)) here
    meets sized unknown = record {
      id = id;
      sized = (sized.params, sized.has);
      unknown = unknown;
      word = (going.base).holds at _ lined.0 refl;
      counts = call-counts plan.program.core.cells here id low is_ready;
      called = named;
      named = refl;
    }

    ends : Sized id values kept → Ends plan (behind (core_native id values t.cells)) (Some (native_named plan.program.project id)) here
    ends sized =
        let room : plan.program.core.cells + plan.program.core.room ≤ length m.cells = (going.base).long in
        let room_too : plan.program.core.cells + plan.program.core.room ≤ length t.cells = let l = (going.base).core_long in omega arith in
        let few : plan.program.core.cells + plan.program.core.room ≤ 4096 = let l = (going.base).few in omega arith in
        let shares : Shares plan.program.core kept (length m.cells) (length t.cells) m.cells t.cells = record { alike = going.reads; long = refl; core_long = refl } in
        let knows : native_params id ≡ Some sized.params → Knows (IsKnown plan.program.project) (Some (native_named plan.program.project id)) =
        λ row name e. subst (IsKnown plan.program.project) (same_Some (native_named plan.program.project id) name e) (named-known plan.program.project id sized.params sized.has row) in
        elim (known-or (native_params id) sized.params) [
          | inl known ↦ inl (lands-known (knows known) (call-alike plan.program.core kept (length m.cells) (length t.cells) room room_too few id sized.params values m.cells t.cells known sized.good shares))
          | inr unknown ↦ inr (meets sized (λ same. unknown (same ∙ sized.has)))
        ]

  -- the code of a call, from the start of the statement on
  pub native-runs : Laid plan → (before line id : ℕ) (values : List ℕ) (rest : List CoreTask) → RunsUp plan (perform_core before (core_stmt line (use_native id values)) ∷ rest)
  native-runs laid before line id values rest m t at kept weighs n frames placed total going =
      let whole : Whole plan before line (use_native id values) at kept weighs frames = placed.0 in
      let words : List ℕ = native_code plan.program.project id values in
      let lined : Lined plan.code line at words = stands-lined plan.code line at words whole.stands in
      let call : Sized id values kept = sized id values kept whole.good in
      let low : id < 4096 = let few = laid.few_natives in let among = is-among plan.program.project.node.natives id call.params (sizes-of plan.program.project id call.params call.has).found in omega arith in
      let runs : Runs plan.code m = runs-of plan m t kept frames going in
      let light : weighs + length values + 3 ≤ plan.weight = whole.light in
      let deep : length frames + length values ≤ limit plan = whole.room in
      let stack : length (stack_of frames) ≡ length frames = stack-long frames in
      let shape : m.shape.stack ≡ limit plan = stack-room plan m t going.base in
      let b : ℕ = n - length values in
      let G : State → Type 0 = Ends plan (core_after_native line (record t { work = rest }) (core_native id values t.cells)) (Some (native_named plan.program.project id)) in
      values-run plan.code plan.program.core.cells G plan.program.project id values m (stack_of frames) at line n b (omega arith) runs lined (omega arith)
      (λ end e word.
      let behind : at + length (placed_code plan frames line (use_native id values)) ≡ end + 1 = ap (λ k. at + k) (on_line-long line words) ∙ e in
      let next : Does plan rest (end + 1) kept 0 frames = subst (λ k. Does plan rest k kept 0 frames) behind placed.2 in
      reached plan.code plan.program.core.cells G b (put m (onto values (stack_of frames)) end) (ends id line end values kept rest frames m t going low word next call))
