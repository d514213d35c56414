-- What machine and core have in common is kept: by stores, by what a `when` remembers, and by the end of a handler. A tick that is an effect lands.
use Rattle.std.proofs.Common.{◌≡◌, ℕ, zero, suc, ◌+◌, ◌<◌, ◌≢◌, inl, ◌&&◌, ◌||◌, Bool, true, false, nat_lt, ℤ, pos, List, [], ◌∷◌, length, slice_get, slice_index_or, slice_set, Option, Some, None, refl, sym, ap, ◌∙◌, subst, arith, true≢false, eqb-true, nat_eq, length-set, get_or-set_same}
use Rattle.std.proofs.lemmas.List.{length-replicate, length-map}
use Rattle.std.specs.Prelude.{option_map}
use Rattle.aseba_tree.specs.Code.{Name}
use Rattle.aseba_tree.specs.Line.{report_by}
use Rattle.aseba_tree.specs.Value.{Stop, by_zero, outside}
use Rattle.aseba_tree.specs.Step.{stop_report, IsKnown}
use Rattle.aseba_tree.specs.Run.{Knows}
use Rattle.aseba_tree.specs.CoreShape.{is_readable, stands_in}
use Rattle.aseba_tree.specs.CoreStep.{CoreTask, CoreState, CoreStepped, core_ended, core_stored, core_stopped}
use Rattle.aseba_vm.specs.declared.tick.Tick.{Tick}
use Rattle.aseba_vm.specs.declared.tick.Tick.TheVariants.{Sent}
use Rattle.aseba_vm.specs.State.{State, ended}
use Rattle.aseba_vm.specs.Instructions.{remembering}
use Rattle.aseba_vm.specs.Tick.{ticked}
use Rattle.aseba_target.specs.MachineRun.{is_effect, is_error, tick_report, next_call}
use Rattle.aseba_codegen.specs.declared.coded.Coded.{Coded}
use Rattle.aseba_codegen.specs.Places.{HasBits, word_at}
use Rattle.aseba_codegen.specs.Agrees.{line_at}
use Rattle.aseba_codegen.proofs.TickRows.{put, halted, stored, Ready, NoCall}
use Rattle.aseba_codegen.proofs.Reach.{Holds}
use Rattle.aseba_codegen.proofs.Exprs.{Runs, notice_of}
use Rattle.aseba_codegen.proofs.CellLists.{set-alike, applied-at, applied_cells-at, applied-long, applied_cells-long, none-at, core_none-at}
use Rattle.aseba_codegen.proofs.JumpRows.{remembered_at}
use Rattle.aseba_codegen.proofs.Placed.{Frame, Plan, Working, Base, Reads, Aligned, Lands, Ends, Going}

-- Memory

got-set_same : (xs : List ℕ) (a v : ℕ) → a < length xs → slice_get (slice_set xs a v) a ≡ Some v
got-set_same [] a v inside = absurd (omega arith)
got-set_same (x ∷ xs) zero v inside = refl
got-set_same (x ∷ xs) (suc a) v inside = got-set_same xs a v (omega arith)

got-set_other : (xs : List ℕ) (a i v : ℕ) → i ≢ a → slice_get (slice_set xs a v) i ≡ slice_get xs i
got-set_other [] a i v other = refl
got-set_other (x ∷ xs) zero zero v other = absurd (other refl)
got-set_other (x ∷ xs) zero (suc i) v other = refl
got-set_other (x ∷ xs) (suc a) zero v other = refl
got-set_other (x ∷ xs) (suc a) (suc i) v other = got-set_other xs a i v (λ e. other (ap suc e))

-- where a word that remembers changes, the others stay
holds-set : (code : List Coded) (memory : List ℕ) (at w : ℕ) (c : Coded) → slice_get code at ≡ Some c → c.is_edge ≡ true → Holds code memory → Holds code (slice_set memory at w)
holds-set code memory at w c found edge holds i d there plain =
    let other : i ≢ at = λ e. apart e in got-set_other memory at i w other ∙ holds i d there plain
  where
    apart : i ≡ at → ⊥
    apart e =
        let both : Some d ≡ Some c = sym there ∙ ap (slice_get code) e ∙ found in
        let same : d ≡ c = cc in
        true≢false (sym edge ∙ ap (λ (x : Coded). x.is_edge) (sym same) ∙ plain)

bits-other : (code : List Coded) (memory places : List ℕ) (bits : List Bool) (at w : ℕ) → ((j : ℕ) → slice_get places j ≢ Some at) → HasBits code memory places bits → HasBits code (slice_set memory at w) places bits
bits-other code memory [] [] at w absent h = tt
bits-other code memory [] (bit ∷ bits) at w absent h = absurd h
bits-other code memory (p ∷ places) [] at w absent h = absurd h
bits-other code memory (p ∷ places) (bit ∷ bits) at w absent h =
    let other : p ≢ at = λ e. absent zero (ap Some e) in
    (got-set_other memory at p w other ∙ h.0, bits-other code memory places bits at w (λ j. absent (suc j)) h.1)

-- a `when` remembers what it saw
bits-set : (code : List Coded) (memory places : List ℕ) (bits : List Bool) (i at : ℕ) (b : Bool) → slice_get places i ≡ Some at → at < length memory → ((j : ℕ) → slice_get places j ≡ Some at → i ≡ j)
    → HasBits code memory places bits → HasBits code (slice_set memory at (remembering b (word_at code at))) places (slice_set bits i b)
bits-set code memory [] bits i at b found inside apart h = cc
bits-set code memory (p ∷ places) [] i at b found inside apart h = absurd h
bits-set code memory (p ∷ places) (bit ∷ bits) zero at b found inside apart h =
    let here : p ≡ at = cc in
    let absent : (j : ℕ) → slice_get places j ≢ Some at = λ j there. never j (apart (suc j) there) in
    let now : slice_get (slice_set memory at (remembering b (word_at code at))) at ≡ Some (remembering b (word_at code at)) = got-set_same memory at (remembering b (word_at code at)) inside in
    (subst (λ a. slice_get (slice_set memory at (remembering b (word_at code at))) a ≡ Some (remembering b (word_at code a))) (sym here) now, bits-other code memory places bits at _ absent h.1)
  where
    never : (j : ℕ) → 0 ≡ suc j → ⊥
    never j e = omega arith
bits-set code memory (p ∷ places) (bit ∷ bits) (suc i) at b found inside apart h =
    let other : p ≢ at = λ e. never (apart zero (ap Some e)) in
    let later : (j : ℕ) → slice_get places j ≡ Some at → i ≡ j = λ j there. let e : suc i ≡ suc j = apart (suc j) there in omega arith in
    (got-set_other memory at p _ other ∙ h.0, bits-set code memory places bits i at b found inside later h.1)
  where
    never : suc i ≡ 0 → ⊥
    never e = omega arith

-- what is remembered at a place
pub bit-at : (code : List Coded) (memory places : List ℕ) (bits : List Bool) (i at : ℕ) → slice_get places i ≡ Some at → HasBits code memory places bits
    → slice_get memory at ≡ Some (remembering (slice_index_or bits i false) (word_at code at))
bit-at code memory [] bits i at found h = cc
bit-at code memory (p ∷ places) [] i at found h = absurd h
bit-at code memory (p ∷ places) (bit ∷ bits) zero at found h =
    let here : p ≡ at = cc in subst (λ a. slice_get memory a ≡ Some (remembering bit (word_at code a))) here h.0
bit-at code memory (p ∷ places) (bit ∷ bits) (suc i) at found h = bit-at code memory places bits i at found h.1

module _ (plan : Plan) where
  abbrev cells : ℕ
  cells = plan.program.core.cells

  abbrev room : ℕ
  room = plan.program.core.room

  -- Changes

  pub ended-base : (m : State) (s : CoreState) → Base plan m s → Base plan (ended m) (core_ended s)
  ended-base m s h = record {
    shape = h.shape;
    same_cells = λ a below. let in_m : a < length m.cells = let l = h.long in omega arith in
        let in_held : a < length m.held = let l = h.held_long in omega arith in
        let in_s : a < length s.cells = let l = h.core_long in omega arith in
        let in_s_held : a < length s.held = let l = h.core_held_long in omega arith in
        let held : slice_index_or m.held a None ≡ slice_index_or s.held a None = h.same_held a below in
        let same : slice_index_or m.cells a (pos 0) ≡ slice_index_or s.cells a (pos 0) = h.same_cells a below in
        applied-at m.cells m.held a in_m in_held ∙ rw (held, same) (sym (applied_cells-at s.cells s.held a in_s in_s_held));
    same_held = λ a below. none-at (length m.held) a ∙ sym (core_none-at s.cells a);
    many = applied-long m.cells m.held ∙ h.many;
    long = let l = h.long in omega (arith, applied-long m.cells m.held);
    few = let l = h.few in omega (arith, applied-long m.cells m.held);
    held_long = length-replicate (length m.held) None ∙ h.held_long ∙ sym (applied-long m.cells m.held);
    core_long = applied_cells-long s.cells s.held ∙ h.core_long;
    core_held_long = length-map {A = ℤ} {B = Option ℤ} s.cells (λ v. None) ∙ sym (applied_cells-long s.cells s.held);
    memory = h.memory;
    same_bits = h.same_bits;
    holds = h.holds;
    same_active = refl;
    same_paused = h.same_paused;
  }

  -- the flag alone
  pub paused-base : (m : State) (s : CoreState) (p : Bool) → Base plan m s → Base plan (record m { paused = p }) (record s { paused = p })
  paused-base m s p h = record {
    shape = h.shape;
    same_cells = h.same_cells;
    same_held = h.same_held;
    many = h.many;
    long = h.long;
    few = h.few;
    held_long = h.held_long;
    core_long = h.core_long;
    core_held_long = h.core_held_long;
    memory = h.memory;
    same_bits = h.same_bits;
    holds = h.holds;
    same_active = h.same_active;
    same_paused = refl;
  }

  pub halted-base : (m : State) (s : CoreState) → Base plan m s → Base plan (halted m) (record (core_ended s) { paused = true })
  halted-base m s h = paused-base (ended m) (core_ended s) true (ended-base m s h)

  -- stack and counter, and the core's work, are not in common
  pub put-base : (m : State) (s : CoreState) (stack : List ℤ) (pc : ℕ) (work : List CoreTask) → Base plan m s → Base plan (put m stack pc) (record s { work = work })
  put-base m s stack pc work h = record {
    shape = h.shape;
    same_cells = h.same_cells;
    same_held = h.same_held;
    many = h.many;
    long = h.long;
    few = h.few;
    held_long = h.held_long;
    core_long = h.core_long;
    core_held_long = h.core_held_long;
    memory = h.memory;
    same_bits = h.same_bits;
    holds = h.holds;
    same_active = h.same_active;
    same_paused = h.same_paused;
  }

  pub stored-base : (m : State) (s : CoreState) (stack : List ℤ) (pc a : ℕ) (v : ℤ) (work : List CoreTask) → a < cells + room → Base plan m s
      → Base plan (stored m a v stack pc) (record (core_stored s a v) { work = work })
  stored-base m s stack pc a v work inside h =
      let in_m : a < length m.cells = let l = h.long in omega arith in
      let in_s : a < length s.cells = let l = h.core_long in omega arith in
      record {
        shape = h.shape;
        same_cells = λ i below. set-alike m.cells s.cells a i v (pos 0) in_m in_s (h.same_cells i below);
        same_held = h.same_held;
        many = length-set m.cells a v ∙ h.many;
        long = let l = h.long in omega (arith, length-set m.cells a v);
        few = let l = h.few in omega (arith, length-set m.cells a v);
        held_long = h.held_long ∙ sym (length-set m.cells a v);
        core_long = length-set s.cells a v ∙ h.core_long;
        core_held_long = h.core_held_long ∙ sym (length-set s.cells a v);
        memory = h.memory;
        same_bits = h.same_bits;
        holds = h.holds;
        same_active = h.same_active;
        same_paused = h.same_paused;
      }

  -- the `when` of a number remembers what it saw, at its place
  pub edge-base : (m : State) (s : CoreState) (stack : List ℤ) (pc which : ℕ) (b : Bool) (work : List CoreTask) (c : Coded) → slice_get plan.code m.pc ≡ Some c → c.is_edge ≡ true
      → slice_get plan.places which ≡ Some m.pc → m.pc < length m.code → ((j : ℕ) → slice_get plan.places j ≡ Some m.pc → which ≡ j) → Base plan m s
      → Base plan (remembered_at m stack (word_at plan.code m.pc) b pc) (record s { bits = slice_set s.bits which b; work = work })
  edge-base m s stack pc which b work c found edge place inside apart h = record {
    shape = h.shape;
    same_cells = h.same_cells;
    same_held = h.same_held;
    many = h.many;
    long = h.long;
    few = h.few;
    held_long = h.held_long;
    core_long = h.core_long;
    core_held_long = h.core_held_long;
    memory = let l = h.memory in omega (arith, length-set m.code m.pc (remembering b (word_at plan.code m.pc)));
    same_bits = bits-set plan.code m.code plan.places s.bits which m.pc b place inside apart h.same_bits;
    holds = holds-set plan.code m.code m.pc (remembering b (word_at plan.code m.pc)) c found edge h.holds;
    same_active = h.same_active;
    same_paused = h.same_paused;
  }

  -- What may be read

  -- what was readable, and the cell itself
  pub stored-reads : (m : State) (s : CoreState) (a : ℕ) (v : ℤ) (kept : List ℕ) → a < cells + room → Base plan m s → Reads plan kept m s
      → (i : ℕ) → is_readable plan.program.core (a ∷ kept) i ≡ true → slice_index_or (slice_set m.cells a v) i (pos 0) ≡ slice_index_or (slice_set s.cells a v) i (pos 0)
  stored-reads m s a v kept inside h reads i readable =
      let in_m : a < length m.cells = let l = h.long in omega arith in
      let in_s : a < length s.cells = let l = h.core_long in omega arith in
      by_test (nat_eq i a) refl in_m in_s readable
    where
      by_test : (b : Bool) → nat_eq i a ≡ b → a < length m.cells → a < length s.cells → (nat_lt i (cells + room) && (nat_lt i cells || (b || stands_in kept i))) ≡ true
          → slice_index_or (slice_set m.cells a v) i (pos 0) ≡ slice_index_or (slice_set s.cells a v) i (pos 0)
      by_test true e in_m in_s readable =
          let same : i ≡ a = eqb-true i a e in
          rw same (get_or-set_same m.cells a v (pos 0) in_m ∙ sym (get_or-set_same s.cells a v (pos 0) in_s))
      by_test false e in_m in_s readable = set-alike m.cells s.cells a i v (pos 0) in_m in_s (reads i readable)

  -- a store of a variable changes nothing else
  pub kept-reads : (m : State) (s : CoreState) (a : ℕ) (v : ℤ) (kept : List ℕ) → a < cells → Base plan m s → Reads plan kept m s
      → (i : ℕ) → is_readable plan.program.core kept i ≡ true → slice_index_or (slice_set m.cells a v) i (pos 0) ≡ slice_index_or (slice_set s.cells a v) i (pos 0)
  kept-reads m s a v kept inside h reads i readable =
      let in_m : a < length m.cells = let l = h.long in omega arith in
      let in_s : a < length s.cells = let l = h.core_long in omega arith in
      set-alike m.cells s.cells a i v (pos 0) in_m in_s (reads i readable)

  -- Effects

  -- a tick with what it is and leaves
  -- no native is called
  pub no-native : Knows (IsKnown plan.program.project) None
  no-native name e = cc

  pub lands-by : (after : CoreStepped) (call : Option Name) → Knows (IsKnown plan.program.project) call → (m n : State) (tick : Tick) → ticked m ≡ (tick, n) → is_effect cells tick ≡ true → is_error tick ≡ false
      → option_map (report_by (line_at plan.code)) (tick_report plan.program.project n.cells tick) ≡ after.report → next_call plan.program.project m ≡ call → Aligned plan n after.state
      → Lands plan after call m
  lands-by after call known m n tick e counts sound told called next = record {
    counts = subst (λ (r : Tick × State). is_effect cells r.0 ≡ true) (sym e) counts;
    sound = subst (λ (r : Tick × State). is_error r.0 ≡ false) (sym e) sound;
    told = subst (λ (r : Tick × State). option_map (report_by (line_at plan.code)) (tick_report plan.program.project (r.1).cells r.0) ≡ after.report) (sym e) told;
    called = called;
    known = known;
    next = subst (λ (r : Tick × State). Aligned plan r.1 after.state) (sym e) next;
  }

  -- a handler has ended
  pub idle : (m : State) (s : CoreState) → Base plan m s → s.active ≡ false → m.stack ≡ [] → Aligned plan m s
  idle m s base rests empty = record { base = base; works = λ active. absurd (true≢false (sym active ∙ rests)); spent = λ none. empty }

  -- a handler goes on
  pub onward : (m : State) (s : CoreState) → Base plan m s → s.active ≡ true → Working plan m s → Aligned plan m s
  onward m s base active works = record { base = base; works = λ on. works; spent = λ rests. absurd (true≢false (sym active ∙ rests)) }

  -- a stop on a line
  pub stop-ends : (stop : Stop) (m : State) (t : CoreState) (stack : List ℤ) (pc line : ℕ) → Base plan m t → line_at plan.code pc ≡ line
      → ticked (put m stack pc) ≡ (Sent (notice_of pc stop), halted (put m stack pc)) → NoCall (put m stack pc) → Ends plan (core_stopped line t stop) None (put m stack pc)
  stop-ends stop m t stack pc line base on_it tick uncalled =
      let after : Base plan (halted (put m stack pc)) (record (core_ended t) { paused = true }) = halted-base (put m stack pc) t (put-base m t stack pc t.work base) in
      inl (lands-by (core_stopped line t stop) None no-native (put m stack pc) (halted (put m stack pc)) (Sent (notice_of pc stop)) tick refl (quiet stop) (same stop) (uncalled plan.program.project)
      (idle _ _ after refl refl))
    where
      quiet : (s : Stop) → is_error (Sent (notice_of pc s)) ≡ false
      quiet by_zero = refl
      quiet (outside size i) = refl

      same : (s : Stop) → option_map (report_by (line_at plan.code)) (tick_report plan.program.project (halted (put m stack pc)).cells (Sent (notice_of pc s))) ≡ Some (stop_report line s)
      same by_zero = rw on_it refl
      same (outside size i) = rw on_it refl

  -- A machine that runs

  pub runs-of : (m : State) (t : CoreState) (kept : List ℕ) (frames : List Frame) → Going plan m t kept frames → Runs plan.code m
  runs-of m t kept frames g = record { active = g.active; unpaused = g.unpaused; holds = g.base.holds; many = g.base.few }

  pub ready : (m : State) (t : CoreState) (kept : List ℕ) (frames : List Frame) (stack : List ℤ) (at line w : ℕ) → Going plan m t kept frames
      → slice_get plan.code at ≡ Some (record { word = w; line = line; is_edge = false }) → Ready (put m stack at) w
  ready m t kept frames stack at line w g found = record { active = g.active; unpaused = g.unpaused; at = g.base.holds at _ found refl }

  pub is-active : (m : State) (t : CoreState) (kept : List ℕ) (frames : List Frame) → Going plan m t kept frames → t.active ≡ true
  is-active m t kept frames g = sym g.base.same_active ∙ g.active

  -- the room of the stack is the node's
  pub stack-room : (m : State) (t : CoreState) → Base plan m t → m.shape.stack ≡ plan.program.project.node.stack
  stack-room m t base = ap (λ shape. shape.stack) base.shape
