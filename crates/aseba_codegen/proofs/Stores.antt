-- The runs of stores and of sent events, from the start of the statement on.
use Rattle.std.proofs.Common.{◌≡◌, ℕ, suc, ◌+◌, ◌-◌, ◌<◌, ◌≤◌, ◌≢◌, inl, inr, ◌&&◌, max, Bool, true, false, if◌then◌else◌, nat_lt, nat_le, ℤ, pos, List, [], ◌∷◌, ◌++◌, length, take, drop, slice_get, slice_set, slice_range, Option, Some, None, Result, Ok, Err, refl, sym, ap, ◌∙◌, subst, arith, ltb-true, lt-ltb, le-ltb, leb-true, leb-false, length-append, length-set, get_or-set_other}
use Rattle.std.proofs.lemmas.List.{length-map}
use Rattle.std.specs.List.{list_all, range_with_len}
use Rattle.std.specs.Int.{cast_signed, w16}
use Rattle.std.specs.Prelude.{option_to_list}
use Rattle.aseba_tree.specs.Code.{Name}
use Rattle.aseba_tree.specs.Line.{sent}
use Rattle.aseba_tree.specs.Value.{Stop, outside, Element, and_then, place_among}
use Rattle.aseba_tree.specs.CoreExpr.{CoreExpr, CoreTarget, into, into_index, core_value, target_address}
use Rattle.aseba_tree.specs.Core.{core_stmt, store, send}
use Rattle.aseba_tree.specs.Events.{event_of}
use Rattle.aseba_tree.specs.CoreStep.{CoreTask, perform_core, CoreState, CoreStepped, core_stored, core_storing, with_temporary, core_task_done, core_first_done, core_work_line}
use Rattle.aseba_tree.specs.CoreRun.{call_behind, first_call, work_call}
use Rattle.aseba_tree.specs.CoreCells.{target_has_cells, has_cells}
use Rattle.aseba_tree.specs.CoreShape.{is_readable, is_readable_range, is_indexed, is_good_expr, is_good_target}
use Rattle.aseba_tree.specs.Numbers.{nodes, depth}
use Rattle.aseba_vm.specs.declared.opcode.Opcode.TheVariants as opcode
use Rattle.aseba_vm.specs.declared.tick.Tick.{Tick}
use Rattle.aseba_vm.specs.declared.tick.Tick.TheVariants.{Stored, Sent}
use Rattle.aseba_vm.specs.declared.tick.Notice.TheVariants.{Emit, Bounds}
use Rattle.aseba_vm.specs.State.{State}
use Rattle.aseba_vm.specs.Tick.{ticked}
use Rattle.aseba_vm.specs.Words.{store_word, store_indirect_word, emit_word}
use Rattle.aseba_target.specs.MachineRun.{is_effect}
use Rattle.aseba_codegen.specs.Words.{expr_code, store_code}
use Rattle.aseba_codegen.specs.Agrees.{line_at}
use Rattle.aseba_codegen.proofs.TickRows.{put, halted, stored, no-call, store-tick, store_indirect-tick, store_outside-tick, emit-tick}
use Rattle.aseba_codegen.proofs.Reach.{Lined, stands-lined, lined-split, lined-line, line-of, Same, Hidden, Reaches, reached}
use Rattle.aseba_codegen.proofs.Exprs.{Sits, Goes, expr-run, place-cases}
use Rattle.aseba_codegen.proofs.Values.{and-left, and-right, value-alike, sits, range-alike}
use Rattle.aseba_codegen.proofs.Monotone.{within-behind}
use Rattle.aseba_codegen.proofs.Placed.{Frame, stack_of, Nested, heavier, Plan, limit, Whole, Does, Base, Aligned, Ends, Going, RunsUp}
use Rattle.aseba_codegen.proofs.PlacedLaws.{does-line}
use Rattle.aseba_codegen.proofs.Bases.{put-base, stored-base, stored-reads, kept-reads, lands-by, no-native, onward, stop-ends, runs-of, ready, is-active, stack-room}

pub stack-long : (frames : List Frame) → length (stack_of frames) ≡ length frames
stack-long frames = length-map frames (λ (f : Frame). cast_signed w16 f.address)

-- what each call keeps stays inside where more is kept
pub nested-behind : (o : Option ℕ) (kept : List ℕ) (frames : List Frame) → Nested kept frames → Nested (option_to_list o ++ kept) frames
nested-behind o kept [] h = tt
nested-behind o kept (f ∷ fs) h = (within-behind o f.kept kept h.0, h.1)

module _ (plan : Plan) where
  abbrev cells : ℕ
  cells = plan.program.core.cells

  abbrev room : ℕ
  room = plan.program.core.room

  -- how a run is to end
  abbrev Good : CoreStepped → Option Name → State → Type 0
  Good after call = Ends plan after call

  -- behind the expression of a store into a variable
  variable-after : (el : Element) (rest : List CoreTask) (m : State) (t : CoreState) (at line a b : ℕ) (kept : List ℕ) (frames : List Frame) → a < cells → Going plan m t kept frames
      → Lined plan.code line at (store_word a ∷ []) → Does plan rest (at + 1) kept 0 frames
      → Goes plan.code cells (Ends plan (core_storing line (record t { work = rest }) el (Ok a)) None) b m (stack_of frames) line at el
  variable-after (Err stop) rest m t at line a b kept frames inside g lined placed =
      λ top pc on_it tick uncalled. stop-ends plan stop m (record t { work = rest }) top pc line (put-base plan m t m.stack m.pc rest g.base) on_it tick uncalled
  variable-after (Ok v) rest m t at line a b kept frames inside g lined placed =
      let stack : List ℤ = stack_of frames in
      let in_room : a < cells + room = omega arith in
      let in_m : a < length m.cells = let l = g.base.long in omega arith in
      let low : a < 4096 = let l = g.base.few in omega arith in
      let at_store = ready plan m t kept frames (v ∷ stack) at line (store_word a) g lined.0 in
      let tick : ticked (put m (v ∷ stack) at) ≡ (Stored a, stored m a v stack (at + 1)) = store-tick (put m (v ∷ stack) at) a v stack low refl at_store in_m in
      let after : CoreStepped = core_storing line (record t { work = rest }) (Ok v) (Ok a) in
      let next : Aligned plan (stored m a v stack (at + 1)) (record (core_stored t a v) { work = rest }) =
      onward plan (stored m a v stack (at + 1)) (record (core_stored t a v) { work = rest }) (stored-base plan m t stack (at + 1) a v rest in_room g.base) (is-active plan m t kept frames g)
      (record { kept = kept; frames = frames; nested = g.nested; reads = kept-reads plan m t a v kept inside g.base g.reads; placed = placed; empty = refl }) in
      reached plan.code cells (Ends plan after None) b (put m (v ∷ stack) at)
      (inl (lands-by plan after None (no-native plan) (put m (v ∷ stack) at) (stored m a v stack (at + 1)) (Stored a) tick (lt-ltb _ _ inside) refl refl
      (no-call (put m (v ∷ stack) at) opcode.Store a low at_store (λ project id. refl) plan.program.project) next))

  -- behind the expression of a store into a temporary
  temporary-after : (el : Element) (rest : List CoreTask) → RunsUp plan rest → (m : State) (t : CoreState) (at line a b weighs : ℕ) (kept : List ℕ) (frames : List Frame)
      → cells ≤ a → a < cells + room → Going plan m t kept frames
      → Lined plan.code line at (store_word a ∷ []) → Does plan rest (at + 1) (a ∷ kept) weighs frames → core_work_line rest ≡ line → weighs + b + 1 ≡ plan.weight
      → Goes plan.code cells (Ends plan (with_temporary line t a el (λ u. core_first_done plan.program u rest)) (call_behind el a t.cells (λ after. work_call plan.program rest after))) (suc b) m (stack_of frames) line at el
  temporary-after (Err stop) rest go_on m t at line a b weighs kept frames above inside g lined placed on_line total =
      λ top pc on_it tick uncalled. stop-ends plan stop m t top pc line g.base on_it tick uncalled
  temporary-after (Ok v) rest go_on m t at line a b weighs kept frames above inside g lined placed on_line total =
      let stack : List ℤ = stack_of frames in
      let G : State → Type 0 = Ends plan (core_first_done plan.program (core_stored t a v) rest) (work_call plan.program rest (slice_set t.cells a v)) in
      let in_m : a < length m.cells = let l = g.base.long in omega arith in
      let low : a < 4096 = let l = g.base.few in omega arith in
      let tick : ticked (put m (v ∷ stack) at) ≡ (Stored a, stored m a v stack (at + 1)) =
      store-tick (put m (v ∷ stack) at) a v stack low refl (ready plan m t kept frames (v ∷ stack) at line _ g lined.0) in_m in
      let here : line_at plan.code at ≡ line = line-of plan.code at _ lined.0 in
      let there : line_at plan.code (at + 1) ≡ line = does-line plan rest (at + 1) (a ∷ kept) weighs frames placed ∙ on_line in
      let same : Same plan.code cells (put m (v ∷ stack) at) (stored m a v stack (at + 1)) = record {
        memory = refl;
        shape = refl;
        active = refl;
        paused = refl;
        held = refl;
        many = length-set m.cells a v;
        each = λ i below. let other : i ≢ a = omega arith in get_or-set_other m.cells a i v (pos 0) other;
        line = there ∙ sym here;
      } in
      let not_effect : nat_lt a cells ≡ false = le-ltb _ _ above in
      let hidden : Hidden plan.code cells (put m (v ∷ stack) at) = record {
        silent = ap (λ (r : Tick × State). is_effect cells r.0) tick ∙ not_effect;
        same = subst (λ (r : Tick × State). Same plan.code cells (put m (v ∷ stack) at) r.1) (sym tick) same;
      } in
      let going : Going plan (record m { cells = slice_set m.cells a v }) (core_stored t a v) (a ∷ kept) frames = record {
        base = stored-base plan m t m.stack m.pc a v t.work inside g.base;
        nested = nested-behind (Some a) kept frames g.nested;
        reads = stored-reads plan m t a v kept inside g.base g.reads;
        active = g.active;
        unpaused = g.unpaused;
      } in
      let on : Reaches plan.code cells G b (stored m a v stack (at + 1)) =
      go_on (record m { cells = slice_set m.cells a v }) (core_stored t a v) (at + 1) (a ∷ kept) weighs b frames placed total going in
      inr (hidden, subst (λ (r : Tick × State). Reaches plan.code cells G b r.1) (sym tick) on)

  pub cell-run : (is_temporary : Bool) (before line a : ℕ) (e : CoreExpr) (rest : List CoreTask) → nat_le cells a ≡ is_temporary → RunsUp plan rest
      → (m : State) (t : CoreState) (at : ℕ) (kept : List ℕ) (weighs n : ℕ) (frames : List Frame) → Whole plan before line (store (into a) e) at kept weighs frames
      → ((if is_temporary then Some a else None) ≢ None → core_work_line rest ≡ line)
      → Does plan rest (at + length (store_code (into a) e)) (option_to_list (if is_temporary then Some a else None) ++ kept) (heavier (if is_temporary then Some (nodes e + 1) else None) weighs) frames
      → weighs + n + 1 ≡ plan.weight → Going plan m t kept frames
      → Reaches plan.code cells
      (Ends plan (core_task_done plan.program t (perform_core before (core_stmt line (store (into a) e))) rest (if is_temporary then Some (line, a, e) else None) (λ u. core_first_done plan.program u rest))
      (first_call plan.program.project (perform_core before (core_stmt line (store (into a) e))) t.cells (if is_temporary then Some (line, a, e) else None) (λ after. work_call plan.program rest after)))
      n (put m (stack_of frames) at)
  cell-run true before line a e rest temp go_on m t at kept weighs n frames fits on_line placed total g =
      let G : Element → State → Type 0 = λ el. Ends plan (with_temporary line t a el (λ u. core_first_done plan.program u rest)) (call_behind el a t.cells (λ after. work_call plan.program rest after)) in
      let above : cells ≤ a = leb-true _ _ temp in
      let inside : a < cells + room = ltb-true _ _ (and-left (is_good_target plan.program.core kept (into a)) (is_good_expr plan.program.core kept e) fits.good) in
      let good_e : is_good_expr plan.program.core kept e ≡ true = and-right (is_good_target plan.program.core kept (into a)) (is_good_expr plan.program.core kept e) fits.good in
      let numbers_e : has_cells e ≡ true = and-right (target_has_cells (into a)) (has_cells e) fits.numbers in
      let same : core_value m.cells e ≡ core_value t.cells e = value-alike plan.program.core kept m.cells t.cells e good_e g.reads in
      let lined : Lined plan.code line at (store_code (into a) e) = stands-lined plan.code line at (store_code (into a) e) fits.stands in
      let parts = lined-split plan.code line at (expr_code e) (store_word a ∷ []) lined in
      let middle : ℕ = at + length (expr_code e) in
      let there : line_at plan.code middle ≡ line = line-of plan.code middle _ parts.1.0 in
      let behind : at + length (store_code (into a) e) ≡ middle + 1 = omega (arith, length-append (expr_code e) (store_word a ∷ [])) in
      let sat : Sits (length m.cells) e = sits plan.program.core kept (length m.cells) e g.base.long g.base.few good_e numbers_e in
      let b : ℕ = n - nodes e - 1 in
      let light = fits.light in
      let deep : length frames + depth e ≤ limit plan = fits.room in
      let high : length (stack_of frames) + depth e ≤ m.shape.stack = let r = stack-room plan m t g.base in omega (arith, stack-long frames) in
      subst (λ el. Reaches plan.code cells (G el) n (put m (stack_of frames) at)) same
      (expr-run plan.code cells (G (core_value m.cells e)) e m (stack_of frames) at middle line n (suc b) refl (omega arith) (runs-of plan m t kept frames g) sat parts.0 there high
      (temporary-after (core_value m.cells e) rest go_on m t middle line a b (weighs + (nodes e + 1)) kept frames above inside g parts.1
      (subst (λ k. Does plan rest k (a ∷ kept) (weighs + (nodes e + 1)) frames) behind placed) (on_line (λ none. cc)) (omega arith)))
  cell-run false before line a e rest temp go_on m t at kept weighs n frames fits on_line placed total g =
      let G : Element → State → Type 0 = λ el. Ends plan (core_storing line (record t { work = rest }) el (Ok a)) None in
      let inside : a < cells = leb-false _ _ temp in
      let good_e : is_good_expr plan.program.core kept e ≡ true = and-right (is_good_target plan.program.core kept (into a)) (is_good_expr plan.program.core kept e) fits.good in
      let numbers_e : has_cells e ≡ true = and-right (target_has_cells (into a)) (has_cells e) fits.numbers in
      let same : core_value m.cells e ≡ core_value t.cells e = value-alike plan.program.core kept m.cells t.cells e good_e g.reads in
      let lined : Lined plan.code line at (store_code (into a) e) = stands-lined plan.code line at (store_code (into a) e) fits.stands in
      let parts = lined-split plan.code line at (expr_code e) (store_word a ∷ []) lined in
      let middle : ℕ = at + length (expr_code e) in
      let there : line_at plan.code middle ≡ line = line-of plan.code middle _ parts.1.0 in
      let behind : at + length (store_code (into a) e) ≡ middle + 1 = omega (arith, length-append (expr_code e) (store_word a ∷ [])) in
      let sat : Sits (length m.cells) e = sits plan.program.core kept (length m.cells) e g.base.long g.base.few good_e numbers_e in
      let b : ℕ = n - nodes e in
      let light = fits.light in
      let deep : length frames + depth e ≤ limit plan = fits.room in
      let high : length (stack_of frames) + depth e ≤ m.shape.stack = let r = stack-room plan m t g.base in omega (arith, stack-long frames) in
      subst (λ el. Reaches plan.code cells (G el) n (put m (stack_of frames) at)) same
      (expr-run plan.code cells (G (core_value m.cells e)) e m (stack_of frames) at middle line n b refl (omega arith) (runs-of plan m t kept frames g) sat parts.0 there high
      (variable-after (core_value m.cells e) rest m t middle line a b kept frames inside g parts.1 (subst (λ k. Does plan rest k kept 0 frames) behind placed)))

  -- behind both expressions of a store at an index
  index-after : (el : Element) (rest : List CoreTask) (m : State) (t : CoreState) (v : ℤ) (at line base size b : ℕ) (kept : List ℕ) (frames : List Frame) → base + size ≤ cells → base < 4096
      → Going plan m t kept frames → Lined plan.code line at (store_indirect_word base ∷ size ∷ []) → Does plan rest (at + 2) kept 0 frames
      → Goes plan.code cells (Ends plan (core_storing line (record t { work = rest }) (Ok v) (and_then el (λ i. and_then (place_among size i) (λ place. Ok (base + place))))) None) b m (v ∷ stack_of frames) line at el
  index-after (Err stop) rest m t v at line base size b kept frames inside low g lined placed =
      λ top pc on_it tick uncalled. stop-ends plan stop m (record t { work = rest }) top pc line (put-base plan m t m.stack m.pc rest g.base) on_it tick uncalled
  index-after (Ok i) rest m t v at line base size b kept frames inside low g lined placed =
      let stack : List ℤ = stack_of frames in
      let here : line_at plan.code at ≡ line = line-of plan.code at _ lined.0 in
      let second : slice_get m.code (at + 1) ≡ Some size = g.base.holds (at + 1) _ lined.1.0 refl in
      let r : CoreState = record t { work = rest } in
      let G : Result ℕ Stop → State → Type 0 = λ place. Ends plan (core_storing line r (Ok v) (and_then place (λ p. Ok (base + p)))) None in
      let top : List ℤ = i ∷ v ∷ stack in
      let at_store = ready plan m t kept frames top at line (store_indirect_word base) g lined.0 in
      elim (place-cases size i) [
        | inl c ↦
            let a : ℕ = base + c.0 in
            let small : c.0 < size = c.3 in
            let within : a < cells = omega arith in
            let in_room : a < cells + room = omega arith in
            let in_m : a < length m.cells = let l = g.base.long in omega arith in
            let tick : ticked (put m top at) ≡ (Stored a, stored m a v stack (at + 2)) = store_indirect-tick (put m top at) base size v i c.0 stack low refl at_store second c.2 in_m in
            let next : Aligned plan (stored m a v stack (at + 2)) (record (core_stored t a v) { work = rest }) =
            onward plan (stored m a v stack (at + 2)) (record (core_stored t a v) { work = rest }) (stored-base plan m t stack (at + 2) a v rest in_room g.base) (is-active plan m t kept frames g)
            (record { kept = kept; frames = frames; nested = g.nested; reads = kept-reads plan m t a v kept within g.base g.reads; placed = placed; empty = refl }) in
            let lands : G (Ok c.0) (put m top at) =
            inl (lands-by plan (core_storing line r (Ok v) (Ok a)) None (no-native plan) (put m top at) (stored m a v stack (at + 2)) (Stored a) tick (lt-ltb _ _ within) refl refl
            (no-call (put m top at) opcode.StoreIndirect base low at_store (λ project id. refl) plan.program.project) next) in
            reached plan.code cells (G (place_among size i)) b (put m top at) (subst (λ p. G p (put m top at)) (sym c.1) lands)
        | inr c ↦
            let tick : ticked (put m top at) ≡ (Sent (Bounds at size i), halted (put m top at)) = store_outside-tick (put m top at) base size v i stack low refl at_store second c.1 in
            let ends : G (Err (outside size i)) (put m top at) = stop-ends plan (outside size i) m r top at line (put-base plan m t m.stack m.pc rest g.base) here tick
            (no-call (put m top at) opcode.StoreIndirect base low at_store (λ project id. refl)) in
            reached plan.code cells (G (place_among size i)) b (put m top at) (subst (λ p. G p (put m top at)) (sym c.0) ends)
      ]

  -- behind the first expression
  value-after : (el : Element) (index : Result ℕ Stop) (rest : List CoreTask) (m : State) (t : CoreState) (stack : List ℤ) (at line b : ℕ)
      → Base plan m t
      → ((v : ℤ) → Reaches plan.code cells (Ends plan (core_storing line (record t { work = rest }) (Ok v) index) None) b (put m (v ∷ stack) at))
      → Goes plan.code cells (Ends plan (core_storing line (record t { work = rest }) el index) None) b m stack line at el
  value-after (Err stop) index rest m t stack at line b base go_on = λ top pc on_it tick uncalled. stop-ends plan stop m (record t { work = rest }) top pc line (put-base plan m t m.stack m.pc rest base) on_it tick uncalled
  value-after (Ok v) index rest m t stack at line b base go_on = go_on v

  pub index-run : (before line base size : ℕ) (i e : CoreExpr) (rest : List CoreTask)
      → (m : State) (t : CoreState) (at : ℕ) (kept : List ℕ) (weighs n : ℕ) (frames : List Frame) → Whole plan before line (store (into_index base size i) e) at kept weighs frames
      → Does plan rest (at + length (store_code (into_index base size i) e)) kept 0 frames
      → weighs + n + 1 ≡ plan.weight → Going plan m t kept frames
      → Reaches plan.code cells (Ends plan (core_storing line (record t { work = rest }) (core_value t.cells e) (target_address t.cells (into_index base size i))) None) n (put m (stack_of frames) at)
  index-run before line base size i e rest m t at kept weighs n frames fits placed total g =
      let to : Element → Result ℕ Stop = λ el. and_then el (λ x. and_then (place_among size x) (λ place. Ok (base + place))) in
      let G : Element → Element → State → Type 0 = λ el ei. Ends plan (core_storing line (record t { work = rest }) el (to ei)) None in
      let core = plan.program.core in
      let to_index : CoreTarget = into_index base size i in
      let target : is_good_target core kept to_index ≡ true = and-left (is_good_target core kept to_index) (is_good_expr core kept e) fits.good in
      let good_e : is_good_expr core kept e ≡ true = and-right (is_good_target core kept to_index) (is_good_expr core kept e) fits.good in
      let good_i : is_good_expr core kept i ≡ true = and-right (is_indexed core base size) (is_good_expr core kept i) target in
      let has_i : target_has_cells to_index ≡ true = and-left (target_has_cells to_index) (has_cells e) fits.numbers in
      let numbers_e : has_cells e ≡ true = and-right (target_has_cells to_index) (has_cells e) fits.numbers in
      let numbers_i : has_cells i ≡ true = and-right (nat_lt 0 size) (has_cells i) has_i in
      let reach : base + size ≤ cells = leb-true _ _ (and-left (is_indexed core base size) (is_good_expr core kept i) target) in
      let some : 0 < size = ltb-true _ _ (and-left (nat_lt 0 size) (has_cells i) has_i) in
      let low : base < 4096 = let l = g.base.few in let k = g.base.long in omega arith in
      let same_e : core_value m.cells e ≡ core_value t.cells e = value-alike core kept m.cells t.cells e good_e g.reads in
      let same_i : core_value m.cells i ≡ core_value t.cells i = value-alike core kept m.cells t.cells i good_i g.reads in
      let lined : Lined plan.code line at (store_code to_index e) = stands-lined plan.code line at (store_code to_index e) fits.stands in
      let whole = lined-split plan.code line at (expr_code e ++ expr_code i) (store_indirect_word base ∷ size ∷ []) lined in
      let parts = lined-split plan.code line at (expr_code e) (expr_code i) whole.0 in
      let right : ℕ = at + length (expr_code e) in
      let last : ℕ = at + length (expr_code e ++ expr_code i) in
      let between : last ≡ right + length (expr_code i) = omega (arith, length-append (expr_code e) (expr_code i)) in
      let behind : at + length (store_code to_index e) ≡ last + 2 = omega (arith, length-append (expr_code e ++ expr_code i) (store_indirect_word base ∷ size ∷ [])) in
      let there : line_at plan.code last ≡ line = line-of plan.code last _ whole.1.0 in
      let start : line_at plan.code right ≡ line = lined-line plan.code line right last (expr_code i) between parts.1 there in
      let sat_e : Sits (length m.cells) e = sits core kept (length m.cells) e g.base.long g.base.few good_e numbers_e in
      let sat_i : Sits (length m.cells) i = sits core kept (length m.cells) i g.base.long g.base.few good_i numbers_i in
      let b : ℕ = n - nodes e in
      let c : ℕ = b - nodes i in
      let stack : List ℤ = stack_of frames in
      let light : weighs + (nodes i + 1 + nodes e) + 3 ≤ plan.weight = fits.light in
      let deep : length frames + max (depth e) (1 + depth i) ≤ limit plan = fits.room in
      let many : length stack ≡ length frames = stack-long frames in
      let high : m.shape.stack ≡ limit plan = stack-room plan m t g.base in
      subst (λ el. Reaches plan.code cells (G el (core_value t.cells i)) n (put m stack at)) same_e
      (subst (λ ei. Reaches plan.code cells (G (core_value m.cells e) ei) n (put m stack at)) same_i
      (expr-run plan.code cells (G (core_value m.cells e) (core_value m.cells i)) e m stack at right line n b refl (omega arith) (runs-of plan m t kept frames g) sat_e parts.0 start (omega arith)
      (value-after (core_value m.cells e) (to (core_value m.cells i)) rest m t stack right line b g.base
      (λ v. expr-run plan.code cells (G (Ok v) (core_value m.cells i)) i m (v ∷ stack) right last line b c between (omega arith) (runs-of plan m t kept frames g) sat_i parts.1 there (omega arith)
      (index-after (core_value m.cells i) rest m t v last line base size c kept frames reach low g whole.1 (subst (λ k. Does plan rest k kept 0 frames) behind placed))))))

  pub send-run : (before line event address count : ℕ) (rest : List CoreTask)
      → (m : State) (t : CoreState) (at : ℕ) (kept : List ℕ) (weighs n : ℕ) (frames : List Frame) → length plan.program.project.events ≤ 4096 → Whole plan before line (send event address count) at kept weighs frames
      → Does plan rest (at + 3) kept 0 frames → Going plan m t kept frames
      → Reaches plan.code cells (Ends plan (record { state = record t { work = rest }; report = Some (sent (event_of plan.program.project event) (slice_range t.cells address (address + count))) }) None) n (put m (stack_of frames) at)
  send-run before line event address count rest m t at kept weighs n frames events fits placed g =
      let core = plan.program.core in
      let project = plan.program.project in
      let stack : List ℤ = stack_of frames in
      let is_known : Bool = nat_lt event (length project.events) in
      let is_short : Bool = nat_le count 256 in
      let is_readable_too : Bool = is_readable_range core kept address count in
      let front : (is_known && is_short) ≡ true = and-left (is_known && is_short) is_readable_too fits.good in
      let known : event < length project.events = ltb-true _ _ (and-left is_known is_short front) in
      let few : count ≤ 256 = leb-true _ _ (and-right is_known is_short front) in
      let readable : is_readable_range core kept address count ≡ true = and-right (is_known && is_short) is_readable_too fits.good in
      let inside : address + count ≤ cells + room =
      leb-true _ _ (and-left (nat_le (address + count) (cells + room)) (list_all (is_readable core kept) (range_with_len address count)) readable) in
      let fit : address + count ≤ length m.cells = let l = g.base.long in omega arith in
      let lined : Lined plan.code line at (emit_word event ∷ address ∷ count ∷ []) = stands-lined plan.code line at (emit_word event ∷ address ∷ count ∷ []) fits.stands in
      let first : slice_get m.code (at + 1) ≡ Some address = g.base.holds (at + 1) _ lined.1.0 refl in
      let e : at + 1 + 1 ≡ at + 2 = omega arith in
      let second : slice_get m.code (at + 2) ≡ Some count = subst (λ k. slice_get m.code k ≡ Some count) e (g.base.holds (at + 1 + 1) _ lined.1.1.0 refl) in
      let at_emit = ready plan m t kept frames stack at line (emit_word event) g lined.0 in
      let tick : ticked (put m stack at) ≡ (Sent (Emit event address count), put m stack (at + 3)) = emit-tick (put m stack at) event address count (omega arith) at_emit first second fit few in
      let shown : take count (drop address m.cells) ≡ slice_range t.cells address (address + count) = range-alike core kept m.cells t.cells address count readable g.reads g.base.long (let l = g.base.core_long in omega arith) in
      let after : CoreStepped = record { state = record t { work = rest }; report = Some (sent (event_of project event) (slice_range t.cells address (address + count))) } in
      let next : Aligned plan (put m stack (at + 3)) (record t { work = rest }) =
      onward plan (put m stack (at + 3)) (record t { work = rest }) (put-base plan m t stack (at + 3) rest g.base) (is-active plan m t kept frames g)
      (record { kept = kept; frames = frames; nested = g.nested; reads = g.reads; placed = placed; empty = refl }) in
      reached plan.code cells (Ends plan after None) n (put m stack at)
      (inl (lands-by plan after None (no-native plan) (put m stack at) (put m stack (at + 3)) (Sent (Emit event address count)) tick refl refl (rw shown refl)
      (no-call (put m stack at) opcode.Emit event (omega arith) at_emit (λ project id. refl) plan.program.project) next))
