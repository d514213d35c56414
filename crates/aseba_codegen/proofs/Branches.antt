-- The runs of conditions with their branches, and of jumps.
use Rattle.std.proofs.Common.{◌≡◌, ℕ, suc, ◌+◌, ◌-◌, ◌<◌, ◌≤◌, inl, ◌&&◌, ◌||◌, not, max, Bool, true, false, if◌then◌else◌, ℤ, pos, negsuc, ◌+ℤ◌, ◌-ℤ◌, List, [], ◌∷◌, ◌++◌, length, map, slice_get, slice_index_or, slice_set, Option, Some, None, Ok, Err, refl, sym, ap, ◌∙◌, subst, arith, true≢false, le-ltb, length-append}
use Rattle.std.proofs.lemmas.Int.{ints, to_z-of_z}
use Rattle.std.proofs.lemmas.Option.{slice_get-map, get_or_from_slice_get}
use Rattle.std.specs.Prelude.{int_lt, ok_or, option_map}
use Rattle.std.specs.Int.{cast_signed, w16}
use Rattle.std.specs.Int.RustNames.{FitsSigned}
use Rattle.aseba_words.specs.Cell.{truth, is_true, binary_value, is_of_one_cell}
use Rattle.aseba_words.specs.declared.operators.Binary.{Binary}
use Rattle.aseba_words.specs.declared.operators.Binary.TheVariants.{Equal, Differ, Above, AtLeast, Below, AtMost, Or, And}
use Rattle.std.specs.Ordering.{int_eq}
use Rattle.aseba_tree.specs.Value.{by_zero, Element, binary_element}
use Rattle.aseba_tree.specs.CoreCells.{has_cells}
use Rattle.aseba_tree.specs.CoreExpr.{CoreExpr, fixed, cell, indirect, prefix, infix_of, core_value}
use Rattle.aseba_tree.specs.CoreShape.{is_good_expr}
use Rattle.aseba_tree.specs.CoreStep.{CoreTask, CoreState, CoreStepped, core_tested, core_edge}
use Rattle.aseba_tree.specs.Numbers.{is_large, nodes, depth, condition_depth}
use Rattle.aseba_vm.specs.declared.opcode.Opcode.TheVariants as opcode
use Rattle.aseba_vm.specs.declared.tick.Tick.TheVariants.{Effect, Sent}
use Rattle.aseba_vm.specs.State.{State}
use Rattle.aseba_vm.specs.Instructions.{remembering}
use Rattle.aseba_vm.specs.Tick.{ticked}
use Rattle.aseba_vm.specs.Words.{twelve_bits, jump_word, branch_word}
use Rattle.aseba_codegen.specs.declared.coded.Coded.{Coded}
use Rattle.aseba_codegen.specs.Places.{word_at}
use Rattle.aseba_codegen.specs.Words.{Condition, sixteen_bits, number_code, expr_code, differs_from_zero, condition_code, far_jump, on_line}
use Rattle.aseba_codegen.specs.Agrees.{line_at}
use Rattle.aseba_codegen.proofs.TickRows.{put, halted, Ready, NoCall, no-call, small-is}
use Rattle.aseba_codegen.proofs.JumpRows.{chosen, jump-tick, branch-tick, remembered_at, when-tick, when-uncalled, branch-uncalled}
use Rattle.aseba_codegen.proofs.Reach.{Lined, Stands, stands-split, stands-lined, lined-split, line-of, lined-line, Reaches, reached}
use Rattle.aseba_codegen.proofs.Exprs.{Sits, notice_of, Runs, Goes, sixteen-is, expr-run}
use Rattle.aseba_codegen.proofs.Values.{value-alike, sits}
use Rattle.aseba_codegen.proofs.Lengths.{on_line-long}
use Rattle.aseba_codegen.proofs.Placed.{Frame, stack_of, Plan, limit, Jumps, Does, Tests, Laid, Base, Aligned, Ends, Going}
use Rattle.aseba_codegen.proofs.PlacedLaws.{does-inside}
use Rattle.aseba_codegen.proofs.Bases.{bit-at, put-base, edge-base, lands-by, no-native, onward, stop-ends, runs-of, ready, is-active, stack-room}
use Rattle.aseba_codegen.proofs.Stores.{stack-long}

-- Conditions

truth-is : (b : Bool) → is_true (truth b) ≡ b
truth-is true = refl
truth-is false = refl

-- such an operator has a value of any cells
one_cell-some : (op : Binary) (l r : ℤ) → is_of_one_cell op ≡ true → (x : ℤ) × (binary_value op l r ≡ Some x)
one_cell-some Equal l r h = (_, refl)
one_cell-some Differ l r h = (_, refl)
one_cell-some Above l r h = (_, refl)
one_cell-some AtLeast l r h = (_, refl)
one_cell-some Below l r h = (_, refl)
one_cell-some AtMost l r h = (_, refl)
one_cell-some Or l r h = (_, refl)
one_cell-some And l r h = (_, refl)
one_cell-some _ l r h = absurd (true≢false (sym h))

zero-fits : FitsSigned w16 (pos 0)
zero-fits = record { sfits = omega arith }

module _ (code : List Coded) (cells : ℕ) (G : State → Type 0) where
  -- how a run goes on behind a condition: with two values whose comparison says the same, or stopped on the line
  abbrev pub Chosen : (op : Binary) (m : State) (stack : List ℤ) (line end : ℕ) → Element → Type 0
  Chosen op m stack line end (Ok v) = (l r x : ℤ) → binary_value op l r ≡ Some x → is_true x ≡ is_true v → G (put m (r ∷ l ∷ stack) end)
  Chosen op m stack line end (Err stop) =
      (top : List ℤ) (pc : ℕ) → line_at code pc ≡ line → ticked (put m top pc) ≡ (Sent (notice_of pc stop), halted (put m top pc)) → NoCall (put m top pc) → G (put m top pc)

  -- a value is compared with 0
  zero-after : (el : Element) (m : State) (stack : List ℤ) (at end line b : ℕ) → end ≡ at + 1 → Runs code m → Lined code line at (number_code (pos 0)) → line_at code end ≡ line
      → suc (length stack) < m.shape.stack → Chosen Differ m stack line end el → Goes code cells G (suc b) m stack line at el
  zero-after (Err stop) m stack at end line b ends runs lined next room go = go
  zero-after (Ok v) m stack at end line b ends runs lined next room go =
      expr-run code cells G (fixed (pos 0)) m (v ∷ stack) at end line (suc b) b ends (omega arith) runs zero-fits lined next (omega arith)
      (reached code cells G b (put m (pos 0 ∷ v ∷ stack) end) (go v (pos 0) (truth (not (int_eq v (pos 0)))) refl (truth-is (not (int_eq v (pos 0))))))

  differs-run : (e : CoreExpr) (m : State) (stack : List ℤ) (at end line n : ℕ) → end ≡ at + length (differs_from_zero e).words → nodes e + 1 ≤ n
      → Runs code m → Sits (length m.cells) e → Lined code line at (differs_from_zero e).words → line_at code end ≡ line → length stack + max (depth e) 2 ≤ m.shape.stack
      → Chosen Differ m stack line end (core_value m.cells e) → Reaches code cells G n (put m stack at)
  differs-run e m stack at end line n ends ticks runs sat lined next room go =
      let parts = lined-split code line at (expr_code e) (number_code (pos 0)) lined in
      let middle : ℕ = at + length (expr_code e) in
      let b : ℕ = n - nodes e - 1 in
      let behind : end ≡ middle + 1 = omega (arith, length-append (expr_code e) (number_code (pos 0))) in
      let there : line_at code middle ≡ line = line-of code middle _ parts.1.0 in
      expr-run code cells G e m stack at middle line n (suc b) refl (omega arith) runs sat parts.0 there (omega arith)
      (zero-after (core_value m.cells e) m stack middle end line b behind runs parts.1 next (omega arith) go)

  -- two values are compared
  right-after : (op : Binary) (l : ℤ) (r : Element) (m : State) (stack : List ℤ) (line end b : ℕ) → is_of_one_cell op ≡ true
      → Chosen op m stack line end (binary_element op (Ok l) r) → Goes code cells G b m (l ∷ stack) line end r
  right-after op l (Err stop) m stack line end b one go = go
  right-after op l (Ok r) m stack line end b one go = by_value (binary_value op l r) refl go
    where
      by_value : (o : Option ℤ) → binary_value op l r ≡ o → Chosen op m stack line end (ok_or o by_zero) → Reaches code cells G b (put m (r ∷ l ∷ stack) end)
      by_value (Some x) e go = reached code cells G b (put m (r ∷ l ∷ stack) end) (go l r x e refl)
      by_value None e go = let some = one_cell-some op l r one in let never : None ≡ Some some.0 = sym e ∙ some.1 in cc

  left-after : (op : Binary) (l r : Element) (m : State) (stack : List ℤ) (at line end k : ℕ)
      → ((v : ℤ) → Chosen op m stack line end (binary_element op (Ok v) r) → Reaches code cells G k (put m (v ∷ stack) at))
      → Chosen op m stack line end (binary_element op l r) → Goes code cells G k m stack line at l
  left-after op (Err s) r m stack at line end k right go = go
  left-after op (Ok v) r m stack at line end k right go = right v go

  compares-run : (op : Binary) (l r : CoreExpr) (m : State) (stack : List ℤ) (at end line n : ℕ) → is_of_one_cell op ≡ true → end ≡ at + length (expr_code l ++ expr_code r) → nodes l + nodes r ≤ n
      → Runs code m → Sits (length m.cells) l → Sits (length m.cells) r → Lined code line at (expr_code l ++ expr_code r) → line_at code end ≡ line → length stack + max (depth l) (1 + depth r) ≤ m.shape.stack
      → Chosen op m stack line end (binary_element op (core_value m.cells l) (core_value m.cells r)) → Reaches code cells G n (put m stack at)
  compares-run op l r m stack at end line n one ends ticks runs sat_l sat_r lined next room go =
      let parts = lined-split code line at (expr_code l) (expr_code r) lined in
      let right : ℕ = at + length (expr_code l) in
      let b : ℕ = n - nodes l - nodes r in
      let behind : end ≡ right + length (expr_code r) = omega (arith, length-append (expr_code l) (expr_code r)) in
      let start : line_at code right ≡ line = lined-line code line right end (expr_code r) behind parts.1 next in
      expr-run code cells G l m stack at right line n (nodes r + b) refl (omega arith) runs sat_l parts.0 start (omega arith)
      (left-after op (core_value m.cells l) (core_value m.cells r) m stack right line end (nodes r + b)
      (λ v onward. expr-run code cells G r m (v ∷ stack) right end line (nodes r + b) b behind refl runs sat_r parts.1 next (omega arith)
      (right-after op v (core_value m.cells r) m stack line end b one onward))
      go)

  -- the words of a condition, from any stack with room
  pub condition-run : (c : CoreExpr) (m : State) (stack : List ℤ) (at end line n : ℕ) → end ≡ at + length (condition_code c).words → nodes c + 1 ≤ n
      → Runs code m → Sits (length m.cells) c → Lined code line at (condition_code c).words → line_at code end ≡ line → length stack + condition_depth c ≤ m.shape.stack
      → Chosen (condition_code c).operator m stack line end (core_value m.cells c) → Reaches code cells G n (put m stack at)
  condition-run (fixed v) m stack at end line n ends ticks runs sat lined next room go = differs-run (fixed v) m stack at end line n ends ticks runs sat lined next room go
  condition-run (cell a) m stack at end line n ends ticks runs sat lined next room go = differs-run (cell a) m stack at end line n ends ticks runs sat lined next room go
  condition-run (indirect base size i) m stack at end line n ends ticks runs sat lined next room go =
      differs-run (indirect base size i) m stack at end line n ends ticks runs sat lined next room go
  condition-run (prefix op e) m stack at end line n ends ticks runs sat lined next room go = differs-run (prefix op e) m stack at end line n ends ticks runs sat lined next room go
  condition-run (infix_of op l r) m stack at end line n ends ticks runs sat lined next room go = by_test (is_of_one_cell op) refl ends lined room go
    where
      compared : Bool → Condition
      compared b = if b then record { words = expr_code l ++ expr_code r; operator = op } else differs_from_zero (infix_of op l r)

      by_test : (b : Bool) → is_of_one_cell op ≡ b → end ≡ at + length (compared b).words → Lined code line at (compared b).words
          → length stack + (if b then max (depth l) (1 + depth r) else max (depth (infix_of op l r)) 2) ≤ m.shape.stack
          → Chosen (compared b).operator m stack line end (core_value m.cells (infix_of op l r)) → Reaches code cells G n (put m stack at)
      by_test true one ends lined room go = compares-run op l r m stack at end line n one ends (omega arith) runs sat.0 sat.1 lined next room go
      by_test false one ends lined room go = differs-run (infix_of op l r) m stack at end line n ends ticks runs sat lined next room go

-- Displacements

-- a displacement is read back from sixteen bits
read-back : (v : ℤ) → FitsSigned w16 v → cast_signed w16 (sixteen_bits v) ≡ v
read-back v fits = ap (cast_signed w16) (sixteen-is v fits) ∙ to_z-of_z w16 v fits

-- between places inside the code it fits
fits-between : (from target : ℕ) (v : ℤ) → pos from +ℤ v ≡ pos target → from ≤ 32768 → target < 32768 → FitsSigned w16 v
fits-between from target (pos n) leads low high = record { sfits = omega (arith, ints, leads) }
fits-between from target (negsuc n) leads low high = record { sfits = omega (arith, ints, leads) }

small-between : (from target : ℕ) (v : ℤ) → pos from +ℤ v ≡ pos target → from ≤ 2047 → target ≤ 2047 → (int_lt v (negsuc 2047) || int_lt (pos 2047) v) ≡ false
small-between from target (pos n) leads low high = let few : n ≤ 2047 = omega (arith, ints, leads) in le-ltb 2047 n few
small-between from target (negsuc n) leads low high = let few : n ≤ 2047 = omega (arith, ints, leads) in rw (le-ltb 2047 n few) refl

word-of : (code : List Coded) (at : ℕ) (c : Coded) → slice_get code at ≡ Some c → word_at code at ≡ c.word
word-of code at c found =
    get_or_from_slice_get (map (λ x. x.word) code) at c.word 0 (slice_get-map (λ (x : Coded). x.word) code at ∙ ap (option_map (λ (x : Coded). x.word)) found)

module _ (plan : Plan) where
  abbrev cells : ℕ
  cells = plan.program.core.cells

  -- where a test goes on
  both-ways : (a b : Bool) → a ≡ b → (line : ℕ) (c : CoreExpr) (is_edge : Bool) (at : ℕ) (first second rest : List CoreTask) (kept : List ℕ) (frames : List Frame)
      → (t : Tests plan is_edge line c at (first ++ rest) (second ++ rest) kept frames)
      → Does plan ((if b then first else second) ++ rest) (chosen a (at + length (condition_code c).words + 2) (at + length (condition_code c).words + t.otherwise)) kept 0 frames
  both-ways true true e line c is_edge at first second rest kept frames t =
      let place : at + (length (condition_code c).words + 2) ≡ at + length (condition_code c).words + 2 = omega arith in
      subst (λ k. Does plan (first ++ rest) k kept 0 frames) place t.so
  both-ways false false e line c is_edge at first second rest kept frames t = t.not_so
  both-ways true false e line c is_edge at first second rest kept frames t = absurd (true≢false e)
  both-ways false true e line c is_edge at first second rest kept frames t = absurd (true≢false (sym e))

  -- a test of a condition
  pub test-run : Laid plan → (line : ℕ) (c : CoreExpr) (first second rest : List CoreTask) (m : State) (t : CoreState) (at : ℕ) (kept : List ℕ) (weighs n : ℕ) (frames : List Frame)
      → Tests plan false line c at (first ++ rest) (second ++ rest) kept frames → is_good_expr plan.program.core kept c ≡ true → has_cells c ≡ true
      → length frames + condition_depth c ≤ limit plan → weighs + nodes c + 3 ≤ plan.weight → weighs + n + 1 ≡ plan.weight → Going plan m t kept frames
      → Reaches plan.code cells (Ends plan (core_tested line (record t { work = rest }) (core_value t.cells c) first second) None) n (put m (stack_of frames) at)
  test-run laid line c first second rest m t at kept weighs n frames tests good numbers deep light total g =
      let after : Element → CoreStepped = λ el. core_tested line (record t { work = rest }) el first second in
      let G : Element → State → Type 0 = λ el. Ends plan (after el) None in
      let same : core_value m.cells c ≡ core_value t.cells c = value-alike plan.program.core kept m.cells t.cells c good g.reads in
      let sat : Sits (length m.cells) c = sits plan.program.core kept (length m.cells) c g.base.long g.base.few good numbers in
      let high : length (stack_of frames) + condition_depth c ≤ m.shape.stack = let r = stack-room plan m t g.base in omega (arith, stack-long frames) in
      let lined : Lined plan.code line at words = stands-lined plan.code line at words split.0 in
      subst (λ el. Reaches plan.code cells (G el) n (put m stack at)) same
      (condition-run plan.code cells (G (core_value m.cells c)) c m stack at end line n refl (omega arith) (runs-of plan m t kept frames g) sat lined here high (behind (core_value m.cells c)))
    where
      stack : List ℤ
      stack = stack_of frames

      words : List ℕ
      words = (condition_code c).words

      op : Binary
      op = (condition_code c).operator

      end : ℕ
      end = at + length words

      branching : List Coded
      branching = record { word = branch_word op false; line = line; is_edge = false } ∷ on_line line (sixteen_bits (pos tests.otherwise) ∷ [])

      split : Stands plan.code at (on_line line words) × Stands plan.code (at + length (on_line line words)) branching
      split = stands-split plan.code at (on_line line words) branching tests.stands

      branch : Stands plan.code end branching
      branch = subst (λ k. Stands plan.code (at + k) branching) (on_line-long line words) split.1

      here : line_at plan.code end ≡ line
      here = line-of plan.code end _ branch.0

      target : ℕ
      target = end + tests.otherwise

      inside : target < length plan.code
      inside = does-inside plan (second ++ rest) target kept 0 frames tests.not_so

      leads : pos end +ℤ cast_signed w16 (sixteen_bits (pos tests.otherwise)) ≡ pos target
      leads =
          let short = laid.short in
          let low : target < length plan.code = inside in
          let fits : FitsSigned w16 (pos tests.otherwise) = record { sfits = omega arith } in
          let back : cast_signed w16 (sixteen_bits (pos tests.otherwise)) ≡ pos tests.otherwise = read-back (pos tests.otherwise) fits in
          rw back refl

      behind : (el : Element) → Chosen plan.code cells (Ends plan (core_tested line (record t { work = rest }) el first second) None) op m stack line end el
      behind (Err stop) = λ top pc on_it tick uncalled. stop-ends plan stop m (record t { work = rest }) top pc line (put-base plan m t m.stack m.pc rest g.base) on_it tick uncalled
      behind (Ok v) = λ l r x value same.
          let top : List ℤ = r ∷ l ∷ stack in
          let reaches : target < length m.code = let memory = g.base.memory in let low : target < length plan.code = inside in omega arith in
          let at_branch : Ready (put m top end) (branch_word op false) = ready plan m t kept frames top end line (branch_word op false) g branch.0 in
          let second_word : slice_get m.code (end + 1) ≡ Some (sixteen_bits (pos tests.otherwise)) = g.base.holds (end + 1) _ branch.1.0 refl in
          let pc : ℕ = chosen (is_true x) (end + 2) target in
          let tick : ticked (put m top end) ≡ (Effect, put m stack pc) = branch-tick (put m top end) op l r x stack (sixteen_bits (pos tests.otherwise)) target refl at_branch second_word leads reaches value in
          let work : List CoreTask = (if is_true v then first else second) ++ rest in
          let placed : Does plan work pc kept 0 frames = both-ways (is_true x) (is_true v) same line c false at first second rest kept frames tests in
          let next : Aligned plan (put m stack pc) (record t { work = work }) =
          onward plan (put m stack pc) (record t { work = work }) (put-base plan m t stack pc work g.base) (is-active plan m t kept frames g)
          (record { kept = kept; frames = frames; nested = g.nested; reads = g.reads; placed = placed; empty = refl }) in
          inl (lands-by plan (core_tested line (record t { work = rest }) (Ok v) first second) None (no-native plan) (put m top end) (put m stack pc) Effect tick refl refl refl
          (branch-uncalled (put m top end) op at_branch plan.program.project) next)

  -- the test of a `when`, which remembers what it saw
  pub when-run : Laid plan → (which line : ℕ) (c : CoreExpr) (first rest : List CoreTask) (m : State) (t : CoreState) (at : ℕ) (kept : List ℕ) (weighs n : ℕ) (frames : List Frame)
      → Tests plan true line c at (first ++ rest) rest kept frames → slice_get plan.places which ≡ Some (at + length (condition_code c).words)
      → is_good_expr plan.program.core kept c ≡ true → has_cells c ≡ true
      → length frames + condition_depth c ≤ limit plan → weighs + nodes c + 3 ≤ plan.weight → weighs + n + 1 ≡ plan.weight → Going plan m t kept frames
      → Reaches plan.code cells (Ends plan (core_edge line (record t { work = rest }) which (core_value t.cells c) first) None) n (put m (stack_of frames) at)
  when-run laid which line c first rest m t at kept weighs n frames tests place good numbers deep light total g =
      let after : Element → CoreStepped = λ el. core_edge line (record t { work = rest }) which el first in
      let G : Element → State → Type 0 = λ el. Ends plan (after el) None in
      let same : core_value m.cells c ≡ core_value t.cells c = value-alike plan.program.core kept m.cells t.cells c good g.reads in
      let sat : Sits (length m.cells) c = sits plan.program.core kept (length m.cells) c g.base.long g.base.few good numbers in
      let high : length (stack_of frames) + condition_depth c ≤ m.shape.stack = let r = stack-room plan m t g.base in omega (arith, stack-long frames) in
      let lined : Lined plan.code line at words = stands-lined plan.code line at words split.0 in
      subst (λ el. Reaches plan.code cells (G el) n (put m stack at)) same
      (condition-run plan.code cells (G (core_value m.cells c)) c m stack at end line n refl (omega arith) (runs-of plan m t kept frames g) sat lined here high (behind (core_value m.cells c)))
    where
      stack : List ℤ
      stack = stack_of frames

      words : List ℕ
      words = (condition_code c).words

      op : Binary
      op = (condition_code c).operator

      end : ℕ
      end = at + length words

      branching : List Coded
      branching = record { word = branch_word op true; line = line; is_edge = true } ∷ on_line line (sixteen_bits (pos tests.otherwise) ∷ [])

      split : Stands plan.code at (on_line line words) × Stands plan.code (at + length (on_line line words)) branching
      split = stands-split plan.code at (on_line line words) branching tests.stands

      branch : Stands plan.code end branching
      branch = subst (λ k. Stands plan.code (at + k) branching) (on_line-long line words) split.1

      here : line_at plan.code end ≡ line
      here = line-of plan.code end _ branch.0

      target : ℕ
      target = end + tests.otherwise

      inside : target < length plan.code
      inside = does-inside plan rest target kept 0 frames tests.not_so

      leads : pos end +ℤ cast_signed w16 (sixteen_bits (pos tests.otherwise)) ≡ pos target
      leads =
          let short = laid.short in
          let low : target < length plan.code = inside in
          let fits : FitsSigned w16 (pos tests.otherwise) = record { sfits = omega arith } in
          let back : cast_signed w16 (sixteen_bits (pos tests.otherwise)) ≡ pos tests.otherwise = read-back (pos tests.otherwise) fits in
          rw back refl

      bit : Bool
      bit = slice_index_or t.bits which false

      word : word_at plan.code end ≡ branch_word op true
      word = word-of plan.code end _ branch.0

      remembered : slice_get m.code end ≡ Some (remembering bit (branch_word op true))
      remembered = subst (λ w. slice_get m.code end ≡ Some (remembering bit w)) word (bit-at plan.code m.code plan.places t.bits which end place g.base.same_bits)

      behind : (el : Element) → Chosen plan.code cells (Ends plan (core_edge line (record t { work = rest }) which el first) None) op m stack line end el
      behind (Err stop) = λ top pc on_it tick uncalled. stop-ends plan stop m (record t { work = rest }) top pc line (put-base plan m t m.stack m.pc rest g.base) on_it tick uncalled
      behind (Ok v) = λ l r x value same.
          let top : List ℤ = r ∷ l ∷ stack in
          let reaches : target < length m.code = let memory = g.base.memory in let low : target < length plan.code = inside in omega arith in
          let stays : end < length m.code = let memory = g.base.memory in let low : target < length plan.code = inside in omega arith in
          let at_branch : Ready (put m top end) (remembering bit (branch_word op true)) = record { active = g.active; unpaused = g.unpaused; at = remembered } in
          let second_word : slice_get m.code (end + 1) ≡ Some (sixteen_bits (pos tests.otherwise)) = g.base.holds (end + 1) _ branch.1.0 refl in
          let pc : ℕ = chosen (is_true x && not bit) (end + 2) target in
          let tick : ticked (put m top end) ≡ (Effect, remembered_at (put m top end) stack (branch_word op true) (is_true x) pc) =
          when-tick (put m top end) op bit l r x stack (sixteen_bits (pos tests.otherwise)) target refl at_branch second_word leads reaches value in
          let work : List CoreTask = (if is_true v && not bit then first else []) ++ rest in
          let turns : (is_true x && not bit) ≡ (is_true v && not bit) = ap (λ b. b && not bit) same in
          let placed : Does plan work pc kept 0 frames = both-ways (is_true x && not bit) (is_true v && not bit) turns line c true at first [] rest kept frames tests in
          let s : CoreState = record t { bits = slice_set t.bits which (is_true v); work = work } in
          let n_seen : Bool → State = λ b. remembered_at (put m top end) stack (branch_word op true) b pc in
          let base_by : Base plan (remembered_at (put m top end) stack (word_at plan.code end) (is_true v) pc) s =
          edge-base plan (put m top end) t stack pc which (is_true v) work _ branch.0 refl place stays (λ j there. laid.apart which j end place there) (put-base plan m t top end t.work g.base) in
          let base : Base plan (n_seen (is_true v)) s = subst (λ w. Base plan (remembered_at (put m top end) stack w (is_true v) pc) s) word base_by in
          let next : Aligned plan (n_seen (is_true v)) s =
          onward plan (n_seen (is_true v)) s base (is-active plan m t kept frames g) (record { kept = kept; frames = frames; nested = g.nested; reads = g.reads; placed = placed; empty = refl }) in
          inl (lands-by plan (core_edge line (record t { work = rest }) which (Ok v) first) None (no-native plan) (put m top end) (n_seen (is_true x)) Effect tick refl refl refl
          (when-uncalled (put m top end) op bit at_branch plan.program.project) (subst (λ b. Aligned plan (n_seen b) s) (sym same) next))

  -- a jump, of one word or of four
  pub jump-run : Laid plan → (line target : ℕ) (work : List CoreTask) (m : State) (t : CoreState) (at : ℕ) (kept : List ℕ) (weighs n : ℕ) (frames : List Frame)
      → Jumps plan line at target weighs frames → at < length plan.code → Does plan work target kept 0 frames → weighs + n + 1 ≡ plan.weight → Going plan m t kept frames
      → Reaches plan.code cells (Ends plan (record { state = record t { work = work }; report = None }) None) n (put m (stack_of frames) at)
  jump-run laid line target work m t at kept weighs n frames jumps from placed total g = by_test (is_large plan.program.project) refl jumps.stands
    where
      stack : List ℤ
      stack = stack_of frames

      G : State → Type 0
      G = Ends plan (record { state = record t { work = work }; report = None }) None

      inside : target < length plan.code
      inside = does-inside plan work target kept 0 frames placed

      reaches : target < length m.code
      reaches = let memory = g.base.memory in let low : target < length plan.code = inside in omega arith

      next : Aligned plan (put m stack target) (record t { work = work })
      next =
          onward plan (put m stack target) (record t { work = work }) (put-base plan m t stack target work g.base) (is-active plan m t kept frames g)
          (record { kept = kept; frames = frames; nested = g.nested; reads = g.reads; placed = placed; empty = refl })

      by_test : (b : Bool) → is_large plan.program.project ≡ b → Lined plan.code line at (if b then far_jump (sixteen_bits (jumps.by -ℤ pos 2)) else jump_word jumps.by ∷ []) → Reaches plan.code cells G n (put m stack at)
      by_test false ordinary lined =
          let few : length plan.code ≤ 2048 = laid.near ordinary in
          let low : target < length plan.code = inside in
          let small : (int_lt jumps.by (negsuc 2047) || int_lt (pos 2047) jumps.by) ≡ false = small-between at target jumps.by jumps.leads (omega arith) (omega arith) in
          let at_jump : Ready (put m stack at) (jump_word jumps.by) = ready plan m t kept frames stack at line (jump_word jumps.by) g lined.0 in
          let tick : ticked (put m stack at) ≡ (Effect, put m stack target) = jump-tick (put m stack at) jumps.by target small at_jump jumps.leads reaches in
          reached plan.code cells G n (put m stack at)
          (inl (lands-by plan (record { state = record t { work = work }; report = None }) None (no-native plan) (put m stack at) (put m stack target) Effect tick refl refl refl
          (no-call (put m stack at) opcode.Jump (twelve_bits jumps.by) (small-is jumps.by small) at_jump (λ project id. refl) plan.program.project) next))
      by_test true large lined =
          let short = laid.short in
          let low : target < length plan.code = inside in
          let by : ℤ = jumps.by -ℤ pos 2 in
          let leads : pos (at + 2) +ℤ by ≡ pos target = omega (arith, ints, jumps.leads) in
          let fits : FitsSigned w16 by = fits-between (at + 2) target by leads (omega arith) (omega arith) in
          let back : cast_signed w16 (sixteen_bits by) ≡ by = read-back by fits in
          let leads_read : pos (at + 2) +ℤ cast_signed w16 (sixteen_bits by) ≡ pos target = rw back leads in
          let third : at + 1 + 1 ≡ at + 2 = omega arith in
          let branch : Lined plan.code line (at + 2) (branch_word Differ false ∷ sixteen_bits by ∷ []) = subst (λ k. Lined plan.code line k (branch_word Differ false ∷ sixteen_bits by ∷ [])) third lined.1.1 in
          let here : line_at plan.code (at + 2) ≡ line = line-of plan.code (at + 2) _ branch.0 in
          let high : length stack + condition_depth (fixed (pos 0)) ≤ m.shape.stack = let r = stack-room plan m t g.base in let room = jumps.room in omega (arith, stack-long frames) in
          let light = jumps.light in
          let go : Chosen plan.code cells G Differ m stack line (at + 2) (Ok (pos 0)) = λ l r x value same.
          let top : List ℤ = r ∷ l ∷ stack in
          let at_branch : Ready (put m top (at + 2)) (branch_word Differ false) = ready plan m t kept frames top (at + 2) line (branch_word Differ false) g branch.0 in
          let second_word : slice_get m.code (at + 2 + 1) ≡ Some (sixteen_bits by) = g.base.holds (at + 2 + 1) _ branch.1.0 refl in
          let leading : chosen (is_true x) (at + 2 + 2) target ≡ target = ap (λ b. chosen b (at + 2 + 2) target) same in
          let tick : ticked (put m top (at + 2)) ≡ (Effect, put m stack (chosen (is_true x) (at + 2 + 2) target)) =
          branch-tick (put m top (at + 2)) Differ l r x stack (sixteen_bits by) target refl at_branch second_word leads_read reaches value in
          inl (lands-by plan (record { state = record t { work = work }; report = None }) None (no-native plan) (put m top (at + 2)) (put m stack target) Effect
          (tick ∙ ap (λ pc. (Effect, put m stack pc)) leading) refl refl refl (branch-uncalled (put m top (at + 2)) Differ at_branch plan.program.project) next) in
          condition-run plan.code cells G (fixed (pos 0)) m stack at (at + 2) line n refl (omega arith) (runs-of plan m t kept frames g) zero-fits (lined.0, (lined.1.0, tt)) here high go
