-- The code of an expression pushes its value, or stops where the value's definition stops.
use Rattle.std.proofs.Common.{◌≡◌, ℕ, suc, ◌+◌, ◌<◌, ◌≤◌, ◌⊎◌, inl, inr, ◌||◌, Bool, true, false, if◌then◌else◌, nat_lt, ℤ, pos, negsuc, List, [], ◌∷◌, ◌++◌, length, slice_get, slice_index_or, Option, Some, None, Ok, Err, refl, sym, ap, ◌∙◌, subst, arith, length-append, ltb-true}
use Rattle.std.proofs.lemmas.Option.{slice_get-get_or}
use Rattle.std.proofs.lemmas.Int.{to_z-of_z}
use Rattle.std.specs.Prelude.{int_lt, ok_or}
use Rattle.std.specs.Int.{cast_signed, cast_unsigned, w16}
use Rattle.std.specs.Int.RustNames.{FitsSigned}
use Rattle.aseba_words.specs.Cell.{unary_value, binary_value}
use Rattle.aseba_words.specs.Codes.{binary_code}
use Rattle.aseba_words.specs.declared.operators.Unary.{Unary}
use Rattle.aseba_words.specs.declared.operators.Binary.{Binary}
use Rattle.aseba_tree.specs.Value.{Stop, by_zero, outside, Element, and_then, place_among, unary_element, binary_element}
use Rattle.aseba_tree.specs.CoreExpr.{CoreExpr, fixed, cell, indirect, prefix, infix_of, core_value}
use Rattle.aseba_tree.specs.Numbers.{nodes, depth}
use Rattle.aseba_vm.specs.declared.opcode.Opcode.TheVariants as opcode
use Rattle.aseba_vm.specs.declared.tick.Tick.TheVariants.{Quiet, Sent}
use Rattle.aseba_vm.specs.declared.tick.Notice.{Notice}
use Rattle.aseba_vm.specs.declared.tick.Notice.TheVariants.{Bounds, Division}
use Rattle.aseba_vm.specs.State.{State}
use Rattle.aseba_vm.specs.Outcome.{index_in}
use Rattle.aseba_vm.specs.Tick.{ticked}
use Rattle.aseba_vm.specs.Words.{small_number_word, load_word, load_indirect_word, unary_word, binary_word}
use Rattle.aseba_codegen.specs.declared.coded.Coded.{Coded}
use Rattle.aseba_codegen.specs.Words.{sixteen_bits, large_number_code, expr_code}
use Rattle.aseba_codegen.specs.Agrees.{line_at}
use Rattle.aseba_codegen.proofs.TickRows.{put, halted, Ready, NoCall, no-call, binary-low, small-tick, large-tick, load-tick, load_indirect-tick, load_outside-tick, unary-tick, binary-tick, divide-tick}
use Rattle.aseba_codegen.proofs.Reach.{Holds, Lined, lined-split, line-of, lined-line, Reaches, one-quiet}

-- what an expression asks of a number of cells: its numbers are cells, and its cells are there
abbrev pub Sits : ℕ → CoreExpr → Type 0
Sits many (fixed v) = FitsSigned w16 v
Sits many (cell address) = address < many
Sits many (indirect base size i) = (base + size ≤ many) × (base < 4096) × Sits many i
Sits many (prefix op e) = Sits many e
Sits many (infix_of op l r) = Sits many l × Sits many r

-- the notice of a stop
abbrev pub notice_of : ℕ → Stop → Notice
notice_of pc by_zero = Division pc
notice_of pc (outside size index) = Bounds pc size index

-- a machine that runs this code
pub record Runs (code : List Coded) (m : State) : Type 0 where
  pub active : m.active ≡ true
  pub unpaused : m.paused ≡ false
  pub holds : Holds code m.code
  pub many : length m.cells ≤ 4096

-- a cell in sixteen bits
pub sixteen-is : (v : ℤ) → FitsSigned w16 v → sixteen_bits v ≡ cast_unsigned w16 v
sixteen-is (pos n) fits = let low : n < 32768 = fits.sfits in omega arith
sixteen-is (negsuc n) fits = omega arith

-- an index as a place on both sides
pub place-cases : (size : ℕ) (v : ℤ)
    → ((p : ℕ) × (place_among size v ≡ Ok p) × (index_in size v ≡ Some p) × (p < size)) ⊎ ((place_among size v ≡ Err (outside size v)) × (index_in size v ≡ None))
place-cases size (pos i) = by_test (nat_lt i size) refl
  where
    by_test : (b : Bool) → nat_lt i size ≡ b
        → ((p : ℕ) × (place_among size (pos i) ≡ Ok p) × (index_in size (pos i) ≡ Some p) × (p < size)) ⊎ ((place_among size (pos i) ≡ Err (outside size (pos i))) × (index_in size (pos i) ≡ None))
    by_test true e = inl (i, rw e refl, rw e refl, ltb-true i size e)
    by_test false e = inr (rw e refl, rw e refl)
place-cases size (negsuc n) = inr (refl, refl)

module _ (code : List Coded) (cells : ℕ) (G : State → Type 0) where
  -- how a run goes on with an element: with its cell on the stack, or stopped on the line
  abbrev pub Goes : (b : ℕ) (m : State) (stack : List ℤ) (line end : ℕ) → Element → Type 0
  Goes b m stack line end (Ok v) = Reaches code cells G b (put m (v ∷ stack) end)
  Goes b m stack line end (Err stop) =
      (top : List ℤ) (pc : ℕ) → line_at code pc ≡ line → ticked (put m top pc) ≡ (Sent (notice_of pc stop), halted (put m top pc)) → NoCall (put m top pc) → G (put m top pc)

  -- a word of the code is ready
  pub ready-at : (m : State) (stack : List ℤ) (at line w : ℕ) → Runs code m → slice_get code at ≡ Some (record { word = w; line = line; is_edge = false }) → Ready (put m stack at) w
  ready-at m stack at line w runs found = record { active = runs.active; unpaused = runs.unpaused; at = runs.holds at _ found refl }

  number-run : (v : ℤ) (m : State) (stack : List ℤ) (at end line n b : ℕ) (big : Bool) → (int_lt v (negsuc 2047) || int_lt (pos 2047) v) ≡ big
      → end ≡ at + length (if big then large_number_code v else small_number_word v ∷ []) → n ≡ suc b
      → Runs code m → FitsSigned w16 v → Lined code line at (if big then large_number_code v else small_number_word v ∷ []) → line_at code end ≡ line
      → length stack < m.shape.stack → Reaches code cells G b (put m (v ∷ stack) end) → Reaches code cells G n (put m stack at)
  number-run v m stack at end line n b false small ends ticks runs fits lined next room go =
      let here : line_at code at ≡ line = line-of code at _ lined.0 in
      let behind : end ≡ at + 1 = ends in
      let tick : ticked (put m stack at) ≡ (Quiet, put m (v ∷ stack) (at + 1)) = small-tick (put m stack at) v small (ready-at m stack at line _ runs lined.0) room in
      one-quiet code cells G n b (put m stack at) (v ∷ stack) end ticks (subst (λ k. ticked (put m stack at) ≡ (Quiet, put m (v ∷ stack) k)) (sym behind) tick) (next ∙ sym here) go
  number-run v m stack at end line n b true large ends ticks runs fits lined next room go =
      let here : line_at code at ≡ line = line-of code at _ lined.0 in
      let behind : end ≡ at + 2 = ends in
      let second : slice_get m.code (at + 1) ≡ Some (sixteen_bits v) = runs.holds (at + 1) _ lined.1.0 refl in
      let tick : ticked (put m stack at) ≡ (Quiet, put m (cast_signed w16 (sixteen_bits v) ∷ stack) (at + 2)) =
      large-tick (put m stack at) (sixteen_bits v) (ready-at m stack at line _ runs lined.0) second room in
      let value : cast_signed w16 (sixteen_bits v) ≡ v = ap (cast_signed w16) (sixteen-is v fits) ∙ to_z-of_z w16 v fits in
      one-quiet code cells G n b (put m stack at) (v ∷ stack) end ticks
      (subst (λ k. ticked (put m stack at) ≡ (Quiet, put m (v ∷ stack) k)) (sym behind) (subst (λ x. ticked (put m stack at) ≡ (Quiet, put m (x ∷ stack) (at + 2))) value tick))
      (next ∙ sym here) go

  cell-run : (a : ℕ) (m : State) (stack : List ℤ) (at end line n b : ℕ) → end ≡ at + 1 → n ≡ suc b → Runs code m → a < length m.cells
      → Lined code line at (load_word a ∷ []) → line_at code end ≡ line → length stack < m.shape.stack
      → Reaches code cells G b (put m (slice_index_or m.cells a (pos 0) ∷ stack) end) → Reaches code cells G n (put m stack at)
  cell-run a m stack at end line n b ends ticks runs inside lined next room go =
      let here : line_at code at ≡ line = line-of code at _ lined.0 in
      let below : a < 4096 = let many = runs.many in omega arith in
      let v : ℤ = slice_index_or m.cells a (pos 0) in
      let found : slice_get m.cells a ≡ Some v = slice_get-get_or m.cells a (pos 0) inside in
      let tick : ticked (put m stack at) ≡ (Quiet, put m (v ∷ stack) (at + 1)) = load-tick (put m stack at) a v below (ready-at m stack at line _ runs lined.0) room found in
      one-quiet code cells G n b (put m stack at) (v ∷ stack) end ticks (subst (λ k. ticked (put m stack at) ≡ (Quiet, put m (v ∷ stack) k)) (sym ends) tick) (next ∙ sym here) go

  -- the last words of an expression, with the elements of its operands
  unary-run : (op : Unary) (e : Element) (m : State) (stack : List ℤ) (at end line b : ℕ) → end ≡ at + 1 → Runs code m
      → Lined code line at (unary_word op ∷ []) → line_at code end ≡ line
      → Goes b m stack line end (unary_element op e) → Goes (suc b) m stack line at e
  unary-run op (Err s) m stack at end line b ends runs lined next go = go
  unary-run op (Ok v) m stack at end line b ends runs lined next go =
      let here : line_at code at ≡ line = line-of code at _ lined.0 in
      let tick : ticked (put m (v ∷ stack) at) ≡ (Quiet, put m (unary_value op v ∷ stack) (at + 1)) = unary-tick (put m (v ∷ stack) at) op v stack refl (ready-at m (v ∷ stack) at line _ runs lined.0) in
      one-quiet code cells G (suc b) b (put m (v ∷ stack) at) (unary_value op v ∷ stack) end refl
      (subst (λ k. ticked (put m (v ∷ stack) at) ≡ (Quiet, put m (unary_value op v ∷ stack) k)) (sym ends) tick) (next ∙ sym here) go

  operator-run : (op : Binary) (l r : ℤ) (o : Option ℤ) → binary_value op l r ≡ o → (m : State) (stack : List ℤ) (at end line b : ℕ) → end ≡ at + 1 → Runs code m
      → Lined code line at (binary_word op ∷ []) → line_at code end ≡ line
      → Goes b m stack line end (ok_or o by_zero) → Reaches code cells G (suc b) (put m (r ∷ l ∷ stack) at)
  operator-run op l r (Some v) e m stack at end line b ends runs lined next go =
      let here : line_at code at ≡ line = line-of code at _ lined.0 in
      let tick : ticked (put m (r ∷ l ∷ stack) at) ≡ (Quiet, put m (v ∷ stack) (at + 1)) = binary-tick (put m (r ∷ l ∷ stack) at) op l r v stack refl (ready-at m (r ∷ l ∷ stack) at line _ runs lined.0) e in
      one-quiet code cells G (suc b) b (put m (r ∷ l ∷ stack) at) (v ∷ stack) end refl
      (subst (λ k. ticked (put m (r ∷ l ∷ stack) at) ≡ (Quiet, put m (v ∷ stack) k)) (sym ends) tick) (next ∙ sym here) go
  operator-run op l r None e m stack at end line b ends runs lined next go =
      let here : line_at code at ≡ line = line-of code at _ lined.0 in
      inl (go (r ∷ l ∷ stack) at here (divide-tick (put m (r ∷ l ∷ stack) at) op l r stack refl (ready-at m (r ∷ l ∷ stack) at line _ runs lined.0) e)
      (no-call (put m (r ∷ l ∷ stack) at) opcode.BinaryOperator (binary_code op) (binary-low op) (ready-at m (r ∷ l ∷ stack) at line _ runs lined.0) (λ project id. refl)))

  right-run : (op : Binary) (l : ℤ) (r : Element) (m : State) (stack : List ℤ) (at end line b : ℕ) → end ≡ at + 1 → Runs code m
      → Lined code line at (binary_word op ∷ []) → line_at code end ≡ line
      → Goes b m stack line end (binary_element op (Ok l) r) → Goes (suc b) m (l ∷ stack) line at r
  right-run op l (Err s) m stack at end line b ends runs lined next go = go
  right-run op l (Ok r) m stack at end line b ends runs lined next go = operator-run op l r (binary_value op l r) refl m stack at end line b ends runs lined next go

  left-run : (op : Binary) (l r : Element) (m : State) (stack : List ℤ) (at end line b k : ℕ)
      → ((v : ℤ) → Goes b m stack line end (binary_element op (Ok v) r) → Reaches code cells G k (put m (v ∷ stack) at))
      → Goes b m stack line end (binary_element op l r) → Goes k m stack line at l
  left-run op (Err s) r m stack at end line b k right go = go
  left-run op (Ok v) r m stack at end line b k right go = right v go

  index-run : (base size : ℕ) (e : Element) (m : State) (stack : List ℤ) (at end line b : ℕ) → end ≡ at + 2 → Runs code m → base + size ≤ length m.cells → base < 4096
      → Lined code line at (load_indirect_word base ∷ size ∷ []) → line_at code end ≡ line
      → Goes b m stack line end (and_then e (λ i. and_then (place_among size i) (λ place. Ok (slice_index_or m.cells (base + place) (pos 0)))))
      → Goes (suc b) m stack line at e
  index-run base size (Err s) m stack at end line b ends runs inside low lined next go = go
  index-run base size (Ok i) m stack at end line b ends runs inside low lined next go =
      let here : line_at code at ≡ line = line-of code at _ lined.0 in
      let second : slice_get m.code (at + 1) ≡ Some size = runs.holds (at + 1) _ lined.1.0 refl in
      let cell_at : ℕ → Element = λ place. Ok (slice_index_or m.cells (base + place) (pos 0)) in
      elim (place-cases size i) [
        | inl c ↦
            let address : ℕ = base + c.0 in
            let v : ℤ = slice_index_or m.cells address (pos 0) in
            let below : address < length m.cells = let small : c.0 < size = c.3 in omega arith in
            let found : slice_get m.cells address ≡ Some v = slice_get-get_or m.cells address (pos 0) below in
            let tick : ticked (put m (i ∷ stack) at) ≡ (Quiet, put m (v ∷ stack) (at + 2)) =
            load_indirect-tick (put m (i ∷ stack) at) base size v i c.0 stack low refl (ready-at m (i ∷ stack) at line _ runs lined.0) second c.2 found in
            let on : Goes b m stack line end (Ok v) = subst (λ r. Goes b m stack line end (and_then r cell_at)) c.1 go in
            one-quiet code cells G (suc b) b (put m (i ∷ stack) at) (v ∷ stack) end refl
            (subst (λ k. ticked (put m (i ∷ stack) at) ≡ (Quiet, put m (v ∷ stack) k)) (sym ends) tick) (next ∙ sym here) on
        | inr c ↦
            let on : Goes b m stack line end (Err (outside size i)) = subst (λ r. Goes b m stack line end (and_then r cell_at)) c.0 go in
            inl (on (i ∷ stack) at here (load_outside-tick (put m (i ∷ stack) at) base size i stack low refl (ready-at m (i ∷ stack) at line _ runs lined.0) second c.1)
            (no-call (put m (i ∷ stack) at) opcode.LoadIndirect base low (ready-at m (i ∷ stack) at line _ runs lined.0) (λ project id. refl)))
      ]

  -- the code of an expression, from any stack with room
  pub expr-run : (e : CoreExpr) (m : State) (stack : List ℤ) (at end line n b : ℕ) → end ≡ at + length (expr_code e) → n ≡ nodes e + b
      → Runs code m → Sits (length m.cells) e → Lined code line at (expr_code e) → line_at code end ≡ line → length stack + depth e ≤ m.shape.stack
      → Goes b m stack line end (core_value m.cells e) → Reaches code cells G n (put m stack at)
  expr-run (fixed v) m stack at end line n b ends ticks runs sits lined next room go =
      number-run v m stack at end line n b (int_lt v (negsuc 2047) || int_lt (pos 2047) v) refl ends (omega arith) runs sits lined next (omega arith) go
  expr-run (cell a) m stack at end line n b ends ticks runs sits lined next room go =
      cell-run a m stack at end line n b ends (omega arith) runs sits lined next (omega arith) go
  expr-run (prefix op e) m stack at end line n b ends ticks runs sits lined next room go =
      let parts = lined-split code line at (expr_code e) (unary_word op ∷ []) lined in
      let middle : ℕ = at + length (expr_code e) in
      let behind : end ≡ middle + 1 = omega (arith, length-append (expr_code e) (unary_word op ∷ [])) in
      let there : line_at code middle ≡ line = line-of code middle _ parts.1.0 in
      expr-run e m stack at middle line n (suc b) refl (omega arith) runs sits parts.0 there room
      (unary-run op (core_value m.cells e) m stack middle end line b behind runs parts.1 next go)
  expr-run (indirect base size i) m stack at end line n b ends ticks runs sits lined next room go =
      let parts = lined-split code line at (expr_code i) (load_indirect_word base ∷ size ∷ []) lined in
      let middle : ℕ = at + length (expr_code i) in
      let behind : end ≡ middle + 2 = omega (arith, length-append (expr_code i) (load_indirect_word base ∷ size ∷ [])) in
      let there : line_at code middle ≡ line = line-of code middle _ parts.1.0 in
      expr-run i m stack at middle line n (suc b) refl (omega arith) runs sits.2 parts.0 there room
      (index-run base size (core_value m.cells i) m stack middle end line b behind runs sits.0 sits.1 parts.1 next go)
  expr-run (infix_of op l r) m stack at end line n b ends ticks runs sits lined next room go =
      let whole = lined-split code line at (expr_code l ++ expr_code r) (binary_word op ∷ []) lined in
      let parts = lined-split code line at (expr_code l) (expr_code r) whole.0 in
      let right : ℕ = at + length (expr_code l) in
      let last : ℕ = at + length (expr_code l ++ expr_code r) in
      let between : last ≡ right + length (expr_code r) = omega (arith, length-append (expr_code l) (expr_code r)) in
      let behind : end ≡ last + 1 = omega (arith, length-append (expr_code l ++ expr_code r) (binary_word op ∷ [])) in
      let there : line_at code last ≡ line = line-of code last _ whole.1.0 in
      let start : line_at code right ≡ line = lined-line code line right last (expr_code r) between parts.1 there in
      expr-run l m stack at right line n (nodes r + suc b) refl (omega arith) runs sits.0 parts.0 start (omega arith)
      (left-run op (core_value m.cells l) (core_value m.cells r) m stack right end line b (nodes r + suc b)
      (λ v onward. expr-run r m (v ∷ stack) right last line (nodes r + suc b) (suc b) between refl runs sits.1 parts.1 there (omega arith)
      (right-run op v (core_value m.cells r) m stack last end line b behind runs whole.1 next onward))
      go)
