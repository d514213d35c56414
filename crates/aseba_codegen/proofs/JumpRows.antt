-- One tick of each instruction that leads elsewhere: jumps, branches, calls and returns.
use Rattle.std.proofs.Common.{◌≡◌, ℕ, ◌+◌, ◌-◌, ◌*◌, ◌/◌, ◌%◌, ◌<◌, ◌&&◌, ◌||◌, not, Bool, true, false, if◌then◌else◌, nat_lt, ℤ, pos, negsuc, ◌+ℤ◌, List, ◌∷◌, length, slice_get, slice_set, Some, refl, sym, ap, ◌∙◌, lt-ltb, arith}
use Rattle.std.proofs.lemmas.Int.{of_z-to_z}
use Rattle.std.specs.Prelude.{int_lt, ◌==◌}
use Rattle.std.specs.Int.{cast_signed, cast_unsigned, w16}
use Rattle.aseba_words.specs.Cell.{binary_value, is_true}
use Rattle.aseba_words.specs.Codes.{binary_code, binary_coded}
use Rattle.aseba_words.specs.declared.operators.Binary.{Binary}
use Rattle.aseba_vm.specs.declared.opcode.Opcode.TheVariants as opcode
use Rattle.aseba_vm.specs.declared.tick.Tick.TheVariants.{Effect}
use Rattle.aseba_vm.specs.State.{State, has_room}
use Rattle.aseba_vm.specs.Instructions.{opcode_of, operand_of, signed_operand_of, branch_operator_of, is_when, was_true, remembering}
use Rattle.aseba_vm.specs.Rows.{branched}
use Rattle.aseba_vm.specs.Tick.{ticked}
use Rattle.aseba_vm.specs.Words.{jump_word, branch_word, sub_call_word, sub_return_word, twelve_bits}
use Rattle.aseba_vm.proofs.Ticks.{ticked-row}
use Rattle.aseba_target.specs.MachineRun.{opcode_call}
use Rattle.aseba_codegen.proofs.BitLaws.{remembered}
use Rattle.aseba_codegen.proofs.TickRows.{put, Ready, NoCall, opcode-read, row-tick, low-of, small-is, small-below, binary-read}

-- a machine that goes on elsewhere
pub jump-tick : (m : State) (by : ℤ) (target : ℕ) → (int_lt by (negsuc 2047) || int_lt (pos 2047) by) ≡ false → Ready m (jump_word by) → pos m.pc +ℤ by ≡ pos target → target < length m.code
    → ticked m ≡ (Effect, put m m.stack target)
jump-tick m by target small ready leads inside =
    let below : twelve_bits by < 4096 = small-is by small in
    let low : operand_of (jump_word by) ≡ twelve_bits by = low-of opcode.Jump (twelve_bits by) below in
    let value : signed_operand_of (jump_word by) ≡ by = rw low (small-below by small) in
    let is_inside : nat_lt target (length m.code) ≡ true = lt-ltb _ _ inside in
    row-tick m opcode.Jump (twelve_bits by) below ready ∙ rw (value, leads, is_inside) refl

-- a branch by what two values on the stack come to
pub branching-tick : (m : State) (word : ℕ) (op : Binary) (l r v : ℤ) (stack : List ℤ) (by target : ℕ) → opcode_of word ≡ opcode.Branch → branch_operator_of word ≡ Some op
    → m.stack ≡ r ∷ l ∷ stack → Ready m word → slice_get m.code (m.pc + 1) ≡ Some by → pos m.pc +ℤ cast_signed w16 by ≡ pos target → target < length m.code
    → binary_value op l r ≡ Some v → ticked m ≡ (Effect, branched (is_true v) word target (put m stack m.pc))
branching-tick m word op l r v stack by target is_branch operator top ready next leads inside value =
    let is_inside : nat_lt target (length m.code) ≡ true = lt-ltb _ _ inside in
    ticked-row m word ready.active ready.unpaused ready.at ∙ rw (is_branch, next, leads, is_inside, operator, top, value) refl

binary-small : (op : Binary) → binary_code op < 256
binary-small op = grind arith

-- the word of a branch
branch-read : (op : Binary) → opcode_of (branch_word op false) ≡ opcode.Branch
branch-read op = let small = binary-small op in opcode-read opcode.Branch (binary_code op + 0)

branch-operator : (op : Binary) → branch_operator_of (branch_word op false) ≡ Some op
branch-operator op =
    let small = binary-small op in
    let e : (10 * 4096 + (binary_code op + 0) % 4096) % 256 ≡ binary_code op = omega arith in
    ap binary_coded e ∙ binary-read op

branch-plain : (op : Binary) → is_when (branch_word op false) ≡ false
branch-plain op =
    let small = binary-small op in
    let e : (10 * 4096 + (binary_code op + 0) % 4096) / 256 % 2 ≡ 0 = omega arith in
    ap (λ n. n == 1) e

abbrev pub chosen : Bool → (so not_so : ℕ) → ℕ
chosen b so not_so = if b then so else not_so

plain-branched : (b : Bool) (m : State) (word target : ℕ) → is_when word ≡ false → branched b word target m ≡ put m m.stack (chosen b (m.pc + 2) target)
plain-branched true m word target plain = rw plain refl
plain-branched false m word target plain = rw plain refl

pub branch-tick : (m : State) (op : Binary) (l r v : ℤ) (stack : List ℤ) (by target : ℕ)
    → m.stack ≡ r ∷ l ∷ stack → Ready m (branch_word op false) → slice_get m.code (m.pc + 1) ≡ Some by → pos m.pc +ℤ cast_signed w16 by ≡ pos target → target < length m.code
    → binary_value op l r ≡ Some v → ticked m ≡ (Effect, put m stack (chosen (is_true v) (m.pc + 2) target))
branch-tick m op l r v stack by target top ready next leads inside value =
    branching-tick m (branch_word op false) op l r v stack by target (branch-read op) (branch-operator op) top ready next leads inside value
    ∙ ap (λ n. (Effect, n)) (plain-branched (is_true v) (put m stack m.pc) (branch_word op false) target (branch-plain op))

-- The branch of a `when` with a truth that it remembers

when-low : (op : Binary) (w : ℕ) → w ≡ branch_word op true → w ≡ 41216 + binary_code op
when-low op w e = let small = binary-small op in omega arith

when-word : (op : Binary) (bit : Bool) → remembering bit (branch_word op true) ≡ 41216 + binary_code op + (if bit then 512 else 0)
when-word op bit =
    let small = binary-small op in
    let e : branch_word op true ≡ 41216 + binary_code op = when-low op (branch_word op true) refl in
    rw e (let f : (41216 + binary_code op) / 512 % 2 ≡ 0 = omega arith in rw f (omega arith))

when-read : (op : Binary) (bit : Bool) → opcode_of (remembering bit (branch_word op true)) ≡ opcode.Branch
when-read op bit = rw (when-word op bit) (by_bit bit)
  where
    by_bit : (bit : Bool) → opcode_of (41216 + binary_code op + (if bit then 512 else 0)) ≡ opcode.Branch
    by_bit true = let small = binary-small op in let e : (41216 + binary_code op + 512) / 4096 ≡ 10 = omega arith in rw e refl
    by_bit false = let small = binary-small op in let e : (41216 + binary_code op + 0) / 4096 ≡ 10 = omega arith in rw e refl

when-operator : (op : Binary) (bit : Bool) → branch_operator_of (remembering bit (branch_word op true)) ≡ Some op
when-operator op bit = rw (when-word op bit) (by_bit bit)
  where
    by_bit : (bit : Bool) → branch_operator_of (41216 + binary_code op + (if bit then 512 else 0)) ≡ Some op
    by_bit true = let small = binary-small op in let e : (41216 + binary_code op + 512) % 256 ≡ binary_code op = omega arith in ap binary_coded e ∙ binary-read op
    by_bit false = let small = binary-small op in let e : (41216 + binary_code op + 0) % 256 ≡ binary_code op = omega arith in ap binary_coded e ∙ binary-read op

when-is : (op : Binary) (bit : Bool) → is_when (remembering bit (branch_word op true)) ≡ true
when-is op bit = rw (when-word op bit) (by_bit bit)
  where
    by_bit : (bit : Bool) → is_when (41216 + binary_code op + (if bit then 512 else 0)) ≡ true
    by_bit true = let small = binary-small op in let e : (41216 + binary_code op + 512) / 256 % 2 ≡ 1 = omega arith in ap (λ n. n == 1) e
    by_bit false = let small = binary-small op in let e : (41216 + binary_code op + 0) / 256 % 2 ≡ 1 = omega arith in ap (λ n. n == 1) e

remembers-again : (op : Binary) (b bit : Bool) → remembering b (remembering bit (branch_word op true)) ≡ remembering b (branch_word op true)
remembers-again op b bit = rw (when-word op bit) (by_bit bit ∙ sym (when-word op b))
  where
    by_bit : (bit : Bool) → remembering b (41216 + binary_code op + (if bit then 512 else 0)) ≡ 41216 + binary_code op + (if b then 512 else 0)
    by_bit true =
        let small = binary-small op in
        let e : (41216 + binary_code op + 512) / 512 % 2 ≡ 1 = omega arith in
        let f : 41216 + binary_code op + 512 - 1 * 512 ≡ 41216 + binary_code op = omega arith in
        rw e (rw f refl)
    by_bit false =
        let small = binary-small op in
        let e : (41216 + binary_code op + 0) / 512 % 2 ≡ 0 = omega arith in
        let f : 41216 + binary_code op + 0 - 0 * 512 ≡ 41216 + binary_code op = omega arith in
        rw e (rw f refl)

-- the memory behind a `when`, and where it goes on
abbrev pub remembered_at : State → List ℤ → (word : ℕ) → Bool → ℕ → State
remembered_at m stack word b pc = record m { code = slice_set m.code m.pc (remembering b word); stack = stack; pc = pc }

edge-branched : (b bit : Bool) (m : State) (op : Binary) (target : ℕ)
    → branched b (remembering bit (branch_word op true)) target m ≡ remembered_at m m.stack (branch_word op true) b (chosen (b && not bit) (m.pc + 2) target)
edge-branched b bit m op target =
    let was : was_true (remembering bit (branch_word op true)) ≡ bit = remembered bit (branch_word op true) in
    rw (when-is op bit, was, remembers-again op b bit) refl

pub when-tick : (m : State) (op : Binary) (bit : Bool) (l r v : ℤ) (stack : List ℤ) (by target : ℕ)
    → m.stack ≡ r ∷ l ∷ stack → Ready m (remembering bit (branch_word op true)) → slice_get m.code (m.pc + 1) ≡ Some by → pos m.pc +ℤ cast_signed w16 by ≡ pos target → target < length m.code
    → binary_value op l r ≡ Some v
    → ticked m ≡ (Effect, remembered_at m stack (branch_word op true) (is_true v) (chosen (is_true v && not bit) (m.pc + 2) target))
when-tick m op bit l r v stack by target top ready next leads inside value =
    branching-tick m (remembering bit (branch_word op true)) op l r v stack by target (when-read op bit) (when-operator op bit) top ready next leads inside value
    ∙ ap (λ n. (Effect, n)) (edge-branched (is_true v) bit (put m stack m.pc) op target)

-- a branch calls no native

call-by : (m : State) (word : ℕ) → Ready m word → opcode_of word ≡ opcode.Branch → NoCall m
call-by m word ready is_branch project = rw (ready.active, ready.unpaused, ready.at) (ap (opcode_call project (operand_of word)) is_branch)

pub branch-uncalled : (m : State) (op : Binary) → Ready m (branch_word op false) → NoCall m
branch-uncalled m op ready = call-by m (branch_word op false) ready (branch-read op)

pub when-uncalled : (m : State) (op : Binary) (bit : Bool) → Ready m (remembering bit (branch_word op true)) → NoCall m
when-uncalled m op bit ready = call-by m (remembering bit (branch_word op true)) ready (when-read op bit)

-- Calls

pub call-tick : (m : State) (start : ℕ) → start < 4096 → Ready m (sub_call_word start) → length m.stack < m.shape.stack → start < length m.code
    → ticked m ≡ (Effect, put m (cast_signed w16 (m.pc + 1) ∷ m.stack) start)
call-tick m start near ready room inside =
    let is_room : has_room m ≡ true = lt-ltb _ _ room in
    let low : operand_of (sub_call_word start) ≡ start = low-of opcode.SubCall start near in
    let is_inside : nat_lt start (length m.code) ≡ true = lt-ltb _ _ inside in
    row-tick m opcode.SubCall start near ready ∙ rw (is_room, low, is_inside) refl

pub return-tick : (m : State) (address : ℕ) (stack : List ℤ) → address < 32768 → m.stack ≡ cast_signed w16 address ∷ stack → Ready m sub_return_word
    → ticked m ≡ (Effect, put m stack address)
return-tick m address stack low top ready =
    let back : cast_unsigned w16 (cast_signed w16 address) ≡ address = of_z-to_z w16 address (omega arith) in
    row-tick m opcode.SubReturn 0 (omega arith) ready ∙ rw (top, back) refl
