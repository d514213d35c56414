-- One tick of each instruction that code has, where it finds what it needs.
use Rattle.std.proofs.Common.{◌≡◌, ℕ, ◌+◌, ◌%◌, ◌<◌, ◌≤◌, ◌||◌, true, false, if◌then◌else◌, nat_lt, nat_le, ℤ, pos, negsuc, ◌-ℤ◌, List, ◌∷◌, length, slice_get, slice_set, Some, None, refl, ap, ◌∙◌, lt-ltb, le-leb, ltb-false, arith}
use Rattle.std.specs.Prelude.{int_lt}
use Rattle.std.specs.Int.{cast_signed, w16}
use Rattle.aseba_words.specs.Cell.{unary_value, binary_value}
use Rattle.aseba_words.specs.Codes.{unary_code, unary_coded, binary_code, binary_coded}
use Rattle.aseba_words.specs.declared.operators.Unary.{Unary}
use Rattle.aseba_words.specs.declared.operators.Binary.{Binary}
use Rattle.aseba_vm.specs.declared.tick.Tick.TheVariants.{Quiet, Stored, Effect, Sent}
use Rattle.aseba_vm.specs.declared.tick.Notice.TheVariants.{Emit, Bounds, Division}
use Rattle.aseba_vm.specs.State.{State, ended, has_room}
use Rattle.aseba_vm.specs.declared.opcode.Opcode.{Opcode}
use Rattle.aseba_vm.specs.declared.opcode.Opcode.TheVariants as opcode
use Rattle.aseba_vm.specs.Instructions.{opcode_of, operand_of, signed_operand_of}
use Rattle.aseba_vm.specs.Outcome.{index_in}
use Rattle.aseba_vm.specs.Rows.{row}
use Rattle.aseba_vm.specs.Tick.{ticked, settled}
use Rattle.aseba_vm.proofs.Ticks.{ticked-row}
use Rattle.aseba_vm.proofs.ReadBack.{opcode_of-word, operand_of-word}
use Rattle.aseba_tree.specs.Code.{Project}
use Rattle.aseba_vm.specs.Words.{end_word, large_number_word, small_number_word, load_word, load_indirect_word, store_word, store_indirect_word, unary_word, binary_word, emit_word, twelve_bits, word_of, opcode_number}
use Rattle.aseba_target.specs.MachineRun.{opcode_call, next_call}

-- a machine at another place, with another stack
abbrev pub put : State → List ℤ → ℕ → State
put m stack pc = record m { stack = stack; pc = pc }

-- a handler has ended by a stop
abbrev pub halted : State → State
halted m = record (ended m) { paused = true }

-- a word at the counter of a machine that runs
pub record Ready (m : State) (word : ℕ) : Type 0 where
  pub active : m.active ≡ true
  pub unpaused : m.paused ≡ false
  pub at : slice_get m.code m.pc ≡ Some word

pub opcode-read : (op : Opcode) (low : ℕ) → opcode_of (word_of op low) ≡ op
opcode-read op low = opcode_of-word op (low % 4096) (omega arith)

-- the next tick is this instruction
pub row-tick : (m : State) (op : Opcode) (low : ℕ) → low < 4096 → Ready m (word_of op low)
    → ticked m ≡ settled (row op (word_of op low) m).0 (row op (word_of op low) m).1
row-tick m op low below ready =
    ticked-row m (word_of op low) ready.active ready.unpaused ready.at
    ∙ ap (λ read. settled (row read (word_of op low) m).0 (row read (word_of op low) m).1) (opcode-read op low)

-- the word at the counter calls no native
abbrev pub NoCall : State → Type 0
NoCall m = (project : Project) → next_call project m ≡ None

pub no-call : (m : State) (op : Opcode) (low : ℕ) → low < 4096 → Ready m (word_of op low) → ((project : Project) (id : ℕ) → opcode_call project id op ≡ None) → NoCall m
no-call m op low below ready none project =
    rw (ready.active, ready.unpaused, ready.at)
    (ap (opcode_call project (operand_of (word_of op low))) (opcode-read op low) ∙ none project (operand_of (word_of op low)))

-- the low bits are read back
pub low-of : (op : Opcode) (low : ℕ) → low < 4096 → operand_of (word_of op low) ≡ low
low-of op low below = let same : low % 4096 ≡ low = omega arith in operand_of-word (opcode_number op) (low % 4096) (omega arith) ∙ same

-- a number from -2048 to 2047 is read back from twelve bits
pub small-is : (v : ℤ) → (int_lt v (negsuc 2047) || int_lt (pos 2047) v) ≡ false → twelve_bits v < 4096
small-is (pos n) h = let below : n ≤ 2047 = leb-true-of n h in omega arith
  where
    leb-true-of : (n : ℕ) → int_lt (pos 2047) (pos n) ≡ false → n ≤ 2047
    leb-true-of n h = grind (arith, ltb-false)
small-is (negsuc n) h = omega arith

pub small-below : (v : ℤ) → (int_lt v (negsuc 2047) || int_lt (pos 2047) v) ≡ false → (if nat_lt (twelve_bits v) 2048 then pos (twelve_bits v) else pos (twelve_bits v) -ℤ pos 4096) ≡ v
small-below (pos n) h = grind arith
small-below (negsuc n) h = grind arith

pub small-tick : (m : State) (v : ℤ) → (int_lt v (negsuc 2047) || int_lt (pos 2047) v) ≡ false → Ready m (small_number_word v) → length m.stack < m.shape.stack
    → ticked m ≡ (Quiet, put m (v ∷ m.stack) (m.pc + 1))
small-tick m v small ready room =
    let below : twelve_bits v < 4096 = small-is v small in
    let is_room : has_room m ≡ true = lt-ltb _ _ room in
    let low : operand_of (small_number_word v) ≡ twelve_bits v = low-of opcode.SmallNumber (twelve_bits v) below in
    let value : signed_operand_of (small_number_word v) ≡ v = rw low (small-below v small) in
    row-tick m opcode.SmallNumber (twelve_bits v) below ready ∙ rw (is_room, value) refl

pub large-tick : (m : State) (number : ℕ) → Ready m (large_number_word) → slice_get m.code (m.pc + 1) ≡ Some number → length m.stack < m.shape.stack
    → ticked m ≡ (Quiet, put m (cast_signed w16 number ∷ m.stack) (m.pc + 2))
large-tick m number ready next room =
    let is_room : has_room m ≡ true = lt-ltb _ _ room in
    row-tick m opcode.LargeNumber 0 (omega arith) ready ∙ rw (next, is_room) refl

pub load-tick : (m : State) (address : ℕ) (v : ℤ) → address < 4096 → Ready m (load_word address) → length m.stack < m.shape.stack → slice_get m.cells address ≡ Some v
    → ticked m ≡ (Quiet, put m (v ∷ m.stack) (m.pc + 1))
load-tick m address v below ready room found =
    let is_room : has_room m ≡ true = lt-ltb _ _ room in
    let low : operand_of (load_word address) ≡ address = low-of opcode.Load address below in
    row-tick m opcode.Load address below ready ∙ rw (is_room, low, found) refl

-- a machine with other cells, too
abbrev pub stored : State → ℕ → ℤ → List ℤ → ℕ → State
stored m address v stack pc = record m { cells = slice_set m.cells address v; stack = stack; pc = pc }

pub store-tick : (m : State) (address : ℕ) (v : ℤ) (stack : List ℤ) → address < 4096 → m.stack ≡ v ∷ stack → Ready m (store_word address) → address < length m.cells
    → ticked m ≡ (Stored address, stored m address v stack (m.pc + 1))
store-tick m address v stack below top ready inside =
    let is_inside : nat_lt address (length m.cells) ≡ true = lt-ltb _ _ inside in
    let low : operand_of (store_word address) ≡ address = low-of opcode.Store address below in
    row-tick m opcode.Store address below ready ∙ rw (top, low, is_inside) refl

pub load_indirect-tick : (m : State) (base size : ℕ) (v : ℤ) (index : ℤ) (place : ℕ) (stack : List ℤ)
    → base < 4096 → m.stack ≡ index ∷ stack → Ready m (load_indirect_word base) → slice_get m.code (m.pc + 1) ≡ Some size
    → index_in size index ≡ Some place → slice_get m.cells (base + place) ≡ Some v
    → ticked m ≡ (Quiet, put m (v ∷ stack) (m.pc + 2))
load_indirect-tick m base size v index place stack below top ready next inside found =
    let low : operand_of (load_indirect_word base) ≡ base = low-of opcode.LoadIndirect base below in
    row-tick m opcode.LoadIndirect base below ready ∙ rw (next, top, inside, low, found) refl

pub load_outside-tick : (m : State) (base size : ℕ) (index : ℤ) (stack : List ℤ)
    → base < 4096 → m.stack ≡ index ∷ stack → Ready m (load_indirect_word base) → slice_get m.code (m.pc + 1) ≡ Some size → index_in size index ≡ None
    → ticked m ≡ (Sent (Bounds m.pc size index), halted m)
load_outside-tick m base size index stack below top ready next outside =
    row-tick m opcode.LoadIndirect base below ready ∙ rw (next, top, outside) refl

pub store_indirect-tick : (m : State) (base size : ℕ) (v index : ℤ) (place : ℕ) (stack : List ℤ)
    → base < 4096 → m.stack ≡ index ∷ v ∷ stack → Ready m (store_indirect_word base) → slice_get m.code (m.pc + 1) ≡ Some size
    → index_in size index ≡ Some place → base + place < length m.cells
    → ticked m ≡ (Stored (base + place), stored m (base + place) v stack (m.pc + 2))
store_indirect-tick m base size v index place stack below top ready next inside fits =
    let low : operand_of (store_indirect_word base) ≡ base = low-of opcode.StoreIndirect base below in
    let is_inside : nat_lt (base + place) (length m.cells) ≡ true = lt-ltb _ _ fits in
    row-tick m opcode.StoreIndirect base below ready ∙ rw (next, top, inside, low, is_inside) refl

pub store_outside-tick : (m : State) (base size : ℕ) (v index : ℤ) (stack : List ℤ)
    → base < 4096 → m.stack ≡ index ∷ v ∷ stack → Ready m (store_indirect_word base) → slice_get m.code (m.pc + 1) ≡ Some size → index_in size index ≡ None
    → ticked m ≡ (Sent (Bounds m.pc size index), halted m)
store_outside-tick m base size v index stack below top ready next outside =
    row-tick m opcode.StoreIndirect base below ready ∙ rw (next, top, outside) refl

-- the numbers of operators are read back
unary-low : (op : Unary) → unary_code op < 4096
unary-low op = grind arith

unary-read : (op : Unary) → unary_coded (unary_code op) ≡ Some op
unary-read op = grind arith

pub binary-low : (op : Binary) → binary_code op < 4096
binary-low op = grind arith

pub binary-read : (op : Binary) → binary_coded (binary_code op) ≡ Some op
binary-read op = grind arith

pub unary-tick : (m : State) (op : Unary) (v : ℤ) (stack : List ℤ) → m.stack ≡ v ∷ stack → Ready m (unary_word op)
    → ticked m ≡ (Quiet, put m (unary_value op v ∷ stack) (m.pc + 1))
unary-tick m op v stack top ready =
    let low : operand_of (unary_word op) ≡ unary_code op = low-of opcode.UnaryOperator (unary_code op) (unary-low op) in
    let operator : unary_coded (unary_code op) ≡ Some op = unary-read op in
    row-tick m opcode.UnaryOperator (unary_code op) (unary-low op) ready ∙ rw (low, operator, top) refl

pub binary-tick : (m : State) (op : Binary) (l r v : ℤ) (stack : List ℤ) → m.stack ≡ r ∷ l ∷ stack → Ready m (binary_word op) → binary_value op l r ≡ Some v
    → ticked m ≡ (Quiet, put m (v ∷ stack) (m.pc + 1))
binary-tick m op l r v stack top ready value =
    let low : operand_of (binary_word op) ≡ binary_code op = low-of opcode.BinaryOperator (binary_code op) (binary-low op) in
    let operator : binary_coded (binary_code op) ≡ Some op = binary-read op in
    row-tick m opcode.BinaryOperator (binary_code op) (binary-low op) ready ∙ rw (low, operator, top, value) refl

pub divide-tick : (m : State) (op : Binary) (l r : ℤ) (stack : List ℤ) → m.stack ≡ r ∷ l ∷ stack → Ready m (binary_word op) → binary_value op l r ≡ None
    → ticked m ≡ (Sent (Division m.pc), halted m)
divide-tick m op l r stack top ready value =
    let low : operand_of (binary_word op) ≡ binary_code op = low-of opcode.BinaryOperator (binary_code op) (binary-low op) in
    let operator : binary_coded (binary_code op) ≡ Some op = binary-read op in
    row-tick m opcode.BinaryOperator (binary_code op) (binary-low op) ready ∙ rw (low, operator, top, value) refl

pub emit-tick : (m : State) (event start count : ℕ) → event < 4096 → Ready m (emit_word event) → slice_get m.code (m.pc + 1) ≡ Some start → slice_get m.code (m.pc + 2) ≡ Some count
    → start + count ≤ length m.cells → count ≤ 256
    → ticked m ≡ (Sent (Emit event start count), put m m.stack (m.pc + 3))
emit-tick m event start count below ready first second fits few =
    let low : operand_of (emit_word event) ≡ event = low-of opcode.Emit event below in
    let inside : nat_le (start + count) (length m.cells) ≡ true = le-leb _ _ fits in
    let short : nat_le count 256 ≡ true = le-leb _ _ few in
    row-tick m opcode.Emit event below ready ∙ rw (first, second, inside, short, low) refl

pub end-tick : (m : State) → Ready m (end_word) → ticked m ≡ (Effect, ended m)
end-tick m ready = row-tick m opcode.End 0 (omega arith) ready
