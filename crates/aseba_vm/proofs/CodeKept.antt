-- A tick leaves the code as it is, but that a `when` remembers the condition that it tested.
use Rattle.std.proofs.Common.{◌≡◌, ℕ, ◌+◌, nat_le, Bool, true, false, if◌then◌else◌, ◌⊎◌, inl, inr, ℤ, pos, ◌+ℤ◌, List, length, drop, slice_get, slice_set, Option, Some, None, Result, Ok, Err, refl, sym, arith}
use Rattle.std.specs.Option.{option_map}
use Rattle.std.specs.Int.{cast_signed, w16}
use Rattle.aseba_words.specs.Cell.{is_true}
use Rattle.aseba_words.specs.Natives.{native_params}
use Rattle.aseba_words.specs.declared.operators.Binary.{Binary}
use Rattle.aseba_natives.specs.declared.end.NativeEnd.{NativeEnd}
use Rattle.aseba_natives.specs.declared.end.NativeEnd.TheVariants.{Done, BadCall, Division}
use Rattle.aseba_natives.specs.Call.{arg_count, call_end, call_cells}
use Rattle.aseba_vm.specs.declared.opcode.Opcode.{Opcode}
use Rattle.aseba_vm.specs.declared.opcode.Opcode.TheVariants.{End, SmallNumber, LargeNumber, Load, Store, LoadIndirect, StoreIndirect, UnaryOperator, BinaryOperator, Jump, Branch, Emit, NativeCall, SubCall, SubReturn, NoInstruction}
use Rattle.aseba_vm.specs.declared.tick.NodeFault.TheVariants.{Stack, Native as NativeFault, Code}
use Rattle.aseba_vm.specs.declared.tick.Notice.{Notice}
use Rattle.aseba_vm.specs.declared.tick.Tick.{Tick}
use Rattle.aseba_vm.specs.declared.tick.Tick.TheVariants.{Idle, Paused, Effect}
use Rattle.aseba_vm.specs.State.{State}
use Rattle.aseba_vm.specs.Instructions.{opcode_of, operand_of, branch_operator_of, is_when, remembering}
use Rattle.aseba_vm.specs.Outcome.{Outcome, answering, faulting, given, going_on, operating, targeting, index_in, after, computed}
use Rattle.aseba_vm.specs.Rows.{row, arguments, native_ended, calling, enters, branched}
use Rattle.aseba_vm.specs.Tick.{ticked, stepped, settled}

-- an operator leaves code and counter
computed-code : (op : Binary) (s : State) → (computed op s).1.code ≡ s.code
computed-code op s = grind arith

computed-pc : (op : Binary) (s : State) → (computed op s).1.pc ≡ s.pc
computed-pc op s = grind arith

-- the code of t is that of s, or a `when` at the counter of s remembers a truth
abbrev pub Remembers : ℕ → State → State → Type 0
Remembers word s t = (t.code ≡ s.code) ⊎ ((is_when word ≡ true) × ((truth : Bool) × (t.code ≡ slice_set s.code s.pc (remembering truth word))))

native_ended-code : (end : NativeEnd) (s : State) → (native_ended end s).1.code ≡ s.code
native_ended-code Done s = refl
native_ended-code Division s = refl
native_ended-code BadCall s = refl

if-code : (b : Bool) (x y : Outcome Tick) (s : State) → x.1.code ≡ s.code → y.1.code ≡ s.code → (if b then x else y).1.code ≡ s.code
if-code true x y s h g = h
if-code false x y s h g = g

calling-code : (id count : ℕ) (s : State) → (calling id count s).1.code ≡ s.code
calling-code id count s =
    let args : List ℕ = arguments count s.stack in
    native_ended-code (call_end id args s.cells) (record s { cells = call_cells id args s.cells; stack = drop count s.stack })

native-code : (count : Option ℕ) (id : ℕ) (s : State) → (given count (faulting NativeFault s) (λ n. if nat_le n (length s.stack) then calling id n s else faulting Stack s)).1.code ≡ s.code
native-code None id s = refl
native-code (Some n) id s = if-code (nat_le n (length s.stack)) (calling id n s) (faulting Stack s) s (calling-code id n s) refl

-- what a test does to the code, where code and counter are still those of s
tested-code : (b truth : Bool) (word target : ℕ) (s t : State) → b ≡ is_when word → t.code ≡ s.code → t.pc ≡ s.pc → Remembers word s (record (if b then record t { code = slice_set t.code t.pc (remembering truth word) } else t) { pc = target })
tested-code true truth word target s t e h g = inr (sym e, (truth, rw (h, g) refl))
tested-code false truth word target s t e h g = inl h

branched-code : (r : Result ℤ Notice) (word target : ℕ) (s t : State) → t.code ≡ s.code → t.pc ≡ s.pc → Remembers word s (going_on r t (λ value u. answering Effect (branched (is_true value) word target u))).1
branched-code (Ok value) word target s t h g =
    tested-code (is_when word) (is_true value) word (if enters (is_true value) word then t.pc + 2 else target) s t refl h g
branched-code (Err notice) word target s t h g = inl h

operated-code : (operator : Option Binary) (word target : ℕ) (s : State) → Remembers word s (operating operator s (λ op. after (computed op s) (λ value u. answering Effect (branched (is_true value) word target u)))).1
operated-code None word target s = inl refl
operated-code (Some op) word target s =
    let outcome : Outcome ℤ = computed op s in branched-code outcome.0 word target s outcome.1 (computed-code op s) (computed-pc op s)

targeted-code : (target : Option ℕ) (word : ℕ) (s : State) → Remembers word s (given target (faulting Code s) (λ n. operating (branch_operator_of word) s (λ op. after (computed op s) (λ value u. answering Effect (branched (is_true value) word n u))))).1
targeted-code None word s = inl refl
targeted-code (Some n) word s = operated-code (branch_operator_of word) word n s

branch-code : (by : Option ℕ) (word : ℕ) (s : State) → Remembers word s (given by (faulting Code s) (λ n. targeting (cast_signed w16 n) s (λ target. operating (branch_operator_of word) s (λ op. after (computed op s) (λ value u. answering Effect (branched (is_true value) word target u)))))).1
branch-code None word s = inl refl
branch-code (Some n) word s = targeted-code (index_in (length s.code) (pos s.pc +ℤ cast_signed w16 n)) word s

row-code : (opcode : Opcode) (word : ℕ) (s : State) → Remembers word s (row opcode word s).1
row-code End word s = inl refl
row-code SmallNumber word s = inl (grind arith)
row-code LargeNumber word s = inl (grind arith)
row-code Load word s = inl (grind arith)
row-code Store word s = inl (grind arith)
row-code LoadIndirect word s = inl (grind arith)
row-code StoreIndirect word s = inl (grind arith)
row-code UnaryOperator word s = inl (grind arith)
row-code BinaryOperator word s = inl (grind (arith, computed-code))
row-code Jump word s = inl (grind arith)
row-code Branch word s = branch-code (slice_get s.code (s.pc + 1)) word s
row-code Emit word s = inl (grind arith)
row-code NativeCall word s = inl (native-code (option_map arg_count (native_params (operand_of word))) (operand_of word) s)
row-code SubCall word s = inl (grind arith)
row-code SubReturn word s = inl (grind arith)
row-code NoInstruction word s = inl refl

settled-code : (word : ℕ) (r : Result Tick Notice) (s t : State) → Remembers word s t → Remembers word s (settled r t).1
settled-code word (Ok tick) s t h = h
settled-code word (Err notice) s t h = h

either-code : (b : Bool) (x y : Tick × State) (word : ℕ) (s : State) → Remembers word s x.1 → Remembers word s y.1 → Remembers word s (if b then x else y).1
either-code true x y word s h g = h
either-code false x y word s h g = g

stepped-code : (found : Option ℕ) (word : ℕ) (s : State) → found ≡ Some word → Remembers word s (given found (faulting Code s) (λ w. row (opcode_of w) w s)).1
stepped-code found word s e = rw e (row-code (opcode_of word) word s)

-- with this word at the counter
pub ticked-code : (word : ℕ) (s : State) → slice_get s.code s.pc ≡ Some word → Remembers word s (ticked s).1
unfolding ticked
ticked-code word s at =
    let run : Tick × State = settled (stepped s).0 (stepped s).1 in
    either-code s.active (if s.paused then (Paused, s) else run) (Idle, s) word s
    (either-code s.paused (Paused, s) run word s (inl refl) (settled-code word (stepped s).0 s (stepped s).1 (stepped-code (slice_get s.code s.pc) word s at)))
    (inl refl)
