-- A tick without an effect neither reads nor changes held values.
use Rattle.std.proofs.Common.{◌≡◌, ℕ, ◌+◌, nat_le, Bool, true, false, if◌then◌else◌, ℤ, pos, ◌+ℤ◌, List, length, drop, slice_get, Option, Some, None, Result, Ok, Err, refl, sym, ap, ◌∙◌, true≢false, arith}
use Rattle.std.specs.Option.{option_map}
use Rattle.std.specs.Int.{cast_signed, w16}
use Rattle.aseba_words.specs.Cell.{is_true}
use Rattle.aseba_words.specs.Natives.{native_params}
use Rattle.aseba_words.specs.declared.operators.Binary.{Binary}
use Rattle.aseba_natives.specs.declared.end.NativeEnd.{NativeEnd}
use Rattle.aseba_natives.specs.declared.end.NativeEnd.TheVariants.{Done, BadCall, Division}
use Rattle.aseba_natives.specs.Call.{arg_count, call_end, call_cells}
use Rattle.aseba_vm.specs.declared.opcode.Opcode.{Opcode}
use Rattle.aseba_vm.specs.declared.opcode.Opcode.TheVariants.{End, SmallNumber, LargeNumber, Load, Store, LoadIndirect, StoreIndirect, UnaryOperator, BinaryOperator, Jump, Branch, Emit, NativeCall, SubCall, SubReturn, NoInstruction}
use Rattle.aseba_vm.specs.declared.tick.NodeFault.TheVariants.{Stack, Native as NativeFault, Code}
use Rattle.aseba_vm.specs.declared.tick.Notice.{Notice}
use Rattle.aseba_vm.specs.declared.tick.Tick.{Tick}
use Rattle.aseba_vm.specs.declared.tick.Tick.TheVariants.{Idle, Paused, Quiet, Stored, Effect, Sent}
use Rattle.aseba_vm.specs.State.{State}
use Rattle.aseba_vm.specs.Instructions.{opcode_of, operand_of, branch_operator_of}
use Rattle.aseba_vm.specs.Outcome.{Outcome, answering, faulting, given, going_on, operating, targeting, index_in, after, computed}
use Rattle.aseba_vm.specs.Rows.{row, arguments, native_ended, calling, branched}
use Rattle.aseba_vm.specs.Tick.{ticked, stepped, settled}

-- a machine with other held values
abbrev pub holding : List (Option ℤ) → State → State
holding held s = record s { held = held }

-- a tick that is no effect, but for a store, which may be one
abbrev pub is_silent : Tick → Bool
is_silent Idle = true
is_silent Paused = true
is_silent Quiet = true
is_silent (Stored address) = true
is_silent Effect = false
is_silent (Sent notice) = false

abbrev is_silent_answer : Result Tick Notice → Bool
is_silent_answer (Ok tick) = is_silent tick
is_silent_answer (Err notice) = false

-- what an instruction answers on the same state with other held values
abbrev Apart : List (Option ℤ) → Outcome Tick → Outcome Tick → Type 0
Apart held x y = is_silent_answer x.0 ≡ true → y ≡ (x.0, holding held x.1)

-- an instruction that is never silent
loud : (held : List (Option ℤ)) (x y : Outcome Tick) → is_silent_answer x.0 ≡ false → Apart held x y
loud held x y is_loud silent = absurd (true≢false (sym silent ∙ is_loud))

native_ended-loud : (end : NativeEnd) (s : State) → is_silent_answer (native_ended end s).0 ≡ false
native_ended-loud Done s = refl
native_ended-loud Division s = refl
native_ended-loud BadCall s = refl

calling-loud : (id count : ℕ) (s : State) → is_silent_answer (calling id count s).0 ≡ false
calling-loud id count s =
    let args : List ℕ = arguments count s.stack in
    native_ended-loud (call_end id args s.cells) (record s { cells = call_cells id args s.cells; stack = drop count s.stack })

if-loud : (b : Bool) (x y : Outcome Tick) → is_silent_answer x.0 ≡ false → is_silent_answer y.0 ≡ false → is_silent_answer (if b then x else y).0 ≡ false
if-loud true x y h g = h
if-loud false x y h g = g

native-loud : (count : Option ℕ) (id : ℕ) (s : State) → is_silent_answer (given count (faulting NativeFault s) (λ n. if nat_le n (length s.stack) then calling id n s else faulting Stack s)).0 ≡ false
native-loud None id s = refl
native-loud (Some n) id s = if-loud (nat_le n (length s.stack)) (calling id n s) (faulting Stack s) (calling-loud id n s) refl

branched-loud : (r : Result ℤ Notice) (word target : ℕ) (t : State) → is_silent_answer (going_on r t (λ value u. answering Effect (branched (is_true value) word target u))).0 ≡ false
branched-loud (Ok value) word target t = refl
branched-loud (Err notice) word target t = refl

operated-loud : (operator : Option Binary) (word target : ℕ) (s : State) → is_silent_answer (operating operator s (λ op. after (computed op s) (λ value u. answering Effect (branched (is_true value) word target u)))).0 ≡ false
operated-loud None word target s = refl
operated-loud (Some op) word target s = let outcome : Outcome ℤ = computed op s in branched-loud outcome.0 word target outcome.1

targeted-loud : (target : Option ℕ) (word : ℕ) (s : State) → is_silent_answer (given target (faulting Code s) (λ n. operating (branch_operator_of word) s (λ op. after (computed op s) (λ value u. answering Effect (branched (is_true value) word n u))))).0 ≡ false
targeted-loud None word s = refl
targeted-loud (Some n) word s = operated-loud (branch_operator_of word) word n s

branch-loud : (by : Option ℕ) (word : ℕ) (s : State)
    → is_silent_answer (given by (faulting Code s) (λ n. targeting (cast_signed w16 n) s (λ target. operating (branch_operator_of word) s (λ op. after (computed op s) (λ value u. answering Effect (branched (is_true value) word target u)))))).0 ≡ false
branch-loud None word s = refl
branch-loud (Some n) word s = targeted-loud (index_in (length s.code) (pos s.pc +ℤ cast_signed w16 n)) word s

row-apart : (opcode : Opcode) (word : ℕ) (held : List (Option ℤ)) (s : State) → Apart held (row opcode word s) (row opcode word (holding held s))
row-apart End word held s silent = absurd (true≢false (sym silent))
row-apart SmallNumber word held s silent = grind arith
row-apart LargeNumber word held s silent = grind arith
row-apart Load word held s silent = grind arith
row-apart Store word held s silent = grind arith
row-apart LoadIndirect word held s silent = grind arith
row-apart StoreIndirect word held s silent = grind arith
row-apart UnaryOperator word held s silent = grind arith
row-apart BinaryOperator word held s silent = grind arith
row-apart Jump word held s silent = grind arith
row-apart Branch word held s silent = loud held (row Branch word s) (row Branch word (holding held s)) (branch-loud (slice_get s.code (s.pc + 1)) word s) silent
row-apart Emit word held s silent = grind arith
row-apart NativeCall word held s silent =
    loud held (row NativeCall word s) (row NativeCall word (holding held s)) (native-loud (option_map arg_count (native_params (operand_of word))) (operand_of word) s) silent
row-apart SubCall word held s silent = grind arith
row-apart SubReturn word held s silent = grind arith
row-apart NoInstruction word held s silent = absurd (true≢false (sym silent))

stepped-apart : (word : Option ℕ) (held : List (Option ℤ)) (s : State)
    → Apart held (given word (faulting Code s) (λ w. row (opcode_of w) w s)) (given word (faulting Code (holding held s)) (λ w. row (opcode_of w) w (holding held s)))
stepped-apart None held s silent = absurd (true≢false (sym silent))
stepped-apart (Some word) held s silent = row-apart (opcode_of word) word held s silent

settled-apart : (held : List (Option ℤ)) (r : Result Tick Notice) (s : State) (y : Outcome Tick) → (is_silent_answer r ≡ true → y ≡ (r, holding held s)) → is_silent (settled r s).0 ≡ true
    → settled y.0 y.1 ≡ ((settled r s).0, holding held (settled r s).1)
settled-apart held (Ok tick) s y same silent = ap (λ (x : Outcome Tick). settled x.0 x.1) (same silent)
settled-apart held (Err notice) s y same silent = absurd (true≢false (sym silent))

-- what a tick makes of the same state with other held values
abbrev ApartTick : List (Option ℤ) → Tick × State → Tick × State → Type 0
ApartTick held x y = is_silent x.0 ≡ true → y ≡ (x.0, holding held x.1)

either-apart : (held : List (Option ℤ)) (b : Bool) (x y z w : Tick × State) → ApartTick held x z → ApartTick held y w → ApartTick held (if b then x else y) (if b then z else w)
either-apart held true x y z w h g = h
either-apart held false x y z w h g = g

-- a tick that is silent does the same whatever is held
pub apart : (held : List (Option ℤ)) (s : State) → is_silent (ticked s).0 ≡ true → ticked (holding held s) ≡ ((ticked s).0, holding held (ticked s).1)
unfolding ticked
apart held s =
    let run : Tick × State = settled (stepped s).0 (stepped s).1 in
    let run_too : Tick × State = settled (stepped (holding held s)).0 (stepped (holding held s)).1 in
    either-apart held s.active (if s.paused then (Paused, s) else run) (Idle, s) (if s.paused then (Paused, holding held s) else run_too) (Idle, holding held s)
    (either-apart held s.paused (Paused, s) run (Paused, holding held s) run_too (λ silent. refl)
    (settled-apart held (stepped s).0 (stepped s).1 (stepped (holding held s)) (stepped-apart (slice_get s.code s.pc) held s)))
    (λ silent. refl)
