-- A tick that sends an event sends one whose number has twelve bits and whose cells are there.
use Rattle.std.proofs.Common.{◌≡◌, ℕ, ◌+◌, ◌<◌, ◌≤◌, Bool, true, false, ◌&&◌, nat_le, nat_lt, if◌then◌else◌, List, length, drop, slice_get, Option, Some, None, Result, Ok, Err, refl, ap, ◌∙◌, subst, sym, arith}
use Rattle.std.specs.Option.{option_map}
use Rattle.aseba_words.specs.Natives.{native_params}
use Rattle.aseba_natives.specs.declared.end.NativeEnd.{NativeEnd}
use Rattle.aseba_natives.specs.declared.end.NativeEnd.TheVariants.{Done, BadCall, Division}
use Rattle.aseba_natives.specs.Call.{arg_count, call_end, call_cells}
use Rattle.aseba_vm.specs.declared.opcode.Opcode.{Opcode}
use Rattle.aseba_vm.specs.declared.opcode.Opcode.TheVariants.{End, SmallNumber, LargeNumber, Load, Store, LoadIndirect, StoreIndirect, UnaryOperator, BinaryOperator, Jump, Branch, Emit, NativeCall, SubCall, SubReturn, NoInstruction}
use Rattle.aseba_vm.specs.declared.tick.NodeFault.TheVariants.{Stack, Native as NativeFault, Code}
use Rattle.aseba_vm.specs.declared.tick.Notice.{Notice}
use Rattle.aseba_vm.specs.declared.tick.Notice.TheVariants as notice
use Rattle.aseba_vm.specs.declared.tick.Tick.{Tick}
use Rattle.aseba_vm.specs.declared.tick.Tick.TheVariants.{Idle, Paused, Quiet, Stored, Effect, Sent}
use Rattle.aseba_vm.specs.State.{State}
use Rattle.aseba_vm.specs.Instructions.{opcode_of, operand_of}
use Rattle.aseba_vm.specs.Outcome.{Outcome, faulting, given}
use Rattle.aseba_vm.specs.Rows.{row, arguments, native_ended, calling}
use Rattle.aseba_vm.specs.Sending.{EmitsInside, SendsInside}
use Rattle.aseba_vm.specs.Tick.{ticked, stepped, settled}
use Rattle.aseba_vm.proofs.Sizes.{sizes, ticked-same}

-- the same as a truth, of what an instruction answers
abbrev notice_fits : ℕ → Notice → Bool
notice_fits cells (notice.Emit event start len) = nat_lt event 4096 && nat_le (start + len) cells && nat_le len 256
notice_fits cells _ = true

abbrev tick_fits : ℕ → Tick → Bool
tick_fits cells (Sent notice) = notice_fits cells notice
tick_fits cells _ = true

abbrev answer_fits : ℕ → Result Tick Notice → Bool
answer_fits cells (Ok tick) = tick_fits cells tick
answer_fits cells (Err notice) = notice_fits cells notice

ended-fits : (n : ℕ) (end : NativeEnd) (s : State) → answer_fits n (native_ended end s).0 ≡ true
ended-fits n Done s = refl
ended-fits n Division s = refl
ended-fits n BadCall s = refl

calling-fits : (n id count : ℕ) (s : State) → answer_fits n (calling id count s).0 ≡ true
calling-fits n id count s =
    let args : List ℕ = arguments count s.stack in
    ended-fits n (call_end id args s.cells) (record s { cells = call_cells id args s.cells; stack = drop count s.stack })

if-fits : (n : ℕ) (b : Bool) (x y : Outcome Tick) → answer_fits n x.0 ≡ true → answer_fits n y.0 ≡ true → answer_fits n (if b then x else y).0 ≡ true
if-fits n true x y h g = h
if-fits n false x y h g = g

native-fits : (n : ℕ) (count : Option ℕ) (id : ℕ) (s : State) → answer_fits n (given count (faulting NativeFault s) (λ k. if nat_le k (length s.stack) then calling id k s else faulting Stack s)).0 ≡ true
native-fits n None id s = refl
native-fits n (Some k) id s = if-fits n (nat_le k (length s.stack)) (calling id k s) (faulting Stack s) (calling-fits n id k s) refl

row-fits : (opcode : Opcode) (word : ℕ) (s : State) → answer_fits (length s.cells) (row opcode word s).0 ≡ true
row-fits End word s = refl
row-fits SmallNumber word s = grind arith
row-fits LargeNumber word s = grind arith
row-fits Load word s = grind arith
row-fits Store word s = grind arith
row-fits LoadIndirect word s = grind arith
row-fits StoreIndirect word s = grind arith
row-fits UnaryOperator word s = grind arith
row-fits BinaryOperator word s = grind arith
row-fits Jump word s = grind arith
row-fits Branch word s = grind arith
row-fits Emit word s = grind arith
row-fits NativeCall word s = native-fits (length s.cells) (option_map arg_count (native_params (operand_of word))) (operand_of word) s
row-fits SubCall word s = grind arith
row-fits SubReturn word s = grind arith
row-fits NoInstruction word s = refl

settled-fits : (n : ℕ) (r : Result Tick Notice) (s : State) → answer_fits n r ≡ true → tick_fits n (settled r s).0 ≡ true
settled-fits n (Ok tick) s h = h
settled-fits n (Err notice) s h = h

stepped-fits : (word : Option ℕ) (s : State) → answer_fits (length s.cells) (given word (faulting Code s) (λ w. row (opcode_of w) w s)).0 ≡ true
stepped-fits None s = refl
stepped-fits (Some w) s = row-fits (opcode_of w) w s

either-fits : (n : ℕ) (b : Bool) (x y : Tick × State) → tick_fits n x.0 ≡ true → tick_fits n y.0 ≡ true → tick_fits n (if b then x else y).0 ≡ true
either-fits n true x y h g = h
either-fits n false x y h g = g

ticked-fits : (s : State) → tick_fits (length s.cells) (ticked s).0 ≡ true
unfolding ticked
ticked-fits s =
    let n : ℕ = length s.cells in
    let run : Tick × State = settled (stepped s).0 (stepped s).1 in
    either-fits n s.active (if s.paused then (Paused, s) else run) (Idle, s)
    (either-fits n s.paused (Paused, s) run refl (settled-fits n (stepped s).0 (stepped s).1 (stepped-fits (slice_get s.code s.pc) s)))
    refl

fits-inside : (n event start len : ℕ) → notice_fits n (notice.Emit event start len) ≡ true → EmitsInside n event start len
fits-inside n event start len h = record { number = grind arith; inside = grind arith; short = grind arith }

sends : (n : ℕ) (tick : Tick) → tick_fits n tick ≡ true → SendsInside n tick
sends n (Sent (notice.Emit event start len)) h = fits-inside n event start len h
sends n (Sent (notice.Bounds pc size index)) h = tt
sends n (Sent (notice.Division pc)) h = tt
sends n (Sent (notice.NodeError pc fault)) h = tt
sends n Idle h = tt
sends n Paused h = tt
sends n Quiet h = tt
sends n (Stored address) h = tt
sends n Effect h = tt

-- a tick leaves as many cells as there were
pub ticked-sends : (s : State) → SendsInside (length (ticked s).1.cells) (ticked s).0
ticked-sends s =
    subst (λ n. SendsInside n (ticked s).0) (sym (ap (λ (z : _). z.3) (ticked-same s))) (sends (length s.cells) (ticked s).0 (ticked-fits s))

pub sent : (s t : State) (tick : Tick) → tick ≡ (ticked s).0 → t ≡ (ticked s).1 → SendsInside (length t.cells) tick
sent s t tick answer state = rw (answer, state) (ticked-sends s)
