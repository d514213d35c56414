-- A tick changes neither the machine's shape nor its id, nor how long its code, its cells and the list of held values are.
use Rattle.std.proofs.Common.{◌≡◌, ℕ, zero, suc, ◌+◌, Bool, true, false, nat_le, if◌then◌else◌, ℤ, ◌+ℤ◌, ◌-ℤ◌, ◌*ℤ◌, int_div, List, [], ◌∷◌, length, drop, slice_get, Option, Some, None, Result, Ok, Err, refl, ap, ◌∙◌, arith}
use Rattle.std.proofs.lemmas.List.{length-set, length-replicate}
use Rattle.std.specs.Int.{int_min, int_max}
use Rattle.std.specs.Option.{option_map}
use Rattle.aseba_words.specs.Cell.{wrapped, divided}
use Rattle.aseba_words.specs.declared.native.Native.TheVariants as natives
use Rattle.aseba_words.specs.declared.native.Native.{Native}
use Rattle.aseba_words.specs.Natives.{native_numbered, native_params, clamped, each, stored, run_native, numbered_run}
use Rattle.aseba_natives.specs.declared.end.NativeEnd.{NativeEnd}
use Rattle.aseba_natives.specs.declared.end.NativeEnd.TheVariants.{Done, BadCall, Division}
use Rattle.aseba_natives.specs.Call.{cell, with_cell, arg_count, is_call, addresses, params_of, call_len, call_end, call_cells}
use Rattle.aseba_vm.specs.declared.opcode.Opcode.{Opcode}
use Rattle.aseba_vm.specs.declared.opcode.Opcode.TheVariants.{End, SmallNumber, LargeNumber, Load, Store, LoadIndirect, StoreIndirect, UnaryOperator, BinaryOperator, Jump, Branch, Emit, NativeCall, SubCall, SubReturn, NoInstruction}
use Rattle.aseba_vm.specs.declared.shape.Shape.{Shape}
use Rattle.aseba_vm.specs.declared.tick.NodeFault.TheVariants.{Stack, Native as NativeFault, Code}
use Rattle.aseba_vm.specs.declared.tick.Notice.{Notice}
use Rattle.aseba_vm.specs.declared.tick.Tick.{Tick}
use Rattle.aseba_vm.specs.declared.tick.Tick.TheVariants.{Idle, Paused}
use Rattle.aseba_vm.specs.State.{State, applied, ended}
use Rattle.aseba_vm.specs.Instructions.{opcode_of, operand_of}
use Rattle.aseba_vm.specs.Outcome.{Outcome, faulting, given}
use Rattle.aseba_vm.specs.Rows.{row, arguments, native_ended, calling}
use Rattle.aseba_vm.specs.Tick.{ticked, stepped, settled}

-- what stays
abbrev pub sizes : State → Shape × ℕ × ℕ × ℕ × ℕ
sizes s = (s.shape, s.id, length s.code, length s.cells, length s.held)

-- values that are applied leave as many cells
applied-length : (cells : List ℤ) (held : List (Option ℤ)) → length (applied cells held) ≡ length cells
applied-length [] held = refl
applied-length (c ∷ cells) [] = refl
applied-length (c ∷ cells) (h ∷ held) = ap suc (applied-length cells held)

-- a native stores into cells and makes none
stored-length : (dest k : ℕ) (cells : List ℤ) (o : Option ℤ) (go_on : List ℤ → Bool × List ℤ) → ((t : List ℤ) → length (go_on t).1 ≡ length t) → length (stored cell with_cell o dest k cells go_on).1 ≡ length cells
stored-length dest k cells None go_on h = refl
stored-length dest k cells (Some v) go_on h = h (with_cell cells dest k v) ∙ length-set cells (dest + k) v

each-length : (dest : ℕ) (value : List ℤ → ℕ → Option ℤ) (left k : ℕ) (cells : List ℤ) → length (each cell with_cell dest value left k cells).1 ≡ length cells
each-length dest value zero k cells = refl
each-length dest value (suc left) k cells =
    stored-length dest k cells (value cells k) (each cell with_cell dest value left (k + 1)) (each-length dest value left (k + 1))

run_native-length : (native : Native) (ranges : List ℕ) (len : ℕ) (cells : List ℤ) → length (run_native cell with_cell native ranges len cells).1 ≡ length cells
run_native-length natives.Copy (dest ∷ src ∷ []) len cells = each-length dest (λ t k. Some (cell t src k)) len 0 cells
run_native-length natives.Fill (dest ∷ value ∷ []) len cells = each-length dest (λ t k. Some (cell t value 0)) len 0 cells
run_native-length natives.AddScalar (dest ∷ src ∷ scalar ∷ []) len cells = each-length dest (λ t k. Some (wrapped (cell t src k +ℤ cell t scalar 0))) len 0 cells
run_native-length natives.Add (dest ∷ a ∷ b ∷ []) len cells = each-length dest (λ t k. Some (wrapped (cell t a k +ℤ cell t b k))) len 0 cells
run_native-length natives.Sub (dest ∷ a ∷ b ∷ []) len cells = each-length dest (λ t k. Some (wrapped (cell t a k -ℤ cell t b k))) len 0 cells
run_native-length natives.Mul (dest ∷ a ∷ b ∷ []) len cells = each-length dest (λ t k. Some (wrapped (cell t a k *ℤ cell t b k))) len 0 cells
run_native-length natives.Div (dest ∷ a ∷ b ∷ []) len cells = each-length dest (λ t k. divided (cell t b k) (int_div (cell t a k) (cell t b k))) len 0 cells
run_native-length natives.Min (dest ∷ a ∷ b ∷ []) len cells = each-length dest (λ t k. Some (int_min (cell t a k) (cell t b k))) len 0 cells
run_native-length natives.Max (dest ∷ a ∷ b ∷ []) len cells = each-length dest (λ t k. Some (int_max (cell t a k) (cell t b k))) len 0 cells
run_native-length natives.Clamp (dest ∷ src ∷ low ∷ high ∷ []) len cells = each-length dest (λ t k. Some (clamped (cell t low k) (cell t high k) (cell t src k))) len 0 cells
run_native-length natives.MulDiv (dest ∷ a ∷ b ∷ c ∷ []) len cells = each-length dest (λ t k. divided (cell t c k) (int_div (cell t a k *ℤ cell t b k) (cell t c k))) len 0 cells
run_native-length natives.Dot (dest ∷ a ∷ b ∷ shift ∷ []) len cells = length-set cells (dest + 0) _
run_native-length natives.Stat (src ∷ min ∷ max ∷ middle ∷ []) len cells = length-set _ (middle + 0) _ ∙ length-set _ (max + 0) _ ∙ length-set cells (min + 0) _
run_native-length natives.ArgBounds (src ∷ argmin ∷ argmax ∷ []) len cells = length-set _ (argmax + 0) _ ∙ length-set cells (argmin + 0) _
run_native-length _ _ len cells = refl

numbered_run-length : (native : Option Native) (ranges : List ℕ) (len : ℕ) (cells : List ℤ) → length (numbered_run cell with_cell native ranges len cells).1 ≡ length cells
numbered_run-length None ranges len cells = refl
numbered_run-length (Some native) ranges len cells = run_native-length native ranges len cells

if-length : (b : Bool) (xs ys : List ℤ) (n : ℕ) → length xs ≡ n → length ys ≡ n → length (if b then xs else ys) ≡ n
if-length true xs ys n h g = h
if-length false xs ys n h g = g

call_cells-length : (id : ℕ) (args : List ℕ) (cells : List ℤ) → length (call_cells id args cells) ≡ length cells
call_cells-length id args cells =
    if-length (is_call (length cells) id args) _ cells (length cells) (numbered_run-length (native_numbered id) (addresses (params_of id) args) (call_len (params_of id) args) cells) refl

pub ended-same : (s : State) → sizes (ended s) ≡ sizes s
ended-same s = grind (arith, applied-length, length-replicate {A = Option ℤ})

native_ended-same : (end : NativeEnd) (s : State) → sizes (native_ended end s).1 ≡ sizes s
native_ended-same Done s = refl
native_ended-same Division s = refl
native_ended-same BadCall s = refl

calling-same : (id count : ℕ) (s : State) → sizes (calling id count s).1 ≡ sizes s
calling-same id count s =
    let args : List ℕ = arguments count s.stack in
    native_ended-same (call_end id args s.cells) (record s { cells = call_cells id args s.cells; stack = drop count s.stack })
    ∙ ap (λ n. (s.shape, s.id, length s.code, n, length s.held)) (call_cells-length id args s.cells)

if-same : (b : Bool) (x y : Outcome Tick) (s : State) → sizes x.1 ≡ sizes s → sizes y.1 ≡ sizes s → sizes (if b then x else y).1 ≡ sizes s
if-same true x y s h g = h
if-same false x y s h g = g

native-same : (count : Option ℕ) (id : ℕ) (s : State) → sizes (given count (faulting NativeFault s) (λ n. if nat_le n (length s.stack) then calling id n s else faulting Stack s)).1 ≡ sizes s
native-same None id s = refl
native-same (Some n) id s = if-same (nat_le n (length s.stack)) (calling id n s) (faulting Stack s) s (calling-same id n s) refl

row-same : (opcode : Opcode) (word : ℕ) (s : State) → sizes (row opcode word s).1 ≡ sizes s
row-same End word s = ended-same s
row-same SmallNumber word s = grind arith
row-same LargeNumber word s = grind arith
row-same Load word s = grind arith
row-same Store word s = grind (arith, length-set {A = ℤ})
row-same LoadIndirect word s = grind arith
row-same StoreIndirect word s = grind (arith, length-set {A = ℤ})
row-same UnaryOperator word s = grind arith
row-same BinaryOperator word s = grind arith
row-same Jump word s = grind arith
row-same Branch word s = grind (arith, length-set {A = ℕ})
row-same Emit word s = grind arith
row-same NativeCall word s = native-same (option_map arg_count (native_params (operand_of word))) (operand_of word) s
row-same SubCall word s = grind arith
row-same SubReturn word s = grind arith
row-same NoInstruction word s = refl

settled-same : (r : Result Tick Notice) (s : State) → sizes (settled r s).1 ≡ sizes s
settled-same (Ok tick) s = refl
settled-same (Err notice) s = ended-same s

stepped-same : (word : Option ℕ) (s : State) → sizes (given word (faulting Code s) (λ w. row (opcode_of w) w s)).1 ≡ sizes s
stepped-same None s = refl
stepped-same (Some w) s = row-same (opcode_of w) w s

either-same : (b : Bool) (x y : Tick × State) (s : State) → sizes x.1 ≡ sizes s → sizes y.1 ≡ sizes s → sizes (if b then x else y).1 ≡ sizes s
either-same true x y s h g = h
either-same false x y s h g = g

pub ticked-same : (s : State) → sizes (ticked s).1 ≡ sizes s
unfolding ticked
ticked-same s =
    let run : Tick × State = settled (stepped s).0 (stepped s).1 in
    either-same s.active (if s.paused then (Paused, s) else run) (Idle, s) s
    (either-same s.paused (Paused, s) run s refl (settled-same (stepped s).0 (stepped s).1 ∙ stepped-same (slice_get s.code s.pc) s))
    refl
