-- The instructions, one function each. A word is the whole instruction word, and the state's counter stands at it.
use Rattle.std.specs.Prelude.{ℕ, ◌+◌, ◌&&◌, not, Bool, if◌then◌else◌, nat_lt, nat_le, List, length, map, reverse, take, drop, slice_set, ℤ}
use Rattle.std.specs.Option.{option_map}
use Rattle.std.specs.Int.{cast_signed, cast_unsigned, w16}
use Rattle.aseba_words.specs.Cell.{unary_value, is_true}
use Rattle.aseba_words.specs.Natives.{native_params}
use Rattle.aseba_natives.specs.declared.end.NativeEnd.{NativeEnd}
use Rattle.aseba_natives.specs.declared.end.NativeEnd.TheVariants.{Done, BadCall, Division}
use Rattle.aseba_natives.specs.Call.{arg_count, call_end, call_cells}
use Rattle.aseba_vm.specs.declared.tick.Tick.{Tick}
use Rattle.aseba_vm.specs.declared.tick.Tick.TheVariants.{Quiet, Stored, Effect, Sent}
use Rattle.aseba_vm.specs.declared.tick.Notice.TheVariants.{Emit as EmitNotice, Division as DivisionNotice}
use Rattle.aseba_vm.specs.declared.tick.NodeFault.TheVariants.{Stack, Address, Word, Native, Code}
use Rattle.aseba_vm.specs.declared.opcode.Opcode.{Opcode}
use Rattle.aseba_vm.specs.declared.opcode.Opcode.TheVariants.{End, SmallNumber, LargeNumber, Load, Store, LoadIndirect, StoreIndirect, UnaryOperator, BinaryOperator, Jump, Branch, Emit, NativeCall, SubCall, SubReturn, NoInstruction}
use Rattle.aseba_vm.specs.State.{State, ended, forward, has_room, pushed}
use Rattle.aseba_vm.specs.Instructions.{operand_of, signed_operand_of, unary_operator_of, binary_operator_of, branch_operator_of, is_when, was_true, remembering}
use Rattle.aseba_vm.specs.Outcome.{Outcome, answering, stopping, faulting, given, after, fetching, operating, popping, pushing, indexing, targeting, loading, storing, computed}

-- the handler ends
abbrev pub end_row : State → Outcome Tick
end_row s = answering Effect (ended s)

-- the low bits as a signed number are pushed
abbrev pub small_number_row : ℕ → State → Outcome Tick
small_number_row word s = pushing (signed_operand_of word) s (λ s. answering Quiet (forward 1 s))

-- the next word is pushed
abbrev pub large_number_row : State → Outcome Tick
large_number_row s = fetching 1 s (λ number. pushing (cast_signed w16 number) s (λ s. answering Quiet (forward 2 s)))

-- a cell is pushed
abbrev pub load_row : ℕ → State → Outcome Tick
load_row word s =
    if has_room s then loading (operand_of word) s (λ value. answering Quiet (forward 1 (pushed value s))) else faulting Stack s

-- a value is popped into a cell
abbrev pub store_row : ℕ → State → Outcome Tick
store_row word s = popping s (λ value s. storing (operand_of word) value s (λ s. answering (Stored (operand_of word)) (forward 1 s)))

-- the cell at an index that is popped, in a range whose size is the next word, is pushed
abbrev pub load_indirect_row : ℕ → State → Outcome Tick
load_indirect_row word s =
    fetching 1 s (λ size.
    popping s (λ index s.
    indexing size index s (λ i.
    loading (operand_of word + i) s (λ value. answering Quiet (forward 2 (pushed value s))))))

-- under an index that is popped, a value is popped into the cell at that index, in a range whose size is the next word
abbrev pub store_indirect_row : ℕ → State → Outcome Tick
store_indirect_row word s =
    fetching 1 s (λ size.
    popping s (λ index s.
    popping s (λ value s.
    indexing size index s (λ i.
    storing (operand_of word + i) value s (λ s. answering (Stored (operand_of word + i)) (forward 2 s))))))

-- the topmost value makes way for the operator's value of it
abbrev pub unary_row : ℕ → State → Outcome Tick
unary_row word s =
    operating (unary_operator_of word) s (λ operator.
    popping s (λ value s. answering Quiet (forward 1 (pushed (unary_value operator value) s))))

-- the two topmost values make way for the operator's value of them
abbrev pub binary_row : ℕ → State → Outcome Tick
binary_row word s =
    operating (binary_operator_of word) s (λ operator.
    after (computed operator s) (λ value s. answering Quiet (forward 1 (pushed value s))))

-- the counter goes by the low bits as a signed number
abbrev pub jump_row : ℕ → State → Outcome Tick
jump_row word s = targeting (signed_operand_of word) s (λ target. answering Effect (record s { pc = target }))

-- whether a branch goes on behind itself: where its condition is true, and as a `when` only where it has become true
abbrev pub enters : Bool → ℕ → Bool
enters truth word = truth && not (is_when word && was_true word)

-- the code behind a test: a `when` remembers what it saw
abbrev pub tested : Bool → ℕ → State → State
tested truth word s = if is_when word then record s { code = slice_set s.code s.pc (remembering truth word) } else s

abbrev pub branched : Bool → ℕ → ℕ → State → State
branched truth word target s = record (tested truth word s) { pc = if enters truth word then s.pc + 2 else target }

-- the operator's value of two values that are popped is the condition; the next word says how far it is to where the counter goes without it
abbrev pub branch_row : ℕ → State → Outcome Tick
branch_row word s =
    fetching 1 s (λ by.
    targeting (cast_signed w16 by) s (λ target.
    operating (branch_operator_of word) s (λ operator.
    after (computed operator s) (λ value s. answering Effect (branched (is_true value) word target s)))))

-- a range of cells that is inside and no longer than an event's arguments
abbrev pub can_emit : ℕ → ℕ → State → Bool
can_emit start len s = nat_le (start + len) (length s.cells) && nat_le len 256

-- an event is sent with the cells that the next two words name by address and length
abbrev pub emit_row : ℕ → State → Outcome Tick
emit_row word s =
    fetching 1 s (λ start.
    fetching 2 s (λ len.
    if can_emit start len s then answering (Sent (EmitNotice (operand_of word) start len)) (forward 3 s) else faulting Address s))

-- the topmost values as arguments, the lowest first
abbrev pub arguments : ℕ → List ℤ → List ℕ
arguments count stack = map (cast_unsigned w16) (reverse (take count stack))

-- how a native ended
abbrev pub native_ended : NativeEnd → State → Outcome Tick
native_ended Done s = answering Effect (forward 1 s)
native_ended Division s = stopping (DivisionNotice s.pc) s
native_ended BadCall s = faulting Native s

-- a native is called with its arguments from the stack, and works on the cells
abbrev pub calling : ℕ → ℕ → State → Outcome Tick
calling id count s =
    let args = arguments count s.stack in
    native_ended (call_end id args s.cells) (record s { cells = call_cells id args s.cells; stack = drop count s.stack })

-- the native with the low bits as its number is called; what is no native asks nothing of the stack
abbrev pub native_row : ℕ → State → Outcome Tick
native_row word s =
    given (option_map arg_count (native_params (operand_of word))) (faulting Native s) (λ count.
    if nat_le count (length s.stack) then calling (operand_of word) count s else faulting Stack s)

-- the address behind the call is pushed, and the counter goes to the subroutine
abbrev pub sub_call_row : ℕ → State → Outcome Tick
sub_call_row word s =
    pushing (cast_signed w16 (s.pc + 1)) s (λ s.
    if nat_lt (operand_of word) (length s.code) then answering Effect (record s { pc = operand_of word }) else faulting Code s)

-- the counter goes to the address that is popped
abbrev pub sub_return_row : State → Outcome Tick
sub_return_row s = popping s (λ address s. answering Effect (record s { pc = cast_unsigned w16 address }))

-- the instruction that a word is
abbrev pub row : Opcode → ℕ → State → Outcome Tick
row End word s = end_row s
row SmallNumber word s = small_number_row word s
row LargeNumber word s = large_number_row s
row Load word s = load_row word s
row Store word s = store_row word s
row LoadIndirect word s = load_indirect_row word s
row StoreIndirect word s = store_indirect_row word s
row UnaryOperator word s = unary_row word s
row BinaryOperator word s = binary_row word s
row Jump word s = jump_row word s
row Branch word s = branch_row word s
row Emit word s = emit_row word s
row NativeCall word s = native_row word s
row SubCall word s = sub_call_row word s
row SubReturn word s = sub_return_row s
row NoInstruction word s = faulting Word s
