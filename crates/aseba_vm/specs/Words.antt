-- How instruction words are made: the number of the instruction in the high four bits, and a number in the low twelve.
use Rattle.std.specs.Prelude.{ℕ, ◌+◌, ◌-◌, ◌*◌, ◌%◌, Bool, if◌then◌else◌, ℤ, pos, negsuc}
use Rattle.aseba_words.specs.Codes.{unary_code, binary_code}
use Rattle.aseba_words.specs.declared.operators.Unary.{Unary}
use Rattle.aseba_words.specs.declared.operators.Binary.{Binary}
use Rattle.aseba_vm.specs.declared.opcode.Opcode.{Opcode}
use Rattle.aseba_vm.specs.declared.opcode.Opcode.TheVariants.{End, SmallNumber, LargeNumber, Load, Store, LoadIndirect, StoreIndirect, UnaryOperator, BinaryOperator, Jump, Branch, Emit, NativeCall, SubCall, SubReturn, NoInstruction}

-- the number of an instruction
abbrev pub opcode_number : Opcode → ℕ
opcode_number End = 0
opcode_number SmallNumber = 1
opcode_number LargeNumber = 2
opcode_number Load = 3
opcode_number Store = 4
opcode_number LoadIndirect = 5
opcode_number StoreIndirect = 6
opcode_number UnaryOperator = 7
opcode_number BinaryOperator = 8
opcode_number Jump = 9
opcode_number Branch = 10
opcode_number Emit = 11
opcode_number NativeCall = 12
opcode_number SubCall = 13
opcode_number SubReturn = 14
opcode_number NoInstruction = 15

-- the word of an instruction with these low twelve bits
abbrev pub word_of : Opcode → ℕ → ℕ
word_of opcode low = opcode_number opcode * 4096 + low % 4096

-- a number from -2048 to 2047 in twelve bits
abbrev pub twelve_bits : ℤ → ℕ
twelve_bits (pos n) = n
twelve_bits (negsuc n) = 4095 - n

-- the end of the init code or of a handler, and of a subroutine
abbrev pub end_word : ℕ
end_word = word_of End 0

abbrev pub sub_return_word : ℕ
sub_return_word = word_of SubReturn 0

-- the push of a number from -2048 to 2047, and of the number that is the next word
abbrev pub small_number_word : ℤ → ℕ
small_number_word v = word_of SmallNumber (twelve_bits v)

abbrev pub large_number_word : ℕ
large_number_word = word_of LargeNumber 0

-- the push of a cell, and of the cell at an index in a range, whose size is the next word
abbrev pub load_word : ℕ → ℕ
load_word address = word_of Load address

abbrev pub load_indirect_word : ℕ → ℕ
load_indirect_word base = word_of LoadIndirect base

-- the store into a cell, and into the cell at an index in a range, whose size is the next word
abbrev pub store_word : ℕ → ℕ
store_word address = word_of Store address

abbrev pub store_indirect_word : ℕ → ℕ
store_indirect_word base = word_of StoreIndirect base

-- the operators
abbrev pub unary_word : Unary → ℕ
unary_word op = word_of UnaryOperator (unary_code op)

abbrev pub binary_word : Binary → ℕ
binary_word op = word_of BinaryOperator (binary_code op)

-- the jump by a number from -2048 to 2047
abbrev pub jump_word : ℤ → ℕ
jump_word by = word_of Jump (twelve_bits by)

-- The branch that compares by an operator, which in a `when` has bit 8. The next word says how far it goes where the comparison isn't true.
abbrev pub branch_word : Binary → Bool → ℕ
branch_word op is_edge = word_of Branch (binary_code op + (if is_edge then 256 else 0))

-- an emitted event, whose cells the next two words name by address and length
abbrev pub emit_word : ℕ → ℕ
emit_word event = word_of Emit event

-- the calls of a native and of a subroutine
abbrev pub native_word : ℕ → ℕ
native_word id = word_of NativeCall id

abbrev pub sub_call_word : ℕ → ℕ
sub_call_word address = word_of SubCall address
