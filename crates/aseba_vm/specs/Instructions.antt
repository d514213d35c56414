-- How an instruction word is read: its high four bits name the instruction, and its low twelve bits are a number.
use Rattle.std.specs.Prelude.{ℕ, ◌+◌, ◌-◌, ◌*◌, ◌/◌, ◌%◌, ◌==◌, nat_lt, Bool, if◌then◌else◌, List, [], ◌∷◌, map, slice_index_or, Option, ℤ, pos, ◌-ℤ◌}
use Rattle.aseba_words.specs.Codes.{unary_coded, binary_coded}
use Rattle.aseba_words.specs.declared.operators.Unary.{Unary}
use Rattle.aseba_words.specs.declared.operators.Binary.{Binary}
use Rattle.aseba_vm.specs.declared.opcode.Opcode.{Opcode}
use Rattle.aseba_vm.specs.declared.opcode.Opcode.TheVariants.{End, SmallNumber, LargeNumber, Load, Store, LoadIndirect, StoreIndirect, UnaryOperator, BinaryOperator, Jump, Branch, Emit, NativeCall, SubCall, SubReturn, NoInstruction}

-- the instructions in the order of their high bits
abbrev pub opcodes : List Opcode
opcodes = End ∷ SmallNumber ∷ LargeNumber ∷ Load ∷ Store ∷ LoadIndirect ∷ StoreIndirect ∷ UnaryOperator ∷ BinaryOperator ∷ Jump ∷ Branch ∷ Emit ∷ NativeCall ∷ SubCall ∷ SubReturn ∷ []

abbrev pub opcode_of : ℕ → Opcode
opcode_of word = slice_index_or opcodes (word / 4096) NoInstruction

-- the low twelve bits
abbrev pub operand_of : ℕ → ℕ
operand_of word = word % 4096

-- the low twelve bits as a signed number
abbrev pub signed_operand_of : ℕ → ℤ
signed_operand_of word = if nat_lt (operand_of word) 2048 then pos (operand_of word) else pos (operand_of word) -ℤ pos 4096

-- the operator of a word that computes: its low twelve bits, where an operator has their number
abbrev pub unary_operator_of : ℕ → Option Unary
unary_operator_of word = unary_coded (operand_of word)

abbrev pub binary_operator_of : ℕ → Option Binary
binary_operator_of word = binary_coded (operand_of word)

-- the operator of a branch: its low eight bits
abbrev pub branch_operator_of : ℕ → Option Binary
branch_operator_of word = binary_coded (word % 256)

-- bit 8 of a branch: it goes into its body only where its condition has become true
abbrev pub is_when : ℕ → Bool
is_when word = (word / 256 % 2) == 1

-- bit 9 of a branch: whether its condition was true when it was tested last
abbrev pub was_true : ℕ → Bool
was_true word = (word / 512 % 2) == 1

-- these truths of the branches that a memory has at places
abbrev pub bits_at : (memory places : List ℕ) → List Bool
bits_at memory places = map (λ at. was_true (slice_index_or memory at 0)) places

-- the branch with this truth in bit 9
abbrev pub remembering : Bool → ℕ → ℕ
remembering truth word = word - (word / 512 % 2) * 512 + (if truth then 512 else 0)
