-- How a word that was put together of an instruction's number and an operand is read.
use Rattle.std.proofs.Common.{◌≡◌, ℕ, ◌+◌, ◌*◌, ◌/◌, ◌<◌, slice_index_or, refl, ap, ◌∙◌, arith}
use Rattle.aseba_vm.specs.declared.opcode.Opcode.{Opcode}
use Rattle.aseba_vm.specs.declared.opcode.Opcode.TheVariants.{End, SmallNumber, LargeNumber, Load, Store, LoadIndirect, StoreIndirect, UnaryOperator, BinaryOperator, Jump, Branch, Emit, NativeCall, SubCall, SubReturn, NoInstruction}
use Rattle.aseba_vm.specs.Instructions.{opcodes, opcode_of, operand_of}
use Rattle.aseba_vm.specs.Words.{opcode_number}

numbered : (opcode : Opcode) → slice_index_or opcodes (opcode_number opcode) NoInstruction ≡ opcode
numbered End = refl
numbered SmallNumber = refl
numbered LargeNumber = refl
numbered Load = refl
numbered Store = refl
numbered LoadIndirect = refl
numbered StoreIndirect = refl
numbered UnaryOperator = refl
numbered BinaryOperator = refl
numbered Jump = refl
numbered Branch = refl
numbered Emit = refl
numbered NativeCall = refl
numbered SubCall = refl
numbered SubReturn = refl
numbered NoInstruction = refl

high : (number operand : ℕ) → operand < 4096 → (number * 4096 + operand) / 4096 ≡ number
high number operand below = omega arith

pub opcode_of-word : (opcode : Opcode) (operand : ℕ) → operand < 4096 → opcode_of (opcode_number opcode * 4096 + operand) ≡ opcode
opcode_of-word opcode operand below =
    ap (λ n. slice_index_or opcodes n NoInstruction) (high (opcode_number opcode) operand below) ∙ numbered opcode

pub operand_of-word : (number operand : ℕ) → operand < 4096 → operand_of (number * 4096 + operand) ≡ operand
operand_of-word number operand below = omega arith
