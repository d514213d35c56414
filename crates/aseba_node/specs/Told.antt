-- What a node tells of itself: its description, its cells, where its machine stands, and what its machine sends.
use Rattle.std.specs.Prelude.{ℕ, ◌+◌, ◌*◌, List, ◌∷◌, ◌++◌, length, map, take, drop, codes, ℤ}
use Rattle.std.specs.List.{range_with_len}
use Rattle.std.specs.Int.{cast_unsigned, div_ceil, w16}
use Rattle.aseba_tree.specs.declared.description.Description.{Description}
use Rattle.aseba_tree.specs.declared.description.Sized.{Sized}
use Rattle.aseba_tree.specs.declared.description.Local.{Local}
use Rattle.aseba_tree.specs.declared.description.Native.{Native}
use Rattle.aseba_vm.specs.State.{State as Machine}
use Rattle.aseba_vm.specs.declared.tick.Notice.{Notice}
use Rattle.aseba_vm.specs.declared.tick.Notice.TheVariants.{Emit, Bounds, Division, NodeError}
use Rattle.aseba_vm.specs.declared.tick.NodeFault.{NodeFault}
use Rattle.aseba_vm.specs.declared.tick.NodeFault.TheVariants.{Stack, Address, Word, Native as NoNative, Code}
use Rattle.aseba_debug.specs.Commanded.{flags_of}
use Rattle.aseba_payload.specs.declared.payload.Payload.{Payload}
use Rattle.aseba_payload.specs.declared.payload.Payload.TheVariants.{User, Describe, Variable, LocalEvent, NativeOf, Variables, BoundsAt, DivisionAt, ErrorAt, State}

-- the version of the messages
abbrev pub version : ℕ
version = 5

-- Its description: how much of each there is, and then each variable, local event and native in order.

abbrev pub head_of : Description → Payload
head_of d = Describe d.name version d.code d.stack d.cells (length d.variables) (length d.locals) (length d.natives)

abbrev pub variable_of : Sized → Payload
variable_of v = Variable v.size v.name

abbrev pub local_of : Local → Payload
local_of l = LocalEvent l.name l.text

abbrev pub native_of : Native → Payload
native_of n = NativeOf n.name n.text n.params

abbrev pub description_of : Description → List Payload
description_of d = head_of d ∷ map variable_of d.variables ++ map local_of d.locals ++ map native_of d.natives

-- cells as words
abbrev pub words_of : List ℤ → List ℕ
words_of cells = map (cast_unsigned w16) cells

-- Words from an address on, in runs of 255 and a last one with the rest: there are as many as it takes, and each begins where the one before it ends.

abbrev pub run_at : (start : ℕ) → List ℕ → ℕ → Payload
run_at start words which = Variables (start + 255 * which) (take 255 (drop (255 * which) words))

abbrev pub runs_of : (start : ℕ) → List ℕ → List Payload
runs_of start words = map (run_at start words) (range_with_len 0 (div_ceil (length words) 255))

-- where its machine stands
abbrev pub state_of : Machine → Payload
state_of m = State m.pc (flags_of m)

-- an error with its name
abbrev pub error_at : Machine → List ℕ → Payload
error_at m text = ErrorAt m.pc text

abbrev pub fault_text : NodeFault → List ℕ
fault_text Stack = codes "stack"
fault_text Address = codes "address"
fault_text Word = codes "word"
fault_text NoNative = codes "native"
fault_text Code = codes "code"

-- what its machine sends, where it has these cells: an event takes along a range of them
abbrev pub notice_of : List ℤ → Notice → Payload
notice_of cells (Emit event start len) = User event (words_of (take len (drop start cells)))
notice_of cells (Bounds pc size index) = BoundsAt pc size (cast_unsigned w16 index)
notice_of cells (Division pc) = DivisionAt pc
notice_of cells (NodeError pc fault) = ErrorAt pc (fault_text fault)
