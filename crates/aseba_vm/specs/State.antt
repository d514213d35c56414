-- What a machine holds, and how a handler ends in it. Code words and addresses are natural numbers, cells are whole numbers from -32768 to 32767.
use Rattle.std.specs.Prelude.{◌≡◌, ◌<◌, ◌≤◌, ◌+◌, ℕ, ℤ, Bool, false, List, [], ◌∷◌, length, replicate, Option, Some, None, IfSome, unwrap_or, nat_lt, slice_set}
use Rattle.std.specs.Int.{cast_signed, w16}
use Rattle.aseba_vm.specs.declared.shape.Shape.{Shape}

-- The stack has its top first. Each cell has its entry in `held`: the value that waits for the handler's end, if there is one.
pub record State : Type 0 where
  pub shape : Shape
  pub id : ℕ
  pub code : List ℕ
  pub cells : List ℤ
  pub stack : List ℤ
  pub pc : ℕ
  pub active : Bool
  pub paused : Bool
  pub held : List (Option ℤ)

-- the cells that a shape names lie inside
pub record NamesInside (shape : Shape) : Type 0 where
  pub id : IfSome shape.id (λ address. address < shape.cells)
  pub source : IfSome shape.source (λ address. address < shape.cells)
  pub args : 0 < shape.args_len → shape.args_at + shape.args_len ≤ shape.cells

-- a number in the named cell, where there is one
abbrev pub named : Option ℕ → ℕ → List ℤ → List ℤ
named None number cells = cells
named (Some address) number cells = slice_set cells address (cast_signed w16 number)

-- no cell holds a value
abbrev pub none_held : List (Option ℤ) → List (Option ℤ)
none_held held = replicate (length held) None

-- each cell with a held value takes it
abbrev pub applied : List ℤ → List (Option ℤ) → List ℤ
applied (cell ∷ cells) (value ∷ held) = unwrap_or value cell ∷ applied cells held
applied cells _ = cells

-- The handler ends: the stack is emptied and held values are applied. The counter stays.
abbrev pub ended : State → State
ended s = record s { cells = applied s.cells s.held; stack = []; active = false; held = none_held s.held }

-- there is room for one more value on the stack
abbrev pub has_room : State → Bool
has_room s = nat_lt (length s.stack) s.shape.stack

-- a value on top of the stack
abbrev pub pushed : ℤ → State → State
pushed value s = record s { stack = value ∷ s.stack }

-- the counter behind an instruction of so many words
abbrev pub forward : ℕ → State → State
forward words s = record s { pc = s.pc + words }

-- the sizes are those of the shape, and a flag that is false says that no cell holds a value
pub record Kept (s : State) (room : ℕ) (any_held : Bool) : Type 0 where
  pub names : NamesInside s.shape
  pub code : length s.code ≡ s.shape.code
  pub cells : length s.cells ≡ s.shape.cells
  pub held : length s.held ≡ s.shape.cells
  pub stack : room ≡ s.shape.stack
  pub none : any_held ≡ false → s.held ≡ none_held s.held
