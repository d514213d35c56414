-- What an instruction, or a part of it, makes of a state: a value and the state after it, or the notice that ends the handler.
-- The checks of an instruction are written in their order, each with what goes on where it holds.
use Rattle.std.specs.Prelude.{ℕ, ◌+◌, if◌then◌else◌, nat_lt, length, drop, slice_get, slice_set, ℤ, pos, negsuc, ◌+ℤ◌, Option, Some, None, Result, Ok, Err}
use Rattle.aseba_words.specs.Cell.{binary_value}
use Rattle.aseba_words.specs.declared.operators.Binary.{Binary}
use Rattle.aseba_vm.specs.declared.tick.Notice.{Notice}
use Rattle.aseba_vm.specs.declared.tick.Notice.TheVariants.{Bounds, NodeError, Division}
use Rattle.aseba_vm.specs.declared.tick.NodeFault.{NodeFault}
use Rattle.aseba_vm.specs.declared.tick.NodeFault.TheVariants.{Stack, Address, Word, Code}
use Rattle.aseba_vm.specs.State.{State, has_room, pushed}

abbrev pub Outcome : Type 0 → Type 0
Outcome A = Result A Notice × State

abbrev pub answering : {A : Type 0} → A → State → Outcome A
answering value s = (Ok value, s)

abbrev pub stopping : {A : Type 0} → Notice → State → Outcome A
stopping notice s = (Err notice, s)

-- the notice of a node error
abbrev pub faulting : {A : Type 0} → NodeFault → State → Outcome A
faulting fault s = stopping (NodeError s.pc fault) s

-- what is there, or else
abbrev pub given : {A B : Type 0} → Option A → Outcome B → (A → Outcome B) → Outcome B
given None otherwise go_on = otherwise
given (Some a) otherwise go_on = go_on a

-- the value of a part, with the state after it
abbrev pub going_on : {A B : Type 0} → Result A Notice → State → (A → State → Outcome B) → Outcome B
going_on (Ok value) s go_on = go_on value s
going_on (Err notice) s go_on = (Err notice, s)

abbrev pub after : {A B : Type 0} → Outcome A → (A → State → Outcome B) → Outcome B
after outcome go_on = going_on outcome.0 outcome.1 go_on

-- a further word of the instruction
abbrev pub fetching : {A : Type 0} → ℕ → State → (ℕ → Outcome A) → Outcome A
fetching place s go_on = given (slice_get s.code (s.pc + place)) (faulting Code s) go_on

-- an operator that its table has
abbrev pub operating : {A B : Type 0} → Option A → State → (A → Outcome B) → Outcome B
operating operator s go_on = given operator (faulting Word s) go_on

-- a value from the stack
abbrev pub popping : {A : Type 0} → State → (ℤ → State → Outcome A) → Outcome A
popping s go_on = given (slice_get s.stack 0) (faulting Stack s) (λ value. go_on value (record s { stack = drop 1 s.stack }))

-- a value onto the stack, where there is room
abbrev pub pushing : {A : Type 0} → ℤ → State → (State → Outcome A) → Outcome A
pushing value s go_on = if has_room s then go_on (pushed value s) else faulting Stack s

-- an index that is at least 0 and below the size
abbrev pub index_in : ℕ → ℤ → Option ℕ
index_in size (pos i) = if nat_lt i size then Some i else None
index_in size (negsuc i) = None

-- an index inside its bounds
abbrev pub indexing : {A : Type 0} → ℕ → ℤ → State → (ℕ → Outcome A) → Outcome A
indexing size index s go_on = given (index_in size index) (stopping (Bounds s.pc size index) s) go_on

-- a place in the code, so far from here
abbrev pub targeting : {A : Type 0} → ℤ → State → (ℕ → Outcome A) → Outcome A
targeting by s go_on = given (index_in (length s.code) (pos s.pc +ℤ by)) (faulting Code s) go_on

-- the cell at an address
abbrev pub loading : {A : Type 0} → ℕ → State → (ℤ → Outcome A) → Outcome A
loading address s go_on = given (slice_get s.cells address) (faulting Address s) go_on

-- a store into the cell at an address
abbrev pub storing : {A : Type 0} → ℕ → ℤ → State → (State → Outcome A) → Outcome A
storing address value s go_on =
    if nat_lt address (length s.cells) then go_on (record s { cells = slice_set s.cells address value }) else faulting Address s

-- an operator's value, none for a divisor of zero
abbrev pub dividing : {A : Type 0} → Option ℤ → State → (ℤ → Outcome A) → Outcome A
dividing value s go_on = given value (stopping (Division s.pc) s) go_on

-- the operator's value of two values that are popped, the right one first
abbrev pub computed : Binary → State → Outcome ℤ
computed operator s =
    popping s (λ right s.
    popping s (λ left s.
    dividing (binary_value operator left right) s (λ value. answering value s)))
