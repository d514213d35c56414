-- The definition of the machine, computed on small programs. A variable of the program stands at address 34, behind the node's own.
use Rattle.std.proofs.Common.{◌≡◌, ℕ, zero, suc, ◌+◌, nat_lt, if◌then◌else◌, true, false, List, [], ◌∷◌, slice_get, ℤ, pos, Option, Some, refl}
use Rattle.std.specs.Int.{int_wrap}
use Rattle.aseba_vm.specs.declared.shape.Shape.{Shape}
use Rattle.aseba_vm.specs.declared.arrival.Arrival.TheVariants.{Killed}
use Rattle.aseba_vm.specs.declared.tick.Tick.{Tick}
use Rattle.aseba_vm.specs.declared.tick.Tick.TheVariants.{Idle, Stored, Effect, Sent}
use Rattle.aseba_vm.specs.declared.tick.Notice.TheVariants.{Emit, NodeError}
use Rattle.aseba_vm.specs.declared.tick.NodeFault.TheVariants.{Stack}
use Rattle.aseba_vm.specs.State.{State}
use Rattle.aseba_vm.specs.Loaded.{made, loaded, reset_state}
use Rattle.aseba_vm.specs.Arrival.{arrived}
use Rattle.aseba_vm.specs.Tick.{ticked}

abbrev shape : Shape
shape = record { code = 32; cells = 40; stack = 8; id = Some 0; source = Some 1; args_at = 2; args_len = 32 }

-- the words in the code, reset and not paused
abbrev begun : List ℕ → State
begun words = reset_state false (loaded 0 words (made shape 1)).1

-- a tick that is more than quiet, temporaries left out
abbrev counted : Tick → ℕ
counted (Stored address) = if nat_lt address 35 then 1 else 0
counted Effect = 1
counted (Sent notice) = 1
counted _ = 0

-- after so many ticks: how many of them counted, and the state
abbrev ticks_from : ℕ → ℕ → Tick × State → ℕ × State
ticks_from zero k step = (k + counted step.0, step.1)
ticks_from (suc n) k step = ticks_from n (k + counted step.0) (ticked step.1)

abbrev ticks : ℕ → State → ℕ × State
ticks n s = ticks_from n 0 (Idle, s)

abbrev variable : State → Option ℤ
variable s = slice_get s.cells 34

-- after an event without a sender
abbrev event : ℕ → List ℤ → State → State
event number args s = (arrived number 0 args s).1

-- a variable counts from 1 to 3 in a loop
abbrev for_loop : List ℕ
for_loop = 3 ∷ 0xffff ∷ 3 ∷ 0x1001 ∷ 0x4022 ∷ 0x3022 ∷ 0x1002 ∷ 0xa00f ∷ 7 ∷ 0x3022 ∷ 0x1001 ∷ 0x8002 ∷ 0x4022 ∷ 0x9ff8 ∷ 0 ∷ []

for_loop-counts : (ticks 30 (begun for_loop)).0 ≡ 9
unfolding made loaded reset_state arrived ticked int_wrap
for_loop-counts = refl

for_loop-ends : variable (ticks 30 (begun for_loop)).1 ≡ Some (pos 3)
unfolding made loaded reset_state arrived ticked int_wrap
for_loop-ends = refl

-- a subroutine sets a variable to 5
abbrev sub_call : List ℕ
sub_call = 3 ∷ 0xffff ∷ 3 ∷ 0xd005 ∷ 0 ∷ 0x1005 ∷ 0x4022 ∷ 0xe000 ∷ []

sub_call-counts : (ticks 10 (begun sub_call)).0 ≡ 4
unfolding made loaded reset_state arrived ticked int_wrap
sub_call-counts = refl

sub_call-ends : variable (ticks 10 (begun sub_call)).1 ≡ Some (pos 5)
unfolding made loaded reset_state arrived ticked int_wrap
sub_call-ends = refl

-- a `when` counts how often the first argument of event 2 becomes 1
abbrev when_edge : List ℕ
when_edge = 5 ∷ 0xffff ∷ 5 ∷ 2 ∷ 6 ∷ 0 ∷ 0x1000 ∷ 0x5002 ∷ 0x20 ∷ 0x1001 ∷ 0xa10a ∷ 6 ∷ 0x3022 ∷ 0x1001 ∷ 0x8002 ∷ 0x4022 ∷ 0 ∷ []

-- how many ticks of 20 counted after each of these first arguments, and then the variable
abbrev pairs : List ℤ → State → List ℕ × Option ℤ
pairs [] s = ([], variable s)
pairs (first ∷ firsts) s =
    let run = ticks 20 (event 2 (first ∷ []) s) in
    let rest = pairs firsts run.1 in (run.0 ∷ rest.0, rest.1)

when_edge-counts : pairs (pos 0 ∷ pos 1 ∷ pos 1 ∷ pos 0 ∷ pos 1 ∷ []) (ticks 10 (begun when_edge)).1 ≡ (2 ∷ 3 ∷ 2 ∷ 2 ∷ 3 ∷ [], Some (pos 2))
unfolding made loaded reset_state arrived ticked int_wrap
when_edge-counts = refl

-- a second event kills the handler of the first inside an expression
abbrev kill : List ℕ
kill = 5 ∷ 0xffff ∷ 5 ∷ 0 ∷ 8 ∷ 0x1001 ∷ 0x4022 ∷ 0 ∷ 0x3022 ∷ 0x1001 ∷ 0x8002 ∷ 0x4022 ∷ 0xb001 ∷ 0 ∷ 0 ∷ 0 ∷ []

-- two ticks into the handler
abbrev kill_inside : State → State
kill_inside s = (ticks 2 (event 0 [] (ticks 10 s).1)).1

kill-answer : (arrived 0 0 [] (kill_inside (begun kill))).0 ≡ Killed 10
unfolding made loaded reset_state arrived ticked int_wrap
kill-answer = refl

kill-emits : (ticked (ticks 4 (event 0 [] (kill_inside (begun kill)))).1).0 ≡ Sent (Emit 1 0 0)
unfolding made loaded reset_state arrived ticked int_wrap
kill-emits = refl

kill-counts : (ticks 8 (event 0 [] (kill_inside (begun kill)))).0 ≡ 3
unfolding made loaded reset_state arrived ticked int_wrap
kill-counts = refl

kill-ends : variable (ticks 8 (event 0 [] (kill_inside (begun kill)))).1 ≡ Some (pos 2)
unfolding made loaded reset_state arrived ticked int_wrap
kill-ends = refl

-- a return without a call finds no address on the stack
abbrev return_alone : List ℕ
return_alone = 3 ∷ 0xffff ∷ 3 ∷ 0xe000 ∷ []

return_alone-answer : (ticked (begun return_alone)).0 ≡ Sent (NodeError 3 Stack)
unfolding made loaded reset_state arrived ticked
return_alone-answer = refl

return_alone-pauses : (ticked (begun return_alone)).1.paused ≡ true
unfolding made loaded reset_state arrived ticked
return_alone-pauses = refl

return_alone-ends : (ticked (ticked (begun return_alone)).1).0 ≡ Idle
unfolding made loaded reset_state arrived ticked
return_alone-ends = refl
