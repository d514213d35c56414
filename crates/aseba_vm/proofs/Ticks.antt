-- What a tick comes to, for whoever runs a machine.
use Rattle.std.proofs.Common.{◌≡◌, ℕ, true, false, slice_get, Some, refl}
use Rattle.aseba_vm.specs.declared.tick.Tick.TheVariants.{Idle, Paused}
use Rattle.aseba_vm.specs.State.{State}
use Rattle.aseba_vm.specs.Instructions.{opcode_of}
use Rattle.aseba_vm.specs.Rows.{row}
use Rattle.aseba_vm.specs.Tick.{ticked, settled}

-- without a handler nothing changes
pub ticked-idle : (s : State) → s.active ≡ false → ticked s ≡ (Idle, s)
unfolding ticked
ticked-idle s idle = rw idle refl

-- nor where the machine is paused
pub ticked-paused : (s : State) → s.active ≡ true → s.paused ≡ true → ticked s ≡ (Paused, s)
unfolding ticked
ticked-paused s active paused = rw (active, paused) refl

-- otherwise a tick is the instruction at the counter
pub ticked-row : (s : State) (word : ℕ) → s.active ≡ true → s.paused ≡ false → slice_get s.code s.pc ≡ Some word → ticked s ≡ settled (row (opcode_of word) word s).0 (row (opcode_of word) word s).1
unfolding ticked
ticked-row s word active paused at = rw (active, paused, at) refl
