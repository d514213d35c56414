use Rattle.std.proofs.Common.{◌≡◌, ℕ, ◌<◌, length, get_or, None}
use Rattle.aseba_vm.specs.State.{applied}
use Rattle.aseba_vm.proofs.lists.apply.Given as goal

-- to apply what is left is to apply all, and nothing is held below the address
abbrev pub invariant-loop-address : goal.invariant-loop-address
invariant-loop-address l =
    (applied l.cells l.held ≡ applied l.initial.cells l.initial.held) × ((k : ℕ) → k < l.address → get_or l.held k None ≡ None) × (length l.held ≡ length l.cells) × (length l.held ≡ length l.initial.held)
