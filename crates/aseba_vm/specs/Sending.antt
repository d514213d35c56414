-- What a machine sends.
use Rattle.std.specs.Prelude.{ℕ, ◌+◌, ◌<◌, ◌≤◌}
use Rattle.aseba_vm.specs.declared.tick.Tick.{Tick}
use Rattle.aseba_vm.specs.declared.tick.Tick.TheVariants.{Sent}
use Rattle.aseba_vm.specs.declared.tick.Notice.TheVariants.{Emit}

-- An event that is sent has a number of twelve bits, and takes along at most 256 cells, all of them among as many as `cells` says.
pub record EmitsInside (cells event start len : ℕ) : Type 0 where
  pub number : event < 4096
  pub inside : start + len ≤ cells
  pub short : len ≤ 256

-- so does the event that a tick sends, if it sends one
abbrev pub SendsInside : (cells : ℕ) → Tick → Type 0
SendsInside cells (Sent (Emit event start len)) = EmitsInside cells event start len
SendsInside cells _ = Unit {0}
