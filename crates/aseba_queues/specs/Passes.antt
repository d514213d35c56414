-- What clauses see of the queues and their passes.
use Rattle.std.specs.Prelude.{ℕ}
use Rattle.crossbeam_queue.specs.Passes.{view, IsPassOf, IsSamePass, ruled_capacity}
use Rattle.aseba_queues.specs.declared.view.View.{View}
use Rattle.aseba_queues.specs.declared.in_queue.InPass.{InPass}
use Rattle.aseba_queues.specs.declared.in_queue.InQueue.{InQueue}
use Rattle.aseba_queues.specs.declared.port_queue.PortPass.{PortPass}
use Rattle.aseba_queues.specs.declared.port_queue.PortQueue.{PortQueue}

module _ {T : Type 0} where
  abbrev pub in_places : InQueue T → ℕ
  in_places queue = ruled_capacity queue.ring

  -- what the pass knows
  abbrev pub in_view : InPass T → View T
  in_view pass = view pass.pass

  -- it is a pass of this queue
  abbrev pub IsInPass : InQueue T → InPass T → Type 0
  IsInPass queue pass = IsPassOf queue.ring pass.pass

  -- it is the same pass of the same queue, whatever it knows
  abbrev pub IsSameInPass : InPass T → InPass T → Type 0
  IsSameInPass old new = IsSamePass old.pass new.pass

  abbrev pub port_places : PortQueue T → ℕ
  port_places queue = ruled_capacity queue.ring

  abbrev pub port_view : PortPass T → View T
  port_view pass = view pass.pass

  abbrev pub IsPortPass : PortQueue T → PortPass T → Type 0
  IsPortPass queue pass = IsPassOf queue.ring pass.pass

  abbrev pub IsSamePortPass : PortPass T → PortPass T → Type 0
  IsSamePortPass old new = IsSamePass old.pass new.pass
