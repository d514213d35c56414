-- The middle of the switch as contracts see it.
use Rattle.std.specs.Prelude.{◌≡◌, ℕ, ◌<◌, List, [], ◌∷◌, length, map, Option, None, Some}
use Rattle.std.specs.List.{AllByRecursion}
use Rattle.aseba_router.specs.declared.exchange.Exchange.{Exchange}
use Rattle.aseba_router.specs.Hub.{Put}
use Rattle.aseba_router.specs.Memory.{queue_at}
use Rattle.aseba_router.specs.Routed.{IsRoomy, port_of}
use Rattle.aseba_router.specs.Shown.{act}
use Rattle.aseba_router.specs.Turns.{Middle, Pops}

abbrev pub middle : Exchange → Middle
middle e = record { waiting = map act e.intake.items; routed = map act e.routed; table = e.router; queues = e.queues }

-- The items that wait are of ports that are there, and each port's queue has room.
pub record IsSound (ports : ℕ) (m : Middle) : Type 0 where
  pub count : length m.table.ports ≡ ports
  pub queues : length m.queues ≡ ports
  pub there : AllByRecursion (λ x. port_of x < ports) m.waiting
  pub roomy : IsRoomy m.table (queue_at m.queues)

-- the first entry of a port's queue was taken, if there was one
abbrev pub PopDone : ℕ → Option Put → Middle → Middle → Type 0
PopDone p None old new = ((queue_at old.queues p).list ≡ []) × (new ≡ old)
PopDone p (Some put) old new = (later : List Put) × ((queue_at old.queues p).list ≡ put ∷ later) × Pops p later old new
