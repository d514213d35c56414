-- What a Leave does to the row of its port.
use Rattle.std.specs.Prelude.{ℕ}
use Rattle.aseba_router.specs.declared.session.Session.{Session}
use Rattle.aseba_router.specs.Hub.{leaves}
use Rattle.aseba_router.specs.Queue.{Queue}
use Rattle.aseba_router.specs.Routed.{Happens}
use Rattle.aseba_router.specs.Rows.{Row}
use Rattle.std.specs.Prelude.{Bool}

-- with or without echo
abbrev pub Left : Session → ℕ → Row → Queue → Row → Queue → Type 0
Left s place old before new after = (echo : Bool) → Happens echo s.port place (leaves s) old.port before new.port after
