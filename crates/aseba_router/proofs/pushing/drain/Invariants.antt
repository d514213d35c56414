-- So many Ends were taken, and nothing came back.
use Rattle.std.proofs.Common.{◌≡◌, length}
use Rattle.aseba_router.specs.Queue.{OthersStay}
use Rattle.aseba_router.proofs.Pushes.{Going}
use Rattle.aseba_router.proofs.pushing.drain.Given as goal

abbrev pub invariant-loop-session : goal.invariant-loop-session
invariant-loop-session g l = record {
  going : Going l.initial.waiting.items (g.P.Ports.queue l.initial.ports l.port) l.waiting.items (g.P.Ports.queue l.ports l.port);
  others : OthersStay l.port (g.P.Ports.queue l.initial.ports) (g.P.Ports.queue l.ports);
  count : g.P.Ports.ports l.ports ≡ g.P.Ports.ports l.initial.ports;
}

abbrev pub decreases-loop-session : goal.decreases-loop-session
decreases-loop-session g l = length l.waiting.items
