-- The Ends of the rows below were tried.
use Rattle.std.proofs.Common.{◌≡◌, length}
use Rattle.aseba_router.proofs.Loops.{Done, tried}
use Rattle.aseba_router.proofs.table.retry_all.Given as goal

abbrev pub invariant-loop-index : goal.invariant-loop-index
invariant-loop-index g l = record {
  done : Done tried l.initial.places (g.P.Ports.queue l.initial.ports) l.places (g.P.Ports.queue l.ports) l.index;
  count : g.P.Ports.ports l.ports ≡ g.P.Ports.ports l.initial.ports;
  end : l.index-end ≡ length l.initial.places;
}
