-- The links so far are told.
use Rattle.aseba_router.specs.Relayed.{AllFull}
use Rattle.aseba_router.proofs.relaying.all_full.Given as goal

abbrev pub invariant-loop-index : goal.invariant-loop-index
invariant-loop-index l = AllFull l.router l.places l.index l.full
