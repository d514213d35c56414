-- The rows below have their shares.
use Rattle.std.specs.Arc.{arc_value}
use Rattle.aseba_router.proofs.Loops.{Done, nowhere, shares}
use Rattle.aseba_router.proofs.table.take_shares.Given as goal

abbrev pub invariant-loop-index : goal.invariant-loop-index
invariant-loop-index l = Done (shares l.echo l.sayer (arc_value l.frame)) l.initial.places nowhere l.places nowhere l.index
