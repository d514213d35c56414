use Rattle.std.proofs.Common.{arith}
use Rattle.aseba_edge.proofs.PollTapes.{new-holds}
use Rattle.aseba_edge.proofs.poll_tape.PollTape.new.Goals as goal

pub invariant_of-result : goal.invariant_of-result
invariant_of-result c =
    new-holds _ _ _ _ _ _ c.in_ok-bytes.ensures c.in_ok-given.ensures.items c.in_ok-given.ensures.len (omega (arith, c.in_ok-given.ensures.exact, c.len.ensures, c.len-2.ensures))
