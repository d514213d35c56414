use Rattle.aseba_debug.proofs.BreakLaws.{breaks_none}
use Rattle.aseba_debug.proofs.debug.Debug.new.Goals as goal

pub invariant_of-result : goal.invariant_of-result
invariant_of-result c = breaks_none _ c.new.ensures
