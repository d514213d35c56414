use Rattle.aseba_debug.proofs.BreakLaws.{breaks_none}
use Rattle.aseba_debug.proofs.debug.Debug.clear_all.Goals as goal

pub invariant_of-self : goal.invariant_of-self
invariant_of-self c = breaks_none _ c.clear.ensures
