use Rattle.aseba_debug.proofs.BreakLaws.{breaks_kept}
use Rattle.aseba_debug.proofs.law.at_most_sixteen.Goals as goal

pub returns : goal.returns
returns c = breaks_kept
