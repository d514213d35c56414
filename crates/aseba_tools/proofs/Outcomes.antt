-- Whose faults the counts tell of.
use Rattle.std.proofs.Common.{ℕ, Bool, false, refl, arith}
use Rattle.aseba_edge.specs.Counts.{Counts}
use Rattle.aseba_tools.specs.Outcome.{CountsBoth}

-- all faults were a link's
pub faults_of_link : (failed : Bool) (own link : ℕ) → Counts failed 0 link → CountsBoth failed own own link
faults_of_link failed own link counts = record {
  own = false;
  of_link = failed;
  either = refl;
  count = record { never_fell = omega arith; cause = refl };
  link_count = counts;
}
