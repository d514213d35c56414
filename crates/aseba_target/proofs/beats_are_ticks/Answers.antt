use Rattle.aseba_target.proofs.BeatLaws.{beats_are_ticks}
use Rattle.aseba_target.proofs.beats_are_ticks.Goals as goal

pub returns : goal.returns
returns c = beats_are_ticks
