use Rattle.aseba_target.proofs.BeatLaws.{true_beats_are_effects}
use Rattle.aseba_target.proofs.true_beats_are_effects.Goals as goal

pub returns : goal.returns
returns c = true_beats_are_effects
