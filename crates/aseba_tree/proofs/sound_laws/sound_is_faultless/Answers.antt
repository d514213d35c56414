use Rattle.aseba_tree.proofs.SoundProofs.{sound_is_faultless}
use Rattle.aseba_tree.proofs.sound_laws.sound_is_faultless.Goals as goal

pub returns : goal.returns
returns c = sound_is_faultless
