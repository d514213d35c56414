use Rattle.aseba_tree.proofs.ConstantLaws.{sound_is_laid_out}
use Rattle.aseba_tree.proofs.sound_laws.sound_is_laid_out.Goals as goal

pub returns : goal.returns
returns c = sound_is_laid_out
