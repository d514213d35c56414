use Rattle.aseba_tree.proofs.ElementLaws.{sound_has_elements}
use Rattle.aseba_tree.proofs.sound_laws.sound_has_elements.Goals as goal

pub returns : goal.returns
returns c = sound_has_elements
