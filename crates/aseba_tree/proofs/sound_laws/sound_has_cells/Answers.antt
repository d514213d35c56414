use Rattle.aseba_tree.proofs.SoundProofs.{sound_has_cells}
use Rattle.aseba_tree.proofs.sound_laws.sound_has_cells.Goals as goal

pub returns : goal.returns
returns c = sound_has_cells
