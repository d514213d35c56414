use Rattle.aseba_tree.proofs.ConstantLaws.{constant_has_value}
use Rattle.aseba_tree.proofs.sound_laws.constant_has_value.Goals as goal

pub returns : goal.returns
returns c = constant_has_value
