use Rattle.aseba_describe.proofs.Behind.{three}
use Rattle.aseba_describe.proofs.defaults.choice_natives.Goals as goal

pub returns : goal.returns
returns c = three _ _ _ _ _ _ _ c.in_ok-add_native.ensures c.in_ok-add_native-2.ensures c.in_ok-add_native-3.ensures
