use Rattle.aseba_describe.proofs.Behind.{two}
use Rattle.aseba_describe.proofs.defaults.scan_natives.Goals as goal

pub returns : goal.returns
returns c = two _ _ _ _ _ c.in_ok-add_native.ensures c.in_ok-add_native-2.ensures
