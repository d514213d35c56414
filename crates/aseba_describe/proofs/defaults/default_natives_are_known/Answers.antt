use Rattle.std.proofs.Common.{refl}
use Rattle.aseba_describe.proofs.defaults.default_natives_are_known.Goals as goal

pub returns : goal.returns
returns c = refl
