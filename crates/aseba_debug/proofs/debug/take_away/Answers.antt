use Rattle.std.proofs.Common.{◌==◌, not, rules}
use Rattle.arrayvec.proofs.ArrayVecLemmas.{filter-from_retain}
use Rattle.aseba_debug.proofs.debug.take_away.Goals as goal

pub returns : goal.returns
returns c = filter-from_retain _ (λ at. not (at == c.args.pc)) _ (λ x b f' y called. search rules) _ _ c.retain.ensures.filtered
