use Rattle.std.proofs.Common.{◌∙◌, ap}
use Rattle.aseba_check.specs.Parts.{with_natives}
use Rattle.aseba_check.proofs.parts.native_places.Goals as goal

pub returns : goal.returns
returns c = c.in_ok-add_natives.ensures ∙ ap (λ n. with_natives n 0 c.args.natives.now) c.new-places.ensures
