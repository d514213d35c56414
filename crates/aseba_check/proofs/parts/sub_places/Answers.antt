use Rattle.std.proofs.Common.{◌∙◌, ap, map}
use Rattle.aseba_tree.specs.View.{handler_view}
use Rattle.aseba_check.specs.Parts.{with_subs}
use Rattle.aseba_check.proofs.parts.sub_places.Goals as goal

pub returns : goal.returns
returns c = c.in_ok-add_subs.ensures ∙ ap (λ n. with_subs n 0 (map handler_view c.args.parts.now)) c.new-places.ensures
