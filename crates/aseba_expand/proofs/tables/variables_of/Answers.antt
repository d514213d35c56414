use Rattle.std.proofs.Common.{◌∙◌, ap}
use Rattle.aseba_expand.specs.Tables.{with_places}
use Rattle.aseba_expand.proofs.tables.variables_of.Goals as goal

pub returns : goal.returns
returns c = c.in_ok-add_places.ensures ∙ ap (λ n. with_places n c.args.places.now) c.new-known.ensures
