use Rattle.std.proofs.Common.{◌∙◌, ap}
use Rattle.aseba_expand.specs.Tables.{with_consts}
use Rattle.aseba_expand.proofs.tables.constants_of.Goals as goal

pub returns : goal.returns
returns c = c.in_ok-add_consts.ensures ∙ ap (λ n. with_consts n c.args.consts.now) c.new-known.ensures
