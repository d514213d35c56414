use Rattle.std.proofs.Common.{rules}
use Rattle.aseba_describe.proofs.DefaultText.{default_is_read}
use Rattle.aseba_describe.proofs.defaults.default_project.Goals as goal

pub returns-clause-value : goal.returns-clause-value
returns-clause-value c = search rules

pub returns-clause-read : goal.returns-clause-read
returns-clause-read c = default_is_read _ (returns-clause-value c)
