use Rattle.aseba_describe.proofs.Written.{plain_written}
use Rattle.aseba_describe.proofs.plain.is_plain.Goals as goal

pub returns-clause-written : goal.returns-clause-written
returns-clause-written c = plain_written c.args.project.now c.keeps_rules.result c.keeps_rules.ensures
