use Rattle.aseba_parser.proofs.ScanStmts.{one_nest}
use Rattle.aseba_parser.proofs.nest_law.nest_is_one.Goals as goal

pub returns : goal.returns
returns c = one_nest
