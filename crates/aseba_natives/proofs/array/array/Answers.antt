use Rattle.std.proofs.Common.{arith}
use Rattle.aseba_natives.proofs.Arrays.{cells_of-stretch}
use Rattle.aseba_natives.proofs.array.array.Goals as goal

pub returns-clause-value : goal.returns-clause-value
returns-clause-value c =
    cells_of-stretch c.args.cells.now c.args.start c.args.len _ _ (omega arith) (omega arith) c.requires
