use Rattle.aseba_debug.proofs.Rows.{sixteen_breakpoints}
use Rattle.aseba_debug.proofs.law.sixteen_breakpoints.Goals as goal

pub returns : goal.returns
returns c = sixteen_breakpoints
