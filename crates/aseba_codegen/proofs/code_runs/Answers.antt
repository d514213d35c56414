use Rattle.aseba_codegen.proofs.CodeLaw.{code_runs, code_calls}
use Rattle.aseba_codegen.proofs.code_runs.Goals as goal

pub returns : goal.returns
returns c = record { runs = code_runs; calls = code_calls }
