use Rattle.aseba_target.proofs.Rows.{for_loop, sub_call, when_edge, kill_in_expression}
use Rattle.aseba_target.proofs.worked_runs.Goals as goal

pub returns : goal.returns
returns c = record { for_loop = for_loop; sub_call = sub_call; when_edge = when_edge; kill_in_expression = kill_in_expression }
