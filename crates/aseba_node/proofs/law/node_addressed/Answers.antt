use Rattle.aseba_node.proofs.Rows.{node_addressed}
use Rattle.aseba_node.proofs.law.node_addressed.Goals as goal

pub returns : goal.returns
returns c = node_addressed
