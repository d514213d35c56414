use Rattle.aseba_record.proofs.Played.{in_order}
use Rattle.aseba_record.proofs.laws.sends_in_order.Goals as goal

pub returns : goal.returns
returns c = in_order
