use Rattle.aseba_queue_tests.proofs.Joining.{done_at_once}
use Rattle.aseba_queue_tests.proofs.producers.push_all_at_once.Goals as goal

pub returns : goal.returns
returns g c = done_at_once c.args.queue.now c.args.producers.items c.push_each.result c.push_each.ensures
