use Rattle.aseba_queue_tests.proofs.Joining.{relayed}
use Rattle.aseba_queue_tests.proofs.relays.settle.Goals as goal

pub returns : goal.returns
returns c = relayed _ _ c.args.items.now c.args.came.now c.requires.owner.1 c.requires.pass.1 _ c.join.ensures.joined c.total.ensures.total c.requires.as_many
