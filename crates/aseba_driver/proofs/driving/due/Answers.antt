use Rattle.aseba_driver.proofs.EntriesDone.{due_more}
use Rattle.aseba_driver.proofs.driving.due.Goals as goal

pub loop-i-preserved : goal.loop-i-preserved
loop-i-preserved c = due_more c.args.ticks c.args.script.now c.loop-i.i c.index-script-i.result c.loop-i-test.true c.index-script-i.is c.if-entry-ticks.false c.loop-i.invariant
