use Rattle.aseba_text.proofs.LineLaws.{first_is, last_is}
use Rattle.aseba_text.proofs.lines.first_line.Goals as goal

pub returns-then-b-eq10-clause-first : goal.returns-then-b-eq10-clause-first
returns-then-b-eq10-clause-first c =
    first_is c.args.text.now _ c.loop-i.i c.loop-i-test.true c.if-b-eq10.true c.loop-i.invariant c.without_return.ensures

pub returns-clause-first : goal.returns-clause-first
returns-clause-first c = last_is c.args.text.now c.loop-i.i c.requires c.loop-i-test.false c.loop-i.invariant
