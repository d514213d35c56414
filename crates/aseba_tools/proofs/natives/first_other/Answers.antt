use Rattle.std.proofs.Common.{rules, arith}
use Rattle.aseba_tools.specs.ProjectWord.{heading, headings}
use Rattle.aseba_tools.proofs.Alike.{one_more_same, mapped_at}
use Rattle.aseba_tools.proofs.natives.first_other.Goals as goal

pub loop-i-preserved : goal.loop-i-preserved
loop-i-preserved c = (
  one_more_same (headings c.args.natives.now) (headings c.args.known.now) c.loop-i.i (heading c.index-natives-i.result) (mapped_at heading c.args.natives.now c.loop-i.i c.index-natives-i.result c.loop-i-test.true c.index-natives-i.is)
      (c.is_known.ensures.0 (search rules)) c.loop-i.invariant.0,
  omega (arith, c.loop-i-test.true),
)
