use Rattle.std.proofs.Common.{rules, ◌≡◌, false}
use Rattle.aseba_tools.proofs.Alike.{same_sizes_more, sizes_stop}
use Rattle.aseba_tools.proofs.natives.have_same_sizes.Goals as goal

pub loop-i-preserved : goal.loop-i-preserved
loop-i-preserved c =
    same_sizes_more c.args.a.now c.args.b.now c.loop-i.i c.index-a-i.result c.index-b-i.result c.loop-i-test.true c.if-a-b.false c.index-a-i.is c.index-b-i.is (c.is_same_size.ensures.0 (search rules)) c.loop-i.invariant

pub returns-then-not-is_same_size : goal.returns-then-not-is_same_size
returns-then-not-is_same_size c =
    let other : c.is_same_size.result ≡ false = search rules in
    sizes_stop c.args.a.now c.args.b.now c.loop-i.i c.index-a-i.result c.index-b-i.result c.is_same_size.result c.loop-i-test.true c.if-a-b.false c.index-a-i.is c.index-b-i.is other c.is_same_size.ensures
