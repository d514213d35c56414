use Rattle.std.proofs.Common.{ap, length, length-drop, arith}
use Rattle.aseba_message.proofs.Streams.{good-unless_long}
use Rattle.aseba_node.proofs.Hearing.{all_left, begun_inside, hearing_goes_on, hearing_ends_bad}
use Rattle.aseba_node.proofs.link.hear.Goals as goal

pub overflow_sub-begin : goal.overflow_sub-begin
overflow_sub-begin c =
    let behind = c.requires.behind in
    omega (arith, begun_inside (c.loop-at.invariant.heard behind.0 behind.1), behind.1.many, c.held.ensures)

pub returns-in-TooLong-clause-bad : goal.returns-in-TooLong-clause-bad
returns-in-TooLong-clause-bad c = λ before b.
    let fed = c.feed_piece-taken in
    hearing_ends_bad (c.loop-at.invariant.heard before b) _ (all_left c.loop-at.at c.args.piece.now) fed.result.count fed.ensures.within fed.result.fed fed.new.self fed.ensures.stream c.in-TooLong.len c.in-TooLong.is fed.ensures.bad c.args.place c.held.result b.many c.held.ensures

pub loop-at-preserved : goal.loop-at-preserved
loop-at-preserved c =
    let fed = c.feed_piece-taken in
    let left = ap length (all_left c.loop-at.at c.args.piece.now) in
    record {
      inside = omega (arith, fed.ensures.within, left, length-drop c.loop-at.at c.args.piece.now, c.loop-at-test.true);
      heard = λ before b.
          hearing_goes_on (c.loop-at.invariant.heard before b) _ (all_left c.loop-at.at c.args.piece.now) fed.result.count fed.ensures.within fed.result.fed fed.new.self fed.ensures.stream c.deliver_ended.new.node (good-unless_long fed.new.self fed.result.fed fed.ensures.answer c.in_default.not-TooLong) c.in_ok-deliver_ended.ensures;
    }
