use Rattle.std.proofs.Common.{◌∙◌, arith}
use Rattle.aseba_tools.proofs.Writing.{on_err}
use Rattle.aseba_message.proofs.Streams.{frame-begins, good-unless_long}
use Rattle.aseba_tools.proofs.Streams.{all_left, read_to, stream_goes_on, stream_cut, stream_ends_bad}
use Rattle.aseba_tools.proofs.frames.put_frames.Goals as goal

pub overflow_sub-begin : goal.overflow_sub-begin
overflow_sub-begin g c = omega (arith, frame-begins (read_to c.loop-place.invariant.0), c.held.ensures)

pub returns-in_err-put_ended-clause-part : goal.returns-in_err-put_ended-clause-part
returns-in_err-put_ended-clause-part g c =
    let fed = c.feed_piece-taken in
    on_err c.from_residual.result _
    (stream_cut c.loop-place.invariant.0 _ (all_left c.loop-place.place c.args.bytes.now) fed.result.count fed.ensures.within fed.result.fed fed.new.self fed.ensures.stream c.in_err-put_ended.ensures.part)

pub returns-in-TooLong-clause-end : goal.returns-in-TooLong-clause-end
returns-in-TooLong-clause-end g c =
    let fed = c.feed_piece-taken in
    (stream_ends_bad c.loop-place.invariant.0 _ (all_left c.loop-place.place c.args.bytes.now) fed.result.count fed.ensures.within fed.result.fed fed.new.self fed.ensures.stream c.in-TooLong.len c.in-TooLong.is fed.ensures.bad c.in_ok-put_ended.ensures.whole c.held.result c.held.ensures).0

pub returns-in-TooLong-clause-whole : goal.returns-in-TooLong-clause-whole
returns-in-TooLong-clause-whole g c =
    let fed = c.feed_piece-taken in
    (stream_ends_bad c.loop-place.invariant.0 _ (all_left c.loop-place.place c.args.bytes.now) fed.result.count fed.ensures.within fed.result.fed fed.new.self fed.ensures.stream c.in-TooLong.len c.in-TooLong.is fed.ensures.bad c.in_ok-put_ended.ensures.whole c.held.result c.held.ensures).1

pub loop-place-preserved : goal.loop-place-preserved
loop-place-preserved g c =
    let fed = c.feed_piece-taken in (
      stream_goes_on c.loop-place.invariant.0 _ (all_left c.loop-place.place c.args.bytes.now) fed.result.count fed.ensures.within fed.result.fed fed.new.self fed.ensures.stream c.in_ok-put_ended.ensures.whole
          (good-unless_long fed.new.self fed.result.fed fed.ensures.answer c.in_default.not-TooLong),
      c.in_ok-put_ended.ensures.count.cause ∙ c.loop-place.invariant.1,
    )
