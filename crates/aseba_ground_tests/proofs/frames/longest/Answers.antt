use Rattle.aseba_message.proofs.Standing.{frame_held}
use Rattle.aseba_ground_tests.proofs.frames.longest.Goals as goal

pub frame-requires : goal.frame-requires
frame-requires g c = frame_held c.feed_piece-taken.new.self c.feed_piece-taken.result.fed c.feed_piece-taken.ensures.answer c.in-Whole.is
