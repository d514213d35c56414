use Rattle.aseba_edge.proofs.PollTapes.{laid-step}
use Rattle.aseba_edge.proofs.poll_tape.lay.Goals as goal

pub loop-answer-preserved : goal.loop-answer-preserved
loop-answer-preserved c =
    laid-step c.loop-answer.bytes.items _ c.loop-answer.turns.items _ c.answer-item.result c.args.answers.now c.loop-answer.answer-index
    c.loop-answer-test.true c.answer-item.is c.in_ok-lay_answer.ensures.bytes c.in_ok-lay_answer.ensures.turns c.loop-answer.invariant
