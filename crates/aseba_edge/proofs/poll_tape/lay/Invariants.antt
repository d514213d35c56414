use Rattle.std.proofs.Common.{take}
use Rattle.aseba_edge.specs.PollTape.{Laid, full}
use Rattle.aseba_edge.proofs.poll_tape.lay.Given as goal

-- the answers so far are laid
abbrev pub invariant-loop-answer : goal.invariant-loop-answer
invariant-loop-answer l = Laid l.bytes.items l.turns.items (full (take l.answer-index l.answers))
