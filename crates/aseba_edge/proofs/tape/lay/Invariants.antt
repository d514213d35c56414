use Rattle.std.proofs.Common.{take}
use Rattle.aseba_edge.specs.Tape.{Laid, full}
use Rattle.aseba_edge.proofs.tape.lay.Given as goal

-- the pieces so far are laid
abbrev pub invariant-loop-piece : goal.invariant-loop-piece
invariant-loop-piece l = Laid l.bytes.items l.sizes.items (full (take l.piece-index l.pieces))
