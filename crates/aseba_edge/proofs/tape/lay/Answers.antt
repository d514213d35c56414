use Rattle.aseba_edge.proofs.Tapes.{laid-step}
use Rattle.aseba_edge.proofs.tape.lay.Goals as goal

pub loop-piece-preserved : goal.loop-piece-preserved
loop-piece-preserved c =
    laid-step c.loop-piece.bytes.items c.loop-piece.sizes.items _ _ c.as_slice.result.now c.piece-item.result c.args.pieces.now c.loop-piece.piece-index
    c.loop-piece-test.true c.piece-item.is c.as_slice.ensures c.in_ok-lay_piece.ensures.bytes c.in_ok-lay_piece.ensures.sizes c.loop-piece.invariant
