use Rattle.std.proofs.Common.{arith, length-drop}
use Rattle.std.proofs.lemmas.List.{take_rest}
use Rattle.aseba_edge.proofs.Written.{write_more}
use Rattle.aseba_edge.proofs.writer_sink.write_on.Goals as goal

pub loop-preserved : goal.loop-preserved
loop-preserved g c = record {
  within = omega (arith, c.in-Some.ensures.within, c.loop.invariant.within, length-drop c.loop.taken c.args.piece.now);
  written = write_more _ _ _ c.loop.taken c.in-Some.count c.args.piece.now c.loop.invariant.written (rw (take_rest c.args.piece.now c.loop.taken) at c.in-Some.ensures.written);
}
