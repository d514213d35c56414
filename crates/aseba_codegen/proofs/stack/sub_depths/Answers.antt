use Rattle.std.proofs.Common.{map, length, arith, sym, ap, ◌∙◌}
use Rattle.aseba_codegen.specs.OwnDepth.{depth_round}
use Rattle.aseba_tree.specs.View.{core_part_view}
use Rattle.aseba_tree.proofs.Keywords.{same_bytes}
use Rattle.aseba_codegen.proofs.DepthLaws.{enough}
use Rattle.aseba_codegen.proofs.stack.sub_depths.Goals as goal

pub returns-then-eq : goal.returns-then-eq
returns-then-eq c =
    enough c.args.most (map core_part_view c.args.parts.now) c.loop.counter (length c.args.parts.now) c.loop.depths c.in_ok-next.next c.loop.invariant.rounds
    (c.in_ok-next.ensures ∙ ap (depth_round c.args.most (map core_part_view c.args.parts.now)) c.as_slice.ensures)
    (sym c.as_slice-in-loop.ensures ∙ same_bytes c.as_slice-in-loop.result.now c.as_slice-in-loop-2.result.now (sym c.eq.ensures ∙ c.if-eq.true) ∙ c.as_slice-in-loop-2.ensures) (omega arith)
