-- What was counted and what is left to count are all.
use Rattle.std.proofs.Common.{◌≡◌, map, ◌++◌, drop}
use Rattle.aseba_codegen.specs.OwnDepth.{depth_round}
use Rattle.aseba_tree.specs.View.{core_part_view}
use Rattle.aseba_codegen.proofs.stack.round.Given as goal

abbrev pub invariant-loop-part : goal.invariant-loop-part
invariant-loop-part l = l.next ++ depth_round l.most (map core_part_view (drop l.part-index l.parts)) l.depths ≡ depth_round l.most (map core_part_view l.parts) l.depths
