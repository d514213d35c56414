-- The deepest statement so far and those that are left are the deepest of all.
use Rattle.std.proofs.Common.{◌≡◌, min, max, drop}
use Rattle.aseba_codegen.specs.OwnDepth.{depth_by}
use Rattle.aseba_tree.specs.View.{core_stmts_view}
use Rattle.aseba_codegen.proofs.stack.+depths.Given as goal

abbrev pub invariant-list_depth-loop-stmt : goal.invariant-list_depth-loop-stmt
invariant-list_depth-loop-stmt l =
    max l.deepest (min l.most (depth_by l.depths (core_stmts_view (drop l.stmt-index l.stmt-items)))) ≡ min l.most (depth_by l.depths (core_stmts_view l.stmt-items))
