-- The deepest part so far and those that are left are the deepest of all.
use Rattle.std.proofs.Common.{◌≡◌, min, max, map, drop}
use Rattle.aseba_codegen.specs.OwnDepth.{depth_by, deepest_handler}
use Rattle.aseba_tree.specs.View.{core_part_view, core_stmts_view}
use Rattle.aseba_codegen.proofs.stack.deepest.Given as goal

abbrev pub invariant-loop-part : goal.invariant-loop-part
invariant-loop-part l =
    max l.deepest (min l.most (deepest_handler l.depths (map core_part_view (drop l.part-index l.part-items))))
    ≡ min l.most (max (depth_by l.depths (core_stmts_view (l.core).init)) (deepest_handler l.depths (map core_part_view l.part-items)))
