use Rattle.std.proofs.Common.{◌≡◌, ◌++◌, map}
use Rattle.std.specs.Vec.Iter.{into_iter_items}
use Rattle.aseba_tree.specs.View.{core_stmt_view}
use Rattle.aseba_expand.proofs.expansion.append.Given as goal

abbrev pub invariant-loop-stmt : goal.invariant-loop-stmt
invariant-loop-stmt l = map core_stmt_view l.built ++ map core_stmt_view (into_iter_items l.stmt-iterator) ≡ map core_stmt_view l.fn.built ++ map core_stmt_view l.fn.more
