use Rattle.std.proofs.Common.{◌≡◌, ◌+◌, ◌-◌, ◌++◌, map}
use Rattle.std.specs.List.{range_with_len}
use Rattle.aseba_tree.specs.View.{core_stmt_view}
use Rattle.aseba_expand.specs.Listed.{listed_moved}
use Rattle.aseba_expand.proofs.stores.add_moved.Given as goal

abbrev pub invariant-loop-place : goal.invariant-loop-place
invariant-loop-place l =
    map core_stmt_view l.built ++ listed_moved l.line (l.from + l.place) (range_with_len (l.cells.start + l.place) (l.cells.size - l.place))
    ≡ map core_stmt_view l.fn.built ++ listed_moved l.line l.from (range_with_len l.cells.start l.cells.size)
