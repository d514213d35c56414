use Rattle.std.proofs.Common.{◌∙◌, ap, ◌+◌, ◌-◌, [], ◌∷◌, ◌++◌, map}
use Rattle.std.specs.List.{range_with_len}
use Rattle.aseba_tree.specs.CoreExpr.{cell, into}
use Rattle.aseba_tree.specs.View.{core_stmt_view}
use Rattle.aseba_expand.specs.Listed.{listed_moved, store_of}
use Rattle.aseba_expand.proofs.CoreViews.{cell-view}
use Rattle.aseba_expand.proofs.Lists.{moved_next, told-next}
use Rattle.aseba_expand.proofs.stores.add_moved.Goals as goal

pub loop-place-preserved : goal.loop-place-preserved
loop-place-preserved c =
    let line = c.args.line in
    let from = c.args.from in
    let start = c.args.cells.start in
    let size = c.args.cells.size in
    let n = c.loop-place.place in
    told-next (map core_stmt_view c.add_store.new.built) (map core_stmt_view c.loop-place.built) (store_of line (into (start + n)) (cell (from + n)))
    (listed_moved line (from + (n + 1)) (range_with_len (start + (n + 1)) (size - (n + 1)))) (listed_moved line (from + n) (range_with_len (start + n) (size - n)))
    (map core_stmt_view c.args.built.now ++ listed_moved line from (range_with_len start size)) (c.in_ok-add_store.ensures ∙ ap (λ e. map core_stmt_view c.loop-place.built ++ store_of line (into (start + n)) e ∷ []) (cell-view (from + n)))
    (moved_next line from start size n c.loop-place-test.true) c.loop-place.invariant
