use Rattle.std.proofs.Common.{◌∙◌, ap, ◌+◌, ◌-◌, [], ◌∷◌, ◌++◌, map}
use Rattle.aseba_tree.specs.CoreExpr.{cell}
use Rattle.aseba_tree.specs.View.{core_expr_view}
use Rattle.aseba_tree.specs.declared.core_tree.CoreExpr.TheVariants as code
use Rattle.aseba_expand.specs.Made.{cells_from}
use Rattle.aseba_expand.proofs.CoreViews.{cell-view}
use Rattle.aseba_expand.proofs.Lists.{next_cells, told-next, mapped-next}
use Rattle.aseba_expand.proofs.elements.cells.Goals as goal

pub loop-cell-preserved : goal.loop-cell-preserved
loop-cell-preserved c =
    let start = c.args.place.start in
    let size = c.args.place.size in
    let n = c.loop-cell.cell in
    told-next (map core_expr_view c.add.new.self) (map core_expr_view c.loop-cell.built) (cell (start + n)) (cells_from (start + (n + 1)) (size - (n + 1))) (cells_from (start + n) (size - n)) (cells_from start size)
    (mapped-next core_expr_view c.add.new.self c.loop-cell.built (code.Cell (start + n)) c.in_ok-add.ensures.ok ∙ ap (λ e. map core_expr_view c.loop-cell.built ++ e ∷ []) (cell-view (start + n))) (next_cells start size n c.loop-cell-test.true) c.loop-cell.invariant
