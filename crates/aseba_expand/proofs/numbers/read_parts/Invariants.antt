use Rattle.std.proofs.Common.{◌≡◌, true, drop, map}
use Rattle.std.specs.Prelude.{flat_map}
use Rattle.std.specs.List.{list_all}
use Rattle.aseba_tree.specs.Shape.{stmts_exprs}
use Rattle.aseba_tree.specs.View.{handler_view}
use Rattle.aseba_expand.specs.Literals.{has_cell_numbers}
use Rattle.aseba_expand.proofs.numbers.read_parts.Given as goal

abbrev pub invariant-loop-part : goal.invariant-loop-part
invariant-loop-part l =
    list_all has_cell_numbers (flat_map (λ h. stmts_exprs h.body) (map handler_view (drop l.part-index l.parts))) ≡ true → list_all has_cell_numbers (flat_map (λ h. stmts_exprs h.body) (map handler_view l.parts)) ≡ true
