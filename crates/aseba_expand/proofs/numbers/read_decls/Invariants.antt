use Rattle.std.proofs.Common.{◌≡◌, true, drop, map}
use Rattle.std.specs.Prelude.{flat_map}
use Rattle.std.specs.List.{list_all}
use Rattle.aseba_tree.specs.Shape.{decl_exprs}
use Rattle.aseba_tree.specs.View.{decl_view}
use Rattle.aseba_expand.specs.Literals.{has_cell_numbers}
use Rattle.aseba_expand.proofs.numbers.read_decls.Given as goal

abbrev pub invariant-loop-decl : goal.invariant-loop-decl
invariant-loop-decl l = list_all has_cell_numbers (flat_map decl_exprs (map decl_view (drop l.decl-index l.decls))) ≡ true → list_all has_cell_numbers (flat_map decl_exprs (map decl_view l.decls)) ≡ true
