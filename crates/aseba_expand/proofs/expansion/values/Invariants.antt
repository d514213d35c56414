use Rattle.std.proofs.Common.{◌≡◌, ◌+◌, ◌≤◌, ◌++◌, drop, map}
use Rattle.aseba_tree.specs.Layout.{cells_of_variables}
use Rattle.aseba_tree.specs.View.{core_stmt_view, decl_view}
use Rattle.aseba_expand.specs.Listed.{listed_values}
use Rattle.aseba_expand.specs.Rooms.{values_room}
use Rattle.aseba_expand.specs.Scope.{program_of}
use Rattle.aseba_expand.proofs.expansion.values.Given as goal

abbrev pub invariant-loop-decl : goal.invariant-loop-decl
invariant-loop-decl l = record {
  made : map core_stmt_view l.built ++ listed_values (program_of l.scope) (map decl_view (drop l.decl-index l.vars)) ≡ listed_values (program_of l.scope) (map decl_view l.vars);
  room : cells_of_variables (program_of l.scope) + values_room (program_of l.scope) (map decl_view (drop l.decl-index l.vars)) ≤ 65535;
}
