use Rattle.std.proofs.Common.{◌≡◌, ◌+◌, ◌≤◌, ◌++◌, drop, map}
use Rattle.aseba_tree.specs.Layout.{cells_of_variables}
use Rattle.aseba_tree.specs.Numbers.{stmts_room}
use Rattle.aseba_tree.specs.View.{core_stmt_view, stmts_view}
use Rattle.aseba_expand.specs.Listed.{listed_all}
use Rattle.aseba_expand.specs.Scope.{program_of}
use Rattle.aseba_expand.proofs.statements.+statements.Given as goal

abbrev pub invariant-body-loop-stmt : goal.invariant-body-loop-stmt
invariant-body-loop-stmt l = record {
  made : map core_stmt_view l.built ++ listed_all (program_of l.scope) (stmts_view (drop l.stmt-index l.stmt-items)) ≡ listed_all (program_of l.scope) (stmts_view l.stmt-items);
  room : cells_of_variables (program_of l.scope) + stmts_room (program_of l.scope) (stmts_view (drop l.stmt-index l.stmt-items)) ≤ 65535;
}
