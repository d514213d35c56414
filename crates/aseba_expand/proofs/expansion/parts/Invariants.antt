use Rattle.std.proofs.Common.{◌≡◌, ◌+◌, ◌≤◌, ◌++◌, drop, map}
use Rattle.aseba_tree.specs.Layout.{cells_of_variables}
use Rattle.aseba_tree.specs.Numbers.{greatest, stmts_room}
use Rattle.aseba_tree.specs.View.{core_part_view, handler_view}
use Rattle.aseba_expand.specs.Plain.{plain_part}
use Rattle.aseba_expand.specs.Scope.{program_of}
use Rattle.aseba_expand.proofs.expansion.parts.Given as goal

abbrev pub invariant-loop-handler : goal.invariant-loop-handler
invariant-loop-handler l = record {
  made : map core_part_view l.built ++ map (plain_part (program_of l.scope)) (map handler_view (drop l.handler-index l.handlers)) ≡ map (plain_part (program_of l.scope)) (map handler_view l.handlers);
  room : cells_of_variables (program_of l.scope) + greatest (map (λ h. stmts_room (program_of l.scope) h.body) (map handler_view (drop l.handler-index l.handlers))) ≤ 65535;
}
