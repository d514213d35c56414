use Rattle.std.proofs.Common.{◌≡◌, drop}
use Rattle.aseba_tree.specs.View.{stmts_view}
use Rattle.aseba_tree.specs.Each.{EachStmts}
use Rattle.aseba_check.specs.Fits.{Fits}
use Rattle.aseba_check.specs.Statements.{known_of, stmts_told}
use Rattle.aseba_check.proofs.statements.+walk_stmt.Given as goal

abbrev pub invariant-body_fault-loop-stmt : goal.invariant-body_fault-loop-stmt
invariant-body_fault-loop-stmt l = record {
  told : stmts_told (known_of l.world) l.fault (stmts_view (drop l.stmt-index l.stmt-items)) ≡ stmts_told (known_of l.world) l.fn.before (stmts_view l.stmt-items);
  fits : EachStmts Fits (stmts_view (drop l.stmt-index l.stmt-items)) → EachStmts Fits (stmts_view l.stmt-items);
}
