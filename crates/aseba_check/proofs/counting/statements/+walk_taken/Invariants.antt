use Rattle.std.proofs.Common.{◌≡◌, drop}
use Rattle.aseba_tree.specs.View.{stmts_view}
use Rattle.aseba_check.specs.Looked.{looked}
use Rattle.aseba_check.specs.Statements.{known_of}
use Rattle.aseba_check.specs.CountedStatements.{none_taken, stmts_taken}
use Rattle.aseba_check.proofs.counting.statements.+walk_taken.Given as goal

abbrev pub invariant-body_taken-loop-stmt : goal.invariant-body_taken-loop-stmt
invariant-body_taken-loop-stmt l =
    stmts_taken (known_of l.world) (looked l.subs) l.jump l.taken (stmts_view (drop l.stmt-index l.stmt-items)) ≡ stmts_taken (known_of l.world) (looked l.subs) l.jump none_taken (stmts_view l.stmt-items)
