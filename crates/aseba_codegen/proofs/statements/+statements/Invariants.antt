-- The code of the statements so far and that of those that are left are the code of all.
use Rattle.std.proofs.Common.{◌≡◌, ◌++◌, drop}
use Rattle.aseba_codegen.specs.Words.{site_of, list_code}
use Rattle.aseba_tree.specs.View.{core_stmts_view, project_view}
use Rattle.aseba_codegen.proofs.statements.+statements.Given as goal

abbrev pub invariant-list_of-loop-stmt : goal.invariant-list_of-loop-stmt
invariant-list_of-loop-stmt l =
    l.code ++ list_code (site_of (project_view l.project) l.starts l.in_sub) (core_stmts_view (drop l.stmt-index l.stmt-items))
    ≡ list_code (site_of (project_view l.project) l.starts l.in_sub) (core_stmts_view l.stmt-items)
