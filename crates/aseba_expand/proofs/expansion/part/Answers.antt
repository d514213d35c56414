use Rattle.std.proofs.Common.{refl, map}
use Rattle.aseba_tree.specs.View.{core_stmt_view, handler_view}
use Rattle.aseba_expand.specs.Scope.{program_of}
use Rattle.aseba_expand.proofs.ListedLaws.{part-made}
use Rattle.aseba_expand.proofs.expansion.part.Goals as goal

pub returns : goal.returns
returns c =
    part-made (program_of c.args.scope.now) (handler_view c.args.handler.now) c.args.handler.now.line c.handled.result (map core_stmt_view c.in_ok-stmts.stmts) refl c.handled.ensures c.in_ok-stmts.ensures
