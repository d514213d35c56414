use Rattle.std.proofs.Common.{◌∙◌, ap, map}
use Rattle.aseba_tree.specs.View.{core_stmt_view, decl_view}
use Rattle.aseba_expand.specs.Listed.{listed_values}
use Rattle.aseba_expand.specs.Scope.{program_of}
use Rattle.aseba_expand.proofs.ListedLaws.{init-fits, init-made, values-fit}
use Rattle.aseba_expand.proofs.expansion.init.Goals as goal

pub values-requires-clause-room : goal.values-requires-clause-room
values-requires-clause-room c = values-fit (program_of c.args.scope.now) (map decl_view c.as_slice.result.now) (ap (map decl_view) c.as_slice.ensures) c.requires.room

pub body-requires-clause-room : goal.body-requires-clause-room
body-requires-clause-room c = init-fits (program_of c.args.scope.now) c.requires.room

pub returns : goal.returns
returns c =
    let program = program_of c.args.scope.now in
    let values = c.in_ok-built.ensures ∙ ap (λ vars. listed_values program (map decl_view vars)) c.as_slice.ensures in
    init-made program (map core_stmt_view c.in_ok-built.built) (map core_stmt_view c.in_ok-stmts.stmts) (map core_stmt_view c.append.new.built) values c.in_ok-stmts.ensures c.in_ok-append.ensures
