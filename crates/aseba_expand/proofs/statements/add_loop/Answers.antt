use Rattle.std.proofs.Common.{◌∙◌, ap, [], ◌∷◌, ◌++◌, map, append_assoc}
use Rattle.aseba_tree.specs.CoreExpr.{into}
use Rattle.aseba_tree.specs.Core.{CoreStmt, CoreForm, core_stmt, loop}
use Rattle.aseba_tree.specs.View.{core_expr_view, core_stmt_view, core_stmts_of, head_view}
use Rattle.aseba_expand.specs.Listed.{next_store, store_of}
use Rattle.aseba_expand.specs.Plain.{for_first, for_test, start_of}
use Rattle.aseba_expand.specs.Scope.{program_of}
use Rattle.aseba_expand.proofs.CoreViews.{loop-made}
use Rattle.aseba_expand.proofs.Lists.{mapped-next}
use Rattle.aseba_expand.proofs.Stored.{on-ok}
use Rattle.aseba_expand.proofs.statements.add_loop.Goals as goal

pub returns : goal.returns
returns c =
    let program = program_of c.args.scope.now in
    let line = c.args.line in
    let head = head_view c.args.head.now in
    let old = map core_stmt_view c.args.built.now in
    let then = map core_stmt_view c.args.then in
    let first = store_of line (into (start_of program head.name)) (for_first program head) in
    let test = ap core_expr_view c.in_ok-test.ensures ∙ c.in_ok-for_test.ensures in
    let turns = mapped-next core_stmt_view c.add.new.self c.args.then c.in_ok-next_store.field-0 c.in_ok-add.ensures.ok ∙ ap (λ (s : CoreStmt). then ++ s ∷ []) c.in_ok-next_store.ensures in
    let made = loop-made c.in_ok-test.test c.add.new.self (for_test program head) (then ++ next_store program line head ∷ []) test turns in
    let whole = core_stmt line (loop (for_test program head) (core_stmts_of (then ++ next_store program line head ∷ []))) in
    on-ok c.add_core.result _ _
    (λ all. all ∙ ap (λ (f : CoreForm). map core_stmt_view c.add_first.new.built ++ core_stmt line f ∷ []) made
    ∙ ap (λ built. built ++ whole ∷ []) c.in_ok-add_first.ensures ∙ append_assoc old (first ∷ []) (whole ∷ []))
    c.add_core.ensures
