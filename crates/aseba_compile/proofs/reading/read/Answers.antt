use Rattle.std.proofs.Common.{ap, length, arith}
use Rattle.aseba_tree.specs.View.{project_view, source_view}
use Rattle.aseba_compile.specs.Reading.{IsTextRefused, syntax_refusal}
use Rattle.aseba_compile.proofs.OnlyTree.{only_tree, syntax-refused, of_refusal}
use Rattle.aseba_compile.proofs.reading.read.Goals as goal

pub returns-in_err-source-clause-fault : goal.returns-in_err-source-clause-fault
returns-in_err-source-clause-fault c =
    of_refusal c.from_residual-in_err-source.result (IsTextRefused (project_view c.args.project.now) c.args.text.now) (syntax_refusal c.in_err-source.field-0.0) c.from_residual-in_err-source.ensures.1
    (syntax-refused (project_view c.args.project.now) c.args.text.now c.in_ok-tokens.tokens c.as_slice.result.now c.end_of.result c.in_err-source.field-0.0 c.as_slice.ensures c.in_ok-tokens.ensures.tokens c.end_of.ensures
    c.in_err-source.ensures.fault)

pub returns-clause-tree : goal.returns-clause-tree
returns-clause-tree c =
    only_tree (project_view c.args.project.now) c.args.text.now c.in_ok-tokens.tokens c.as_slice.result.now c.end_of.result (source_view c.in_ok-source.source) c.as_slice.ensures c.in_ok-tokens.ensures.tokens
    c.in_ok-tokens.ensures.decided c.in_ok-source.ensures.tree c.in_ok-source.ensures.decided

pub returns-clause-shape : goal.returns-clause-shape
returns-clause-shape c =
    let same = ap length c.as_slice.ensures in
    c.in_ok-source.ensures.shape (omega (arith, c.in_ok-tokens.ensures.few, same, c.requires))
