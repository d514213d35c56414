use Rattle.std.proofs.Common.{rules, ◌≡◌, ◌≤◌, ◌<◌, arith}
use Rattle.aseba_codegen.specs.Words.{code_words}
use Rattle.aseba_codegen.proofs.AnswerRuns.{words-run}
use Rattle.aseba_codegen.proofs.Nodes.{node-inside}
use Rattle.aseba_tree.specs.CoreNumbers.{core_depth, core_words}
use Rattle.aseba_tree.specs.View.{core_view, project_view}
use Rattle.aseba_codegen.proofs.image.generate.Goals as goal

pub returns-clause-runs : goal.returns-clause-runs
returns-clause-runs c =
    let id : c.args.project.now.id < 65536 = omega arith in
    let are : c.in_ok-words.words ≡ code_words (project_view c.args.project.now) (core_view c.args.core.now) = search rules in
    let fit : core_words (project_view c.args.project.now) (core_view c.args.core.now) ≤ c.args.project.now.node.code = search rules in
    let deep : core_depth (core_view c.args.core.now) ≤ c.args.project.now.node.stack = search rules in
    words-run (project_view c.args.project.now) (core_view c.args.core.now) c.in_ok-words.words (node-inside c.args.project.now c.requires.inside id) c.requires.core are fit deep
