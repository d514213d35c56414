use Rattle.std.proofs.Common.{◌<◌, ◌≤◌, ◌*◌, arith}
use Rattle.aseba_tree.specs.Numbers.{source_words}
use Rattle.aseba_tree.specs.View.{core_view}
use Rattle.aseba_check.specs.Refused.{program_in}
use Rattle.aseba_codegen.proofs.Nodes.{node-inside}
use Rattle.aseba_compile.proofs.Refusals.{code-for}
use Rattle.aseba_compile.proofs.passes.image_of.Goals as goal

pub returns-clause-image : goal.returns-clause-image
returns-clause-image c =
    let source = program_in c.args.project.now c.args.checked.now.source in
    let id : c.args.project.now.id < 65536 = omega arith in
    let size = c.requires.numbers.size in
    let have = c.from-have.ensures in
    let near : source_words source ≤ 8 * c.args.project.now.node.code = omega arith in
    code-for source (core_view c.in_ok-core.core) c.in_ok-image.image (node-inside c.args.project.now c.requires.checked.inside id) near c.in_ok-core.ensures.core c.in_ok-image.ensures.image
