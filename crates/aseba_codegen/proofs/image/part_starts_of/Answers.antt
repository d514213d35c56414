use Rattle.std.proofs.Common.{map, ap, arith}
use Rattle.std.specs.Prelude.{sum_by}
use Rattle.aseba_tree.specs.CoreNumbers.{core_part_words}
use Rattle.aseba_tree.specs.View.{core_part_view, project_view, core_view}
use Rattle.aseba_codegen.proofs.Lengths.{starts-few}
use Rattle.aseba_codegen.proofs.image.part_starts_of.Goals as goal

pub overflow_add-behind : goal.overflow_add-behind
overflow_add-behind c = omega (arith, c.requires.init, c.in_ok-behind.ensures, starts-few (project_view c.args.project.now) (core_view c.args.core.now) 65535 c.requires.small)

pub overflow_add-behind-2 : goal.overflow_add-behind-2
overflow_add-behind-2 c = omega (arith, c.requires.init, c.in_ok-behind.ensures, starts-few (project_view c.args.project.now) (core_view c.args.core.now) 65535 c.requires.small)

pub starts_of_kinds-requires-clause-sum : goal.starts_of_kinds-requires-clause-sum
starts_of_kinds-requires-clause-sum c =
    let all = ap (λ ps. sum_by (core_part_words (project_view c.args.project.now)) (map core_part_view ps)) c.as_slice.ensures in
    omega (arith, all, c.table_len.ensures, c.requires.init, c.in_ok-behind.ensures, starts-few (project_view c.args.project.now) (core_view c.args.core.now) 65535 c.requires.small, c.requires.small)
