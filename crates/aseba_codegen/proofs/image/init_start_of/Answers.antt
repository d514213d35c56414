use Rattle.std.proofs.Common.{map, ap, arith}
use Rattle.std.specs.Prelude.{sum_by, filter}
use Rattle.aseba_tree.specs.CoreNumbers.{core_part_words}
use Rattle.aseba_tree.specs.View.{core_part_view, project_view, core_view}
use Rattle.aseba_codegen.specs.Words.{is_sub}
use Rattle.aseba_codegen.proofs.Lengths.{apart-sum}
use Rattle.aseba_codegen.proofs.image.init_start_of.Goals as goal

pub overflow_add-result : goal.overflow_add-result
overflow_add-result c =
    let all = ap (λ ps. sum_by (core_part_words (project_view c.args.project.now)) (filter is_sub (map core_part_view ps))) c.as_slice.ensures in
    omega (arith, all, c.table_len-table.ensures, c.in_ok-subs_len.ensures, apart-sum (core_part_words (project_view c.args.project.now)) (core_view c.args.core.now).parts, c.requires)
