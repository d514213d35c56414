-- What was counted and what is left to count are all.
use Rattle.std.proofs.Common.{◌≡◌, ◌+◌, ◌≤◌, map, filter, sum_by, drop}
use Rattle.aseba_codegen.specs.Words.{is_sub}
use Rattle.aseba_tree.specs.CoreNumbers.{core_part_words}
use Rattle.aseba_tree.specs.View.{core_part_view, project_view}
use Rattle.aseba_codegen.proofs.starts.subs_len.Given as goal

abbrev pub invariant-loop-part : goal.invariant-loop-part
invariant-loop-part l = record {
  all : l.len + sum_by (core_part_words (project_view l.project)) (filter is_sub (map core_part_view (drop l.part-index l.parts))) ≡ sum_by (core_part_words (project_view l.project)) (filter is_sub (map core_part_view l.parts));
  few : l.len + sum_by (core_part_words (project_view l.project)) (map core_part_view (drop l.part-index l.parts)) ≤ 65535;
}
