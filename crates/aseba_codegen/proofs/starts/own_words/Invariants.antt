-- What was counted and what is left to count are all.
use Rattle.std.proofs.Common.{◌≡◌, ◌+◌, ◌*◌, ◌≤◌, length, map, filter, sum_by, drop}
use Rattle.aseba_tree.specs.CoreNumbers.{is_handler, core_list_words, core_part_words, core_words}
use Rattle.aseba_tree.specs.View.{core_part_view, core_view, project_view}
use Rattle.aseba_codegen.proofs.starts.own_words.Given as goal

abbrev pub invariant-loop-part : goal.invariant-loop-part
invariant-loop-part l = record {
  all : l.words + 2 * length (filter is_handler (map core_part_view (drop l.part-index l.part-items))) + sum_by (core_part_words (project_view l.project)) (map core_part_view (drop l.part-index l.part-items))
      ≡ core_words (project_view l.project) (core_view l.core);
  few : core_words (project_view l.project) (core_view l.core) ≤ 18446744073709551615;
}
