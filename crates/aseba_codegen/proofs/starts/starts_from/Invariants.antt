-- What was counted and what is left to count are all.
use Rattle.std.proofs.Common.{◌≡◌, ◌+◌, ◌≤◌, map, sum_by, ◌++◌, drop}
use Rattle.aseba_tree.specs.CoreNumbers.{core_part_words, core_starts_from}
use Rattle.aseba_tree.specs.View.{core_part_view, project_view}
use Rattle.aseba_codegen.proofs.starts.starts_from.Given as goal

abbrev pub invariant-loop-part : goal.invariant-loop-part
invariant-loop-part l = record {
  all : l.starts ++ core_starts_from (project_view l.project) l.at (map core_part_view (drop l.part-index l.parts)) ≡ core_starts_from (project_view l.project) l.initial.at (map core_part_view l.parts);
  few : l.at + sum_by (core_part_words (project_view l.project)) (map core_part_view (drop l.part-index l.parts)) ≤ 65535;
}
