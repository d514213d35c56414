-- What was counted and what is left to count are all.
use Rattle.std.proofs.Common.{◌≡◌, ◌+◌, ◌≤◌, map, sum_by, ◌++◌, drop}
use Rattle.aseba_codegen.specs.Words.{starts_apart}
use Rattle.aseba_tree.specs.CoreNumbers.{core_part_words}
use Rattle.aseba_tree.specs.View.{core_part_view, project_view}
use Rattle.aseba_codegen.proofs.starts.starts_of_kinds.Given as goal

abbrev pub invariant-loop-part : goal.invariant-loop-part
invariant-loop-part l = record {
  all : l.starts ++ starts_apart (project_view l.project) l.sub l.handler (map core_part_view (drop l.part-index l.parts)) ≡ starts_apart (project_view l.project) l.initial.sub l.initial.handler (map core_part_view l.parts);
  few : l.sub + l.handler + sum_by (core_part_words (project_view l.project)) (map core_part_view (drop l.part-index l.parts)) ≤ 131070;
  each : sum_by (core_part_words (project_view l.project)) (map core_part_view (drop l.part-index l.parts)) ≤ 65535;
}
