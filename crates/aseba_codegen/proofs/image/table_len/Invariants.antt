-- What was done and what is left to do are all.
use Rattle.std.proofs.Common.{◌≡◌, ◌+◌, ◌*◌, ◌≤◌, length, map, filter, drop}
use Rattle.aseba_tree.specs.CoreNumbers.{is_handler}
use Rattle.aseba_tree.specs.View.{core_part_view}
use Rattle.aseba_codegen.proofs.image.table_len.Given as goal

abbrev pub invariant-loop-part : goal.invariant-loop-part
invariant-loop-part l = record {
  all : l.len + 2 * length (filter is_handler (map core_part_view (drop l.part-index l.part-items))) ≡ 3 + 2 * length (filter is_handler (map core_part_view l.part-items));
  few : l.len + 2 * length (filter is_handler (map core_part_view (drop l.part-index l.part-items))) ≤ 65535;
}
