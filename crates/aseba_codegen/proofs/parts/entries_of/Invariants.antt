-- What was added and what is left to add are all.
use Rattle.std.proofs.Common.{◌≡◌, map, ◌++◌, drop}
use Rattle.aseba_codegen.specs.Words.{handler_entries}
use Rattle.aseba_tree.specs.View.{core_part_view}
use Rattle.aseba_codegen.proofs.parts.entries_of.Given as goal

abbrev pub invariant-loop-which : goal.invariant-loop-which
invariant-loop-which l = l.entries ++ handler_entries l.starts l.which (map core_part_view (drop l.which l.parts)) ≡ handler_entries l.starts 0 (map core_part_view l.parts)
