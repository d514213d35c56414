-- What was added and what is left to add are all.
use Rattle.std.proofs.Common.{◌≡◌, map, filter, ◌++◌, drop}
use Rattle.aseba_codegen.specs.Words.{parts_code}
use Rattle.aseba_tree.specs.CoreNumbers.{is_handler}
use Rattle.aseba_tree.specs.View.{core_part_view, project_view}
use Rattle.aseba_codegen.proofs.parts.add_handlers.Given as goal

abbrev pub invariant-loop-part : goal.invariant-loop-part
invariant-loop-part l = l.code ++ parts_code (project_view l.project) l.starts (filter is_handler (map core_part_view (drop l.part-index l.parts))) ≡ l.initial.code ++ parts_code (project_view l.project) l.starts (filter is_handler (map core_part_view l.parts))
