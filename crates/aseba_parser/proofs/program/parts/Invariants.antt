use Rattle.std.proofs.Common.{◌≤◌, length, map}
use Rattle.aseba_tree.specs.View.{project_view, handler_view}
use Rattle.aseba_parser.specs.Reading.{taken, begins_part, part_of, all_of}
use Rattle.aseba_parser.proofs.Loops.{Gathers}
use Rattle.aseba_parser.proofs.program.parts.Given as goal

abbrev pub invariant-loop-alloc : goal.invariant-loop-alloc
invariant-loop-alloc l =
    (length l.rest ≤ length l.fn.tokens) ×
    Gathers begins_part (part_of (project_view l.project) l.depth) (λ all behind. taken all behind) (map handler_view l.done) l.rest (all_of begins_part (part_of (project_view l.project) l.depth) l.fn.tokens)

abbrev pub decreases-loop-alloc : goal.decreases-loop-alloc
decreases-loop-alloc l = length l.rest
