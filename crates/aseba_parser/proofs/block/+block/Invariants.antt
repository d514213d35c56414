use Rattle.std.proofs.Common.{◌+◌, ◌*◌, ◌≤◌, length, map}
use Rattle.aseba_tree.specs.View.{project_view, stmt_view, stmts_of}
use Rattle.aseba_parser.specs.Reading.{taken, begins_stmt, stmt_read, stmts_read, block_of}
use Rattle.aseba_parser.proofs.Loops.{Gathers}
use Rattle.aseba_parser.proofs.block.+block.Given as goal

abbrev pub invariant-stmts-loop-alloc : goal.invariant-stmts-loop-alloc
invariant-stmts-loop-alloc l =
    let p = project_view l.project in
    (length l.rest ≤ length l.fn.tokens) ×
    Gathers begins_stmt (stmt_read p l.depth (block_of p l.depth)) (λ all behind. taken (stmts_of all) behind) (map stmt_view l.done) l.rest (stmts_read p l.depth (block_of p l.depth) l.fn.tokens)

abbrev pub decreases-stmts-loop-alloc : goal.decreases-stmts-loop-alloc
decreases-stmts-loop-alloc l = length l.rest

abbrev pub decreases-stmts : goal.decreases-stmts
decreases-stmts l = 10 * l.depth + 5

abbrev pub decreases-another : goal.decreases-another
decreases-another l = 10 * l.depth + 4

abbrev pub decreases-stmt : goal.decreases-stmt
decreases-stmt l = 10 * l.depth + 3

abbrev pub decreases-if_stmt : goal.decreases-if_stmt
decreases-if_stmt l = 10 * l.depth + 2

abbrev pub decreases-when_stmt : goal.decreases-when_stmt
decreases-when_stmt l = 10 * l.depth + 2

abbrev pub decreases-while_stmt : goal.decreases-while_stmt
decreases-while_stmt l = 10 * l.depth + 2

abbrev pub decreases-for_stmt : goal.decreases-for_stmt
decreases-for_stmt l = 10 * l.depth + 2

abbrev pub decreases-branch : goal.decreases-branch
decreases-branch l = 10 * l.inside + 8

abbrev pub decreases-other : goal.decreases-other
decreases-other l = 10 * l.depth + 7

abbrev pub decreases-elseif : goal.decreases-elseif
decreases-elseif l = 10 * l.depth + 6

abbrev pub decreases-body : goal.decreases-body
decreases-body l = 10 * l.inside + 7
