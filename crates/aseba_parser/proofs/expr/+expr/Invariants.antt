use Rattle.std.proofs.Common.{◌≡◌, ◌+◌, ◌-◌, ◌*◌, ◌≤◌, ◌<◌, length, map}
use Rattle.aseba_tree.specs.View.{expr_view}
use Rattle.aseba_parser.specs.Reading as reading
use Rattle.aseba_parser.specs.Reading.{expr_read}
use Rattle.aseba_parser.proofs.Commas.{Lists}
use Rattle.aseba_parser.proofs.Growth.{Grows}
use Rattle.aseba_parser.proofs.expr.+expr.Given as goal

abbrev pub decreases-expr : goal.decreases-expr
decreases-expr l = 300 * l.depth + 20 * l.level + 10

abbrev pub decreases-prefixed : goal.decreases-prefixed
decreases-prefixed l = 300 * l.depth + 20 * l.level + 9

abbrev pub decreases-unprefixed : goal.decreases-unprefixed
decreases-unprefixed l = 300 * l.depth + 20 * l.level + 9

abbrev pub decreases-raised : goal.decreases-raised
decreases-raised l = 300 * l.depth + 20 * l.level + 8

abbrev pub decreases-operations : goal.decreases-operations
decreases-operations l = 300 * l.depth + 20 * l.level + 6

abbrev pub decreases-operation : goal.decreases-operation
decreases-operation l = 300 * l.depth + 20 * l.level + 4

abbrev pub decreases-leaf : goal.decreases-leaf
decreases-leaf l = 300 * l.depth + 6

abbrev pub decreases-parenthesised : goal.decreases-parenthesised
decreases-parenthesised l = 300 * l.inside + 240

abbrev pub decreases-bracketed : goal.decreases-bracketed
decreases-bracketed l = 300 * l.inside + 260

abbrev pub decreases-list : goal.decreases-list
decreases-list l = 300 * l.inside + 250

abbrev pub decreases-element : goal.decreases-element
decreases-element l = 300 * l.inside + 240

abbrev pub decreases-target : goal.decreases-target
decreases-target l = 300 * l.depth + 5

abbrev pub decreases-part : goal.decreases-part
decreases-part l = 300 * l.depth + 4

abbrev pub decreases-index_end : goal.decreases-index_end
decreases-index_end l = 300 * l.inside + 240

abbrev pub invariant-raised-loop-own : goal.invariant-raised-loop-own
invariant-raised-loop-own l =
    (length l.rest ≤ length l.fn.tokens) × (l.done ≤ l.level) ×
    (reading.raised (reading.inside_of l.depth) l.done l.level (expr_view l.left) l.rest ≡ reading.raised (reading.inside_of l.depth) l.fn.above l.level (expr_view l.fn.first) l.fn.tokens)

abbrev pub decreases-raised-loop-own : goal.decreases-raised-loop-own
decreases-raised-loop-own l = l.level - l.done

abbrev pub invariant-operations-loop-found : goal.invariant-operations-loop-found
invariant-operations-loop-found l =
    (length l.rest ≤ length l.fn.tokens) ×
    Grows l.level (expr_read l.depth (l.level - 1)) (expr_view l.left) l.rest (reading.operations l.level (expr_read l.depth (l.level - 1)) (expr_view l.fn.first) l.fn.tokens)

abbrev pub decreases-operations-loop-found : goal.decreases-operations-loop-found
decreases-operations-loop-found l = length l.rest

abbrev pub decreases-list-loop-after : goal.decreases-list-loop-after
decreases-list-loop-after l = length l.rest

abbrev pub invariant-list-loop-after : goal.invariant-list-loop-after
invariant-list-loop-after l =
    (length l.rest < length l.fn.tokens) × Lists (expr_read l.inside) (map expr_view l.elements) l.rest (reading.list_read (expr_read l.inside) l.fn.tokens)
