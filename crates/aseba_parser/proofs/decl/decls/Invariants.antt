use Rattle.std.proofs.Common.{◌≤◌, length, map}
use Rattle.aseba_tree.specs.declared.token.Key.{Key}
use Rattle.aseba_tree.specs.View.{decl_view}
use Rattle.aseba_parser.specs.Reading.{taken, is_key, decl_read, all_of}
use Rattle.aseba_parser.proofs.Loops.{Gathers}
use Rattle.aseba_parser.proofs.decl.decls.Given as goal

abbrev pub invariant-loop-alloc : goal.invariant-loop-alloc
invariant-loop-alloc l =
    (length l.rest ≤ length l.fn.tokens) ×
    Gathers (is_key Key.Var) (decl_read l.depth) (λ all behind. taken all behind) (map decl_view l.done) l.rest (all_of (is_key Key.Var) (decl_read l.depth) l.fn.tokens)

abbrev pub decreases-loop-alloc : goal.decreases-loop-alloc
decreases-loop-alloc l = length l.rest
