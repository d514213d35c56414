use Rattle.std.proofs.Common.{◌≡◌, List, ℕ, ◌++◌, map}
use Rattle.aseba_edge.specs.Sink.{Took}
use Rattle.aseba_tree.specs.Line.{lines_text}
use Rattle.aseba_tree.specs.View.{placed_view}
use Rattle.aseba_driver.specs.Driven.{var_lines}
use Rattle.aseba_driver.proofs.RunTold.{rest_text}
use Rattle.aseba_driver.proofs.driving.put_variables.Given as goal

-- the text of some variables was written, and with the text of the others it is all of it
abbrev pub invariant-loop-variable : goal.invariant-loop-variable
invariant-loop-variable g l =
    ((text : List ℕ) × Took (g.S.Sink.taken l.fn.out) text (g.S.Sink.taken l.out)
    × (text ++ rest_text l.cells l.variables l.variable-index ≡ lines_text (var_lines l.cells (map placed_view l.variables))))
    × (g.S.Sink.faults l.out ≡ g.S.Sink.faults l.fn.out)
