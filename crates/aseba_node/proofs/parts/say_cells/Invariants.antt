use Rattle.std.proofs.Common.{◌≡◌, map}
use Rattle.std.specs.List.{range_with_len}
use Rattle.aseba_node.specs.Saying.{also_said}
use Rattle.aseba_node.specs.Told.{run_at, words_of}
use Rattle.aseba_node.proofs.parts.say_cells.Given as goal

-- the runs up to here were said
abbrev pub invariant-loop-which : goal.invariant-loop-which
invariant-loop-which l = l.outbox ≡ also_said (map (run_at l.start (words_of l.cells)) (range_with_len 0 l.which)) l.fn.outbox
