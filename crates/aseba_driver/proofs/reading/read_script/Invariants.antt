use Rattle.std.proofs.Common.{◌+◌, ◌≤◌, length, map}
use Rattle.std.specs.Str.Lines.{lines}
use Rattle.aseba_tree.specs.View.{placed_view, project_view}
use Rattle.aseba_driver.proofs.ScriptLaws.{ReadSoFar}
use Rattle.aseba_driver.proofs.reading.read_script.Given as goal

-- some lines were read, and the others are left
abbrev pub invariant-loop-rest : goal.invariant-loop-rest
invariant-loop-rest l = record {
  so_far : ReadSoFar (project_view l.project) (map placed_view l.places) (lines l.text) (lines l.rest) l.script l.n;
  few : l.n + length l.rest ≤ 1 + length l.text;
}

abbrev pub decreases-loop-rest : goal.decreases-loop-rest
decreases-loop-rest l = length l.rest
