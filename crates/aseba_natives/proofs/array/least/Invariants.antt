use Rattle.std.proofs.Common.{◌≡◌, drop}
use Rattle.std.specs.List.{fold}
use Rattle.std.specs.Int.{int_min}
use Rattle.aseba_words.specs.Natives.{least}
use Rattle.aseba_natives.proofs.array.least.Given as goal

abbrev pub invariant-loop-cell : goal.invariant-loop-cell
invariant-loop-cell l = fold int_min l.least (drop l.cell-index l.cell-items) ≡ least l.cells
