use Rattle.std.proofs.Common.{◌≡◌, drop}
use Rattle.std.specs.List.{fold}
use Rattle.std.specs.Int.{int_max}
use Rattle.aseba_words.specs.Natives.{greatest}
use Rattle.aseba_natives.proofs.array.greatest.Given as goal

abbrev pub invariant-loop-cell : goal.invariant-loop-cell
invariant-loop-cell l = fold int_max l.greatest (drop l.cell-index l.cell-items) ≡ greatest l.cells
