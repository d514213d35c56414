use Rattle.std.proofs.Common.{◌≡◌, drop, map}
use Rattle.aseba_tree.specs.View.{handler_view}
use Rattle.aseba_check.specs.Starts.{table_told}
use Rattle.aseba_check.proofs.far.table_words.Given as goal

abbrev pub invariant-loop-part : goal.invariant-loop-part
invariant-loop-part l = table_told l.words (map handler_view (drop l.part-index l.parts)) ≡ table_told 3 (map handler_view l.parts)
