use Rattle.std.proofs.Common.{ap, ◌∙◌}
use Rattle.aseba_tree.specs.Step.{applied}
use Rattle.aseba_tree.proofs.Steps.{StopsWell-step, applied-none_held}
use Rattle.aseba_tree.proofs.laws.stops_store_nothing.Goals as goal

pub returns : goal.returns
returns c = record { cells = StopsWell-step; nothing_held = λ s h. ap (applied s.cells) h ∙ applied-none_held s.cells }
