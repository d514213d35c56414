use Rattle.std.proofs.Common.{◌∙◌, ap}
use Rattle.aseba_text.specs.Numbers.{cell_of}
use Rattle.aseba_text.proofs.CellLaws.{cell_takes, cell_again}
use Rattle.aseba_text.proofs.laws.cell_is_spelled.Goals as goal

pub returns : goal.returns
returns c = λ text z. (λ h. let t = cell_takes text z h in (t.1, t.0), λ h. ap cell_of h.1 ∙ cell_again z h.0)
