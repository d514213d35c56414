use Rattle.std.proofs.Common.{◌∙◌, ap}
use Rattle.aseba_text.specs.Numbers.{number_of}
use Rattle.aseba_text.proofs.NumberLaws.{number_takes, number_again}
use Rattle.aseba_text.proofs.laws.number_is_spelled.Goals as goal

pub returns : goal.returns
returns c = λ text n. (λ h. number_takes text n h, λ h. ap number_of h.1 ∙ number_again n h.0)
