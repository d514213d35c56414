use Rattle.std.proofs.Common.{◌∙◌, ap}
use Rattle.aseba_text.specs.Fields.{cut}
use Rattle.aseba_text.proofs.FieldLaws.{cut_takes, cut_again, cut_has_no_blank}
use Rattle.aseba_text.proofs.laws.cut_is_at_a_blank.Goals as goal

pub returns : goal.returns
returns c = λ text front behind. (λ h. (cut_has_no_blank text front behind h, cut_takes text front behind h), λ h. ap cut h.1 ∙ cut_again front behind h.0)
