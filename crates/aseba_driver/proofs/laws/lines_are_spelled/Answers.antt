use Rattle.aseba_driver.proofs.SpelledLaws.{spelled}
use Rattle.aseba_driver.proofs.laws.lines_are_spelled.Goals as goal

pub returns : goal.returns
returns c = spelled
