use Rattle.std.proofs.Common.{◌∙◌, ap, sym, Option}
use Rattle.std.specs.Prelude.{option_map}
use Rattle.aseba_check.specs.declared.fault.Fault.{Fault}
use Rattle.aseba_check.specs.Refused.{program_in}
use Rattle.aseba_check.specs.Told.{fault_view}
use Rattle.aseba_check.proofs.Refusals.{faultless}
use Rattle.aseba_check.proofs.checking.check.Goals as goal

pub laid_out-requires-clause-faultless : goal.laid_out-requires-clause-faultless
laid_out-requires-clause-faultless c =
    faultless (program_in c.args.project.now c.args.source) (record { told = ap (λ (o : Option Fault). option_map fault_view o) (sym c.in-None.is) ∙ c.in_ok-fault.ensures.told })
