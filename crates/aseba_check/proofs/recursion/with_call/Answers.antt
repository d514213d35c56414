use Rattle.std.proofs.Common.{◌∙◌, ap, Bool, Option}
use Rattle.aseba_check.specs.declared.fault.Rule.TheVariants as code
use Rattle.aseba_check.specs.declared.fault.Fault.{Fault}
use Rattle.aseba_check.specs.Told as told
use Rattle.aseba_check.proofs.recursion.with_call.Goals as goal

pub returns : goal.returns
returns c =
    c.least.ensures ∙ ap (λ (o : Option Fault). told.least c.args.before o) (c.fault_if.ensures ∙ ap (λ (b : Bool). told.fault_if b c.args.call.now.at code.Recursion) c.in_ok-closes.ensures)
