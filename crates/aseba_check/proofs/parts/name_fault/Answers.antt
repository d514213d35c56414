use Rattle.std.proofs.Common.{◌∙◌, ap, Bool}
use Rattle.aseba_check.specs.declared.fault.Rule.TheVariants as code
use Rattle.aseba_check.specs.Told.{fault_if}
use Rattle.aseba_check.proofs.Answering.{least-eq}
use Rattle.aseba_check.proofs.parts.name_fault.Goals as goal

pub returns : goal.returns
returns c =
    let at = c.args.part.now.at in
    let unknown = c.fault_if-unknown.ensures ∙ ap (λ (b : Bool). fault_if b at code.Unknown) c.is_strange.ensures in
    let duplicate = c.fault_if.ensures ∙ ap (λ (b : Bool). fault_if b at code.Duplicate) c.is_seen-is_seen.ensures in
    c.least.ensures ∙ least-eq _ _ _ _ unknown duplicate
