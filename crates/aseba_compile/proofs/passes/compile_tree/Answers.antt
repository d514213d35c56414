use Rattle.std.proofs.Common.{subst}
use Rattle.std.specs.Prelude.{IfErr}
use Rattle.aseba_tree.specs.declared.source.Source.{Source}
use Rattle.aseba_check.specs.Refused.{program_in}
use Rattle.aseba_compile.specs.Refused.{IsTreeRefused}
use Rattle.aseba_compile.proofs.passes.compile_tree.Goals as goal

pub returns-clause-refusal : goal.returns-clause-refusal
returns-clause-refusal c =
    subst (λ (source : Source). IfErr c.compile_checked.result (IsTreeRefused (program_in c.args.project.now source))) c.in_ok-checked.ensures.same c.compile_checked.ensures.refusal
