use Rattle.std.proofs.Common.{◌∙◌, ap}
use Rattle.aseba_check.specs.Looked.{looked}
use Rattle.aseba_check.specs.Declarations as told
use Rattle.aseba_check.proofs.declarations.project_names.Goals as goal

pub returns-clause-names : goal.returns-clause-names
returns-clause-names c =
    let project = c.args.project.now in
    c.in_ok-add_variables.ensures ∙ (ap (λ vs. told.with_variables (looked c.add_constants.new.names) vs) c.as_slice-2.ensures
    ∙ ap (λ n. told.with_variables n project.node.variables) (c.in_ok-add_constants.ensures.names ∙ (ap (λ cs. told.with_consts (looked c.new-names.result) cs) c.as_slice.ensures
    ∙ ap (λ n. told.with_consts n project.consts) c.new-names.ensures)))
