use Rattle.std.proofs.Common.{◌∙◌, ap, Bool, Option}
use Rattle.std.specs.Prelude.{is_some, option_map}
use Rattle.aseba_tree.specs.View.{expr_view}
use Rattle.aseba_check.specs.declared.fault.Rule.TheVariants as code
use Rattle.aseba_check.specs.declared.facts.Facts.{Facts}
use Rattle.aseba_check.specs.Looked.{looked}
use Rattle.aseba_check.specs.Told.{fault_if}
use Rattle.aseba_check.specs.Declarations as told
use Rattle.aseba_check.proofs.Answering.{least-eq}
use Rattle.aseba_check.proofs.declarations.declaration_fault.Goals as goal

pub returns-clause-told : goal.returns-clause-told
returns-clause-told c =
    let names = looked c.args.names.now in
    let decl = c.args.decl.now in
    let known = c.is_some-is_known.ensures ∙ ap is_some c.find.ensures in
    let duplicate = c.fault_if-duplicate.ensures ∙ ap (λ (b : Bool). fault_if b decl.at code.Duplicate) known in
    let size = c.size_fault.ensures ∙ ap (λ (s : Option Facts). told.size_told decl.at s) c.requires in
    let given = c.given_size-want.ensures ∙ ap (λ (s : Option Facts). told.given_size s) c.requires in
    let value = c.value_fault.ensures.told ∙ ap (λ w. told.value_told names decl.equals w (option_map expr_view decl.value)) given in
    c.least.ensures ∙ least-eq _ _ _ _ (c.least-inside.ensures ∙ least-eq _ _ _ _ duplicate size) value
