use Rattle.std.proofs.Common.{◌∙◌, ap, ◌∷◌}
use Rattle.std.specs.Option.{option_map}
use Rattle.aseba_text.specs.Fields.{fields_behind}
use Rattle.aseba_driver.proofs.FieldsRead.{first_of_more}
use Rattle.aseba_driver.proofs.fields.field.Goals as goal

pub returns-in-Some : goal.returns-in-Some
returns-in-Some c =
    first_of_more c.args.line.now c.first_field.result.0.now c.in-Some.rest.now
    (c.first_field.ensures.value ∙ ap (λ o. c.first_field.result.0.now ∷ fields_behind (option_map (λ rest. rest.now) o)) c.in-Some.is)
