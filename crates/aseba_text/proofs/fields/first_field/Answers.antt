use Rattle.std.proofs.Common.{sym, ap, ◌∙◌}
use Rattle.std.specs.Option.{option_map}
use Rattle.aseba_text.proofs.FieldLaws.{fields_cut, fields_whole}
use Rattle.aseba_text.proofs.fields.first_field.Goals as goal

pub returns-in-Some-clause-value : goal.returns-in-Some-clause-value
returns-in-Some-clause-value c = fields_cut c.args.text.now _ _ (sym c.cut.ensures.value ∙ ap (option_map (λ p. (p.0.now, p.1.now))) c.in-Some.is)

pub returns-in-None-clause-value : goal.returns-in-None-clause-value
returns-in-None-clause-value c = fields_whole c.args.text.now (sym c.cut.ensures.value ∙ ap (option_map (λ p. (p.0.now, p.1.now))) c.in-None.is)
