use Rattle.std.proofs.Common.{◌∙◌, ap}
use Rattle.aseba_check.specs.Told as told
use Rattle.aseba_check.proofs.ViewLaws.{items-view}
use Rattle.aseba_check.proofs.expressions.+walk_expr.Goals as goal

pub form_facts-returns-in-Items-clause-known : goal.form_facts-returns-in-Items-clause-known
form_facts-returns-in-Items-clause-known t c = rw (c.in-Items.is, items-view c.in-Items.items) (c.items_facts.ensures ∙ ap (λ o. told.items_facts c.args.first o) c.all_facts.ensures.known)
