use Rattle.std.proofs.Common.{◌∙◌, ap}
use Rattle.aseba_tree.specs.View.{expr_view}
use Rattle.aseba_check.specs.Looked.{looked}
use Rattle.aseba_check.specs.Told as told
use Rattle.aseba_check.proofs.statements.part_of.Goals as goal

pub returns-in-Span-clause-told : goal.returns-in-Span-clause-told
returns-in-Span-clause-told c =
    let from = told.facts_of (looked c.args.names.now) (expr_view c.in-Span.from) in
    rw c.in-Span.is
    (c.range_facts.ensures ∙ (ap (λ f. told.range_facts c.args.at c.args.at c.args.meaning f c.boxed_facts-to.result) c.boxed_facts-from.ensures.known
    ∙ ap (λ f. told.range_facts c.args.at c.args.at c.args.meaning from f) c.boxed_facts-to.ensures.known))
