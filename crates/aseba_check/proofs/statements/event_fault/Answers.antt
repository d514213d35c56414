use Rattle.std.proofs.Common.{◌∙◌, ap}
use Rattle.aseba_tree.specs.View.{expr_view}
use Rattle.aseba_check.specs.Looked.{looked}
use Rattle.aseba_check.specs.Told.{facts_of}
use Rattle.aseba_check.specs.Statements as told
use Rattle.aseba_check.proofs.statements.event_fault.Goals as goal

pub returns-in-Some-clause-told : goal.returns-in-Some-clause-told
returns-in-Some-clause-told c =
    rw c.in-Some.is (c.emitted_fault.ensures ∙ ap (λ f. told.emitted c.args.at c.args.size f) (c.facts_of-facts.ensures.known ∙ ap (λ e. facts_of (looked c.args.world.now.names) (expr_view e)) c.get.ensures))
