use Rattle.std.proofs.Common.{◌∙◌, ap}
use Rattle.aseba_check.specs.Looked.{looked}
use Rattle.aseba_check.specs.Parts as told
use Rattle.aseba_check.proofs.parts.project_events.Goals as goal

pub returns : goal.returns
returns c =
    let project = c.args.project.now in
    c.in_ok-add_locals.ensures ∙ (ap (λ ls. told.with_locals (looked c.add_globals.new.events) ls) c.as_slice-2.ensures
    ∙ ap (λ n. told.with_locals n project.node.locals) (c.in_ok-add_globals.ensures ∙ (ap (λ es. told.with_globals (looked c.new-events.result) es) c.as_slice.ensures
    ∙ ap (λ n. told.with_globals n project.events) c.new-events.ensures)))
