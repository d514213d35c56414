use Rattle.std.proofs.Common.{◌∙◌, ap}
use Rattle.aseba_check.specs.Looked.{looked}
use Rattle.aseba_expand.specs.Tables as told
use Rattle.aseba_expand.proofs.tables.event_numbers.Goals as goal

pub returns : goal.returns
returns c =
    let project = c.args.project.now in
    c.in_ok-add_locals.ensures ∙ (ap (λ ls. told.with_locals (looked c.add_globals.new.known) 0 ls) c.as_slice-2.ensures
    ∙ ap (λ n. told.with_locals n 0 project.node.locals) (c.in_ok-add_globals.ensures ∙ (ap (λ es. told.with_globals (looked c.new-events.result) 0 es) c.as_slice.ensures
    ∙ ap (λ n. told.with_globals n 0 project.events) c.new-events.ensures)))
