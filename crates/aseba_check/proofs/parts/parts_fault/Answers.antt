use Rattle.std.proofs.Common.{◌∙◌, ap, map}
use Rattle.aseba_tree.specs.View.{handler_view}
use Rattle.aseba_check.specs.Looked.{looked, nothing}
use Rattle.aseba_check.specs.Statements.{known_of}
use Rattle.aseba_check.specs.Parts.{Seen, parts_told}
use Rattle.aseba_check.proofs.Answering.{ok-is}
use Rattle.aseba_check.proofs.parts.parts_fault.Goals as goal

pub returns-clause-told : goal.returns-clause-told
returns-clause-told c =
    let known = known_of c.args.world.now in
    let parts = map handler_view c.args.parts.now in
    ok-is c.walk_parts.result _ _ c.walk_parts.ensures.told
    (ap (λ (s : Seen). parts_told known s (looked c.new-events.result) c.args.before parts) c.new-subs.ensures ∙ ap (λ (s : Seen). parts_told known nothing s c.args.before parts) c.new-events.ensures)
