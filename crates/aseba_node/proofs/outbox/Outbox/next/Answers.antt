use Rattle.std.proofs.Common.{◌∙◌, ap, slice_get}
use Rattle.aseba_node.specs.Saying.{Spoken}
use Rattle.aseba_node.proofs.Steps.{first_taken}
use Rattle.aseba_node.proofs.outbox.Outbox.next.Goals as goal

pub returns-clause-frame : goal.returns-clause-frame
returns-clause-frame c =
    first_taken _ _ _ c.pop_front.ensures.items c.pop_front.ensures.rest ∙ ap (λ (view : Spoken). slice_get view.waiting 0) c.self.view_is
