use Rattle.std.proofs.Common.{◌∙◌}
use Rattle.aseba_tools.proofs.Writing.{told}
use Rattle.aseba_tools.proofs.telling.tell.Goals as goal

pub returns : goal.returns
returns g c =
    told c.put_pieces.result _ _ _ _ _ _ (c.message_of_line-message.ensures ∙ c.row.ensures.line) c.put_pieces.ensures.whole c.put_pieces.ensures.part c.put_pieces.ensures.count
