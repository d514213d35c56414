use Rattle.std.proofs.Common.{◌≡◌, IfOk, subst}
use Rattle.std.proofs.lemmas.List.{take_more}
use Rattle.aseba_tree.proofs.copies.copies.Goals as goal

pub loop-item-preserved : goal.loop-item-preserved
loop-item-preserved g c =
    let same : c.in_ok-copy.field-0 ≡ c.item-item.result = subst (λ r. IfOk r (λ x. x ≡ c.item-item.result)) c.in_ok-copy.was (c.requires.same _ _ c.copy.ensures) in
    let more = take_more c.as_slice-item-items.result.now c.loop-item.item-index c.item-item.result c.loop-item-test.true in
    cc c.in_ok-add.ensures.ok
