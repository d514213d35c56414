use Rattle.std.proofs.Common.{◌≡◌, ◌∙◌, ap, sym, None, Some, arith}
use Rattle.aseba_check.specs.CountedParts.{Depths}
use Rattle.aseba_check.proofs.counting.subs.settled.Goals as goal

pub loop-place-init : goal.loop-place-init
loop-place-init c = λ name depth q n le. let wrong : None ≡ Some depth = sym (ap (λ (d : Depths). d name) c.new-depths.ensures) ∙ q in cc

pub loop-place-preserved : goal.loop-place-preserved
loop-place-preserved c = λ name depth q n le. c.in_ok-settle.ensures c.loop-place.place-index c.loop-place.invariant name depth q n (omega arith)
