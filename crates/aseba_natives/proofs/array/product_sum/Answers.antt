use Rattle.std.proofs.Common.{◌≡◌, ◌+◌, get_or, drop, pos, ◌+ℤ◌, ◌*ℤ◌, FitsSigned, ap, ◌∙◌, arith, rules}
use Rattle.std.specs.Int.{w16}
use Rattle.std.proofs.lemmas.Int.{ints, to_z-of_z}
use Rattle.aseba_words.specs.Natives.{product_sum}
use Rattle.aseba_natives.proofs.Products.{product_sum-drop}
use Rattle.aseba_natives.proofs.array.product_sum.Goals as goal

pub loop-k-preserved : goal.loop-k-preserved
loop-k-preserved c =
    let a = c.args.a.now in
    let b = c.args.b.now in
    let k = c.loop-k.k in
    let x : FitsSigned w16 (get_or a k (pos 0)) = search rules in
    let y : FitsSigned w16 (get_or b k (pos 0)) = search rules in
    let same_x = to_z-of_z w16 (get_or a k (pos 0)) x in
    let same_y = to_z-of_z w16 (get_or b k (pos 0)) y in
    let product : get_or a k (pos 0) *ℤ get_or b k (pos 0) ≡ c.product-sum.result = cc in
    let step : product_sum (drop k a) (drop k b) ≡ c.product-sum.result +ℤ product_sum (drop (k + 1) a) (drop (k + 1) b) =
    product_sum-drop a b k c.loop-k-test.true (omega arith) ∙ ap (λ p. p +ℤ product_sum (drop (k + 1) a) (drop (k + 1) b)) product in
    (omega (arith, ints), omega (arith, ints))
