use Rattle.std.proofs.Common.{◌≡◌, ◌*◌, length, pos, rules, arith, int_div, neg_ℤ, ◌≤ℤ◌, w64, to_z}
use Rattle.std.specs.Int.{w16}
use Rattle.std.proofs.lemmas.Int.{ints, to_z-of_z}
use Rattle.aseba_natives.proofs.Quotients.{mean-fits}
use Rattle.aseba_natives.proofs.array.mean.Goals as goal

pub returns : goal.returns
returns c =
    let count = length c.args.cells.now in
    let as_i64 : to_z w64 count ≡ pos count = omega (arith, ints) in
    let low : neg_ℤ (pos (32768 * count)) ≤ℤ c.sum.result = c.sum.ensures.low in
    let high : c.sum.result ≤ℤ pos (32767 * count) = c.sum.ensures.high in
    let sum = to_z-of_z w64 c.sum.result (search rules) in
    let quotient = to_z-of_z w64 c.quotient.result (search rules) in
    let cell = to_z-of_z w16 (int_div c.sum.result (pos count)) (mean-fits c.sum.result count low high) in
    cc
