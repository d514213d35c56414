use Rattle.std.proofs.Common.{◌≡◌, ◌≢◌, Some, ap, of_z, rules, arith, ℤ, pos, ◌*ℤ◌, int_div, w64}
use Rattle.std.specs.Int.{w16}
use Rattle.std.proofs.lemmas.Int.{ints, to_z-of_z}
use Rattle.aseba_words.specs.Cell.{divided, wrapped}
use Rattle.aseba_natives.proofs.cellwise.muldiv.Goals as goal

divided-some : (c v : ℤ) → c ≢ pos 0 → divided c v ≡ Some (wrapped v)
divided-some c v h = grind (arith, ints)

pub returns : goal.returns
returns c =
    let a = to_z-of_z w16 c.args.a c.ranges.a in
    let b = to_z-of_z w16 c.args.b c.ranges.b in
    let d = to_z-of_z w16 c.args.c c.ranges.c in
    let from = to_z-of_z w64 c.from.result (search rules) in
    let product = to_z-of_z w64 c.product.result (search rules) in
    let quotient = to_z-of_z w64 c.quotient.result (search rules) in
    let cell = to_z-of_z w16 c.wrap.result (search rules) in
    let nonzero : c.args.c ≢ pos 0 = λ e. c.if-c-eq0.false (ap (of_z w16) e) in
    let some = divided-some c.args.c (int_div (c.args.a *ℤ c.args.b) c.args.c) nonzero in
    cc
