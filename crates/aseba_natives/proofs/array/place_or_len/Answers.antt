use Rattle.std.proofs.Common.{◌≡◌, ◌<◌, ℕ, false, get_or, pos, FitsSigned, sym, arith, rules, below_more, length}
use Rattle.std.specs.Int.{w16}
use Rattle.std.specs.Ordering.{int_eq}
use Rattle.std.proofs.lemmas.Int.{to_z-of_z}
use Rattle.std.proofs.lemmas.List.Sums.{position_or_len_is}
use Rattle.aseba_natives.proofs.Places.{int_eq-true, int_eq-false}
use Rattle.aseba_natives.proofs.array.place_or_len.Goals as goal

pub returns-then-cell-wanted-clause-place : goal.returns-then-cell-wanted-clause-place
returns-then-cell-wanted-clause-place c =
    let cells = c.args.cells.now in
    let wanted = c.args.wanted in
    let place = c.loop-place.place in
    let cell : FitsSigned w16 (get_or cells place (pos 0)) = search rules in
    let before : (k : ℕ) → k < place → int_eq (get_or cells k (pos 0)) wanted ≡ false = simp (to_z-of_z w16 wanted c.ranges.wanted) at c.loop-place.invariant in
    sym (position_or_len_is (λ x. int_eq x wanted) cells place (pos 0) (omega arith) before (λ _. int_eq-true (get_or cells place (pos 0)) wanted cell c.ranges.wanted c.if-cell-wanted.true))

pub loop-place-preserved : goal.loop-place-preserved
loop-place-preserved c =
    below_more _ _ c.loop-place.invariant
    (simp (to_z-of_z w16 c.args.wanted c.ranges.wanted) (int_eq-false (get_or c.args.cells.now c.loop-place.place (pos 0)) c.args.wanted c.if-cell-wanted.false))

pub returns-clause-place : goal.returns-clause-place
returns-clause-place c =
    let cells = c.args.cells.now in
    let wanted = c.args.wanted in
    let before : (k : ℕ) → k < length cells → int_eq (get_or cells k (pos 0)) wanted ≡ false = λ k h. simp (to_z-of_z w16 wanted c.ranges.wanted) at (c.loop-place.invariant k (omega arith)) in
    sym (position_or_len_is (λ x. int_eq x wanted) cells (length cells) (pos 0) (omega arith) before (λ h. absurd (omega arith)))
