use Rattle.std.proofs.Common.{◌≡◌, set, to_z, of_z, FitsSigned, None, sym, ◌∙◌, rules, arith}
use Rattle.std.proofs.lemmas.Grind.{common_steps}
use Rattle.std.proofs.lemmas.Int.{to_z-of_z}
use Rattle.std.specs.Int.{w16}
use Rattle.aseba_vm.specs.State.{applied}
use Rattle.aseba_vm.proofs.Held.{applied-move, applied-none-each}
use Rattle.aseba_vm.proofs.lists.apply.Goals as goal
use Rattle.aseba_vm.proofs.lists.apply.Goals.{in-Some, in_default}

pub loop-address-preserved : goal.loop-address-preserved
loop-address-preserved c =
    elim c.match-held-address.branch [
      | in-Some w ↦
          let fits : FitsSigned w16 w.in-Some.value = search rules in
          let same : to_z w16 (of_z w16 w.in-Some.value) ≡ w.in-Some.value = to_z-of_z w16 w.in-Some.value fits in
          let moved : applied (set c.loop-address.cells c.loop-address.address w.in-Some.value) (set c.loop-address.held c.loop-address.address None) ≡ applied c.loop-address.cells c.loop-address.held =
          applied-move c.loop-address.cells c.loop-address.held c.loop-address.address w.in-Some.value w.in-Some.is in (
            rw (w.cells-is, w.held-is, same) (moved ∙ c.loop-address.invariant.0),
            λ k below. grind (arith, common_steps, c.loop-address.invariant.1 k),
            grind (arith, common_steps),
            grind (arith, common_steps),
          )
      | in_default w ↦ (
        rw (w.cells-is, w.held-is) c.loop-address.invariant.0,
        λ k below. grind (arith, common_steps, c.loop-address.invariant.1 k),
        grind (arith, common_steps),
        grind (arith, common_steps),
      )
    ]

pub returns-clause-applied : goal.returns-clause-applied
returns-clause-applied c =
    sym (applied-none-each c.loop-address.cells c.loop-address.held (λ k below. c.loop-address.invariant.1 k (omega arith))) ∙ c.loop-address.invariant.0
