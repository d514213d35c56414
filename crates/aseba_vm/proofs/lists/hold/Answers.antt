use Rattle.std.proofs.Common.{◌≡◌, map, Some, take, get_or, ℤ, pos, to_z, of_z, FitsSigned, sym, rules, arith}
use Rattle.std.proofs.lemmas.Int.{to_z-of_z}
use Rattle.std.specs.Int.{w16}
use Rattle.aseba_vm.specs.Lists.{overwritten}
use Rattle.aseba_vm.proofs.Overwrites.{held-more}
use Rattle.aseba_vm.proofs.lists.hold.Goals as goal

pub loop-place-preserved : goal.loop-place-preserved
loop-place-preserved c =
    let v : ℤ = get_or c.args.values.now c.loop-place.place (pos 0) in
    let fits : FitsSigned w16 v = search rules in
    let same : to_z w16 (of_z w16 v) ≡ v = to_z-of_z w16 v fits in
    let more = held-more c.args.start c.loop-place.place c.args.values.now c.args.held.now (omega arith) c.requires in
    let so_far : c.loop-place.held ≡ overwritten c.args.start (map Some (take c.loop-place.place c.args.values.now)) c.args.held.now = c.loop-place.invariant in
    rw (same, so_far) (sym more)
