use Rattle.std.proofs.Common.{◌-◌, ◌+◌, ◌∙◌, arith, rules, slice_index}
use Rattle.std.proofs.lemmas.Int.{to_z-of_z}
use Rattle.aseba_natives.specs.Operation.{cellwise_value}
use Rattle.aseba_natives.proofs.Each.{each-stores}
use Rattle.aseba_natives.proofs.cellwise.Cellwise.run.Goals as goal

pub loop-k-preserved : goal.loop-k-preserved
loop-k-preserved c =
    let starts = c.args.starts.now in
    each-stores (slice_index starts 0) (cellwise_value c.args.self starts) (c.from-k-end.result - c.loop-k.k) (c.from-k-end.result - (c.loop-k.k + 1)) c.loop-k.k c.loop-k.cells _ _ (omega arith) (omega arith) (search (rules, to_z-of_z)) ∙ c.loop-k.invariant
