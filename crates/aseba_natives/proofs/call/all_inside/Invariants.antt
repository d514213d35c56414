-- Those that were looked at lie inside, so all do where the rest does.
use Rattle.std.proofs.Common.{◌≡◌, drop}
use Rattle.aseba_natives.specs.Call.{all_inside}
use Rattle.aseba_natives.proofs.call.all_inside.Given as goal

abbrev pub invariant-loop-i : goal.invariant-loop-i
invariant-loop-i l =
    all_inside l.count l.len (drop l.i l.sizes) (drop l.i l.starts) ≡ all_inside l.count l.len l.sizes l.starts
