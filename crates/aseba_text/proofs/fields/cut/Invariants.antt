use Rattle.std.proofs.Common.{◌≡◌, take, drop, ◌++◌}
use Rattle.std.specs.Option.{option_map}
use Rattle.aseba_text.specs.Fields as spec
use Rattle.aseba_text.proofs.fields.cut.Given as goal

abbrev pub invariant-loop-i : goal.invariant-loop-i
invariant-loop-i l = spec.cut l.text ≡ option_map (λ c. (take l.i l.text ++ c.0, c.1)) (spec.cut (drop l.i l.text))
