use Rattle.std.proofs.Common.{◌≡◌, ◌++◌, take}
use Rattle.std.specs.List.{flat_map}
use Rattle.aseba_describe.specs.Spelling.{const_line}
use Rattle.aseba_describe.proofs.spelling.put_consts.Given as goal

abbrev pub invariant-loop-constant : goal.invariant-loop-constant
invariant-loop-constant l = l.out ≡ l.initial.out ++ flat_map const_line (take l.constant-index l.consts)
