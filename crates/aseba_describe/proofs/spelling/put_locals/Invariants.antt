use Rattle.std.proofs.Common.{◌≡◌, ◌++◌, take}
use Rattle.std.specs.List.{flat_map}
use Rattle.aseba_describe.specs.Spelling.{local_line}
use Rattle.aseba_describe.proofs.spelling.put_locals.Given as goal

abbrev pub invariant-loop-local : goal.invariant-loop-local
invariant-loop-local l = l.out ≡ l.initial.out ++ flat_map local_line (take l.local-index l.locals)
