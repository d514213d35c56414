-- What was added and what is left to add are all.
use Rattle.std.proofs.Common.{◌≡◌, ◌++◌, drop}
use Rattle.aseba_codegen.proofs.code.add_code.Given as goal

abbrev pub invariant-loop-coded : goal.invariant-loop-coded
invariant-loop-coded l = l.code ++ drop l.coded-index l.more ≡ l.initial.code ++ l.more
