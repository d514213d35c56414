use Rattle.std.proofs.Common.{◌≡◌, take}
use Rattle.aseba_tree.proofs.core_tree.+copy_core.Given as goal

abbrev pub invariant-copy_body-loop-stmt : goal.invariant-copy_body-loop-stmt
invariant-copy_body-loop-stmt l = l.copied ≡ take l.stmt-index l.stmt-items
