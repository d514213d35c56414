use Rattle.std.proofs.Common.{◌≡◌, take}
use Rattle.aseba_tree.proofs.expr.+copy_expr.Given as goal

abbrev pub invariant-Form::copy-loop-item : goal.invariant-Form::copy-loop-item
invariant-Form::copy-loop-item l = l.copied ≡ take l.item-index l.item-items
