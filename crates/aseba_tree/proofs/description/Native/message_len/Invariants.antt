use Rattle.std.proofs.Common.{◌≡◌, ◌≤◌, ◌*◌, take, sum_by}
use Rattle.aseba_tree.specs.Inside.{param_message_len}
use Rattle.aseba_tree.proofs.description.Native.message_len.Given as goal

abbrev pub invariant-loop-param : goal.invariant-loop-param
invariant-loop-param l =
    (l.params ≡ sum_by param_message_len (take l.param-index l.param-items)) × (l.params ≤ 258 * l.param-index)
